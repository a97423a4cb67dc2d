use Rattle.std.proofs.Common.{ℕ, List, [], ◌∷◌, length, refl, arith}
use Rattle.refusal.specs.Check.{Numbered, checked_of}
use Rattle.refusal.proofs.Laws.{stop, pass}
use Rattle.pack.specs.Writing.{values_check, count_check}
use Rattle.pack.proofs.Writing.{name_refused, name_passed}
use Rattle.pack.proofs.check_data.Goals as goal

-- what is asked of the values, once the name is good
abbrev counted : List ℕ → List Numbered
counted values = values_check (length values) ∷ count_check 513 (length values) ∷ []

pub returns-then-room-values : goal.returns-then-room-values
unfolding checked_of
returns-then-room-values c = stop 0 _ _ _ (omega arith) c.refuse.ensures

pub returns-in_err-check_source_name : goal.returns-in_err-check_source_name
returns-in_err-check_source_name c = name_refused _ _ _ (counted _) (omega arith) c.in_err-check_source_name.ensures c.from_residual.ensures.1

pub returns-then-values-eq0 : goal.returns-then-values-eq0
unfolding checked_of
returns-then-values-eq0 c =
    name_passed _ _ _ (counted _) (omega arith) c.in_ok-check_source_name.ensures (stop 0 _ _ _ (omega arith) c.refuse-then-values-eq0.ensures)

pub returns-then-values-gt-UNIVERSE_CHANNEL_CAPACITY : goal.returns-then-values-gt-UNIVERSE_CHANNEL_CAPACITY
unfolding checked_of
returns-then-values-gt-UNIVERSE_CHANNEL_CAPACITY c =
    name_passed _ _ _ (counted _) (omega arith) c.in_ok-check_source_name.ensures
    (stop 1 _ _ _ (omega arith) c.refuse-then-values-gt-UNIVERSE_CHANNEL_CAPACITY.ensures)

pub returns : goal.returns
unfolding checked_of
returns c = name_passed _ _ _ (counted _) (omega arith) c.in_ok-check_source_name.ensures (pass _ _ _ (omega arith) refl)
