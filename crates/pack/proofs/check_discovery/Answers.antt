use Rattle.std.proofs.Common.{◌≡◌, ℕ, ◌≤◌, List, [], ◌∷◌, length, Ok, Err, sym, ◌∙◌, arith}
use Rattle.refusal.specs.Check.{Numbered, checked_of}
use Rattle.refusal.proofs.Laws.{stop, all_hold, reading_++}
use Rattle.discovery.specs.Universes.{order_checks}
use Rattle.pack.specs.Writing.{count_check}
use Rattle.pack.proofs.Writing.{name_refused, name_passed}
use Rattle.pack.proofs.check_discovery.Goals as goal

-- what is asked of the universes, once the name is good
abbrev ordered : List ℕ → List Numbered
ordered us = count_check 512 (length us) ∷ order_checks us

-- with few enough universes their order decides
within_count : (us : List ℕ) → length us ≤ 512 → checked_of (ordered us) ≡ checked_of (order_checks us)
unfolding checked_of
within_count us h =
    reading_++ Err (count_check 512 (length us) ∷ []) (order_checks us) (Ok tt)
    ∙ all_hold Err (count_check 512 (length us) ∷ []) _ (h, tt)

pub returns-then-room-universes : goal.returns-then-room-universes
unfolding checked_of
returns-then-room-universes c = stop 0 _ _ _ (omega arith) c.refuse.ensures

pub returns-in_err-check_source_name : goal.returns-in_err-check_source_name
returns-in_err-check_source_name c = name_refused _ _ _ (ordered _) (omega arith) c.in_err-check_source_name.ensures c.from_residual.ensures.1

pub returns-then-universes-gt-DISCOVERY_UNI_PER_PAGE : goal.returns-then-universes-gt-DISCOVERY_UNI_PER_PAGE
unfolding checked_of
returns-then-universes-gt-DISCOVERY_UNI_PER_PAGE c =
    name_passed _ _ _ (ordered _) (omega arith) c.in_ok-check_source_name.ensures
    (stop 0 _ _ _ (omega arith) c.refuse-then-universes-gt-DISCOVERY_UNI_PER_PAGE.ensures)

pub returns : goal.returns
returns c =
    name_passed _ _ _ (ordered _) (omega arith) c.in_ok-check_source_name.ensures
    (c.check_order.ensures ∙ sym (within_count c.args.universes.now (omega arith)))
