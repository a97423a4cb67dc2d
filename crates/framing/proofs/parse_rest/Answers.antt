use Rattle.std.specs.Prelude.{ℕ, List, ◌≡◌, Result, Ok, Err}
use mathlib.Core.Path.{refl, sym, ◌∙◌}
use native.Mathlib.Omega.{arith}
use Rattle.refusal.specs.declared.Refusal.{Refusal}
use Rattle.refusal.specs.Check.{reading}
use Rattle.refusal.proofs.Laws.{stop, stop_value, pass, after, after_last, handed_on, gone_on}
use Rattle.dmp.specs.Layer.{dmp_of, dmp_checks, count_of}
use Rattle.framing.specs.Data.{universe_checks, dmp_part, after_sync_address}
use Rattle.framing.specs.declared.DataFraming.{DataFraming}
use Rattle.framing.proofs.parse_rest.Goals as goal

-- the layer, by what its DMP layer is found to be
abbrev layer : ℕ → ℕ → Result DataFraming Refusal
layer name n = Ok (record { name = name; values = n })

by-dmp : (name : ℕ) (p : List ℕ) (len : ℕ) →
    after_sync_address name p len ≡ reading Err (universe_checks p len) (after Err (layer name) (dmp_of (dmp_part p len)))
unfolding after_sync_address dmp_of
by-dmp name p len = after_last Err (layer name) (universe_checks p len) (dmp_checks (dmp_part p len)) (count_of (dmp_part p len))

pub returns-then-p-lt-OPTIONS_FIELD_INDEX : goal.returns-then-p-lt-OPTIONS_FIELD_INDEX
unfolding after_sync_address
returns-then-p-lt-OPTIONS_FIELD_INDEX c = stop 0 _ _ _ (omega arith) c.refuse.ensures

pub returns-then-p-lt-UNIVERSE_INDEX : goal.returns-then-p-lt-UNIVERSE_INDEX
unfolding after_sync_address
returns-then-p-lt-UNIVERSE_INDEX c = stop 1 _ _ _ (omega arith) c.refuse-then-p-lt-UNIVERSE_INDEX.ensures

pub returns-then-p-lt-DATA_INDEX : goal.returns-then-p-lt-DATA_INDEX
unfolding after_sync_address
returns-then-p-lt-DATA_INDEX c = stop 2 _ _ _ (omega arith) c.refuse-then-p-lt-DATA_INDEX.ensures

pub returns-then-universe-lt-E131_MIN_MULTICAST_UNIVERSE : goal.returns-then-universe-lt-E131_MIN_MULTICAST_UNIVERSE
unfolding after_sync_address
returns-then-universe-lt-E131_MIN_MULTICAST_UNIVERSE c = stop_value 3 _ _ _ (omega arith) c.refuse-then-universe-lt-E131_MIN_MULTICAST_UNIVERSE.ensures c.u16_at-universe.ensures

pub returns-then-universe-gt-E131_MAX_MULTICAST_UNIVERSE : goal.returns-then-universe-gt-E131_MAX_MULTICAST_UNIVERSE
unfolding after_sync_address
returns-then-universe-gt-E131_MAX_MULTICAST_UNIVERSE c = stop_value 3 _ _ _ (omega arith) c.refuse-then-universe-gt-E131_MAX_MULTICAST_UNIVERSE.ensures c.u16_at-universe.ensures

pub returns-then-end-lt-DATA_INDEX : goal.returns-then-end-lt-DATA_INDEX
unfolding after_sync_address
returns-then-end-lt-DATA_INDEX c = stop 4 _ _ _ (omega arith) c.refuse-then-end-lt-DATA_INDEX.ensures

pub returns-in_err-values : goal.returns-in_err-values
returns-in_err-values c =
    pass _ _ _ (omega arith) (handed_on (layer c.args.name) c.in_err-values.ensures c.from_residual.ensures.1) ∙ sym (by-dmp _ _ _)

pub returns : goal.returns
returns c = pass _ _ _ (omega arith) (gone_on (layer c.args.name) c.in_ok-values.ensures refl) ∙ sym (by-dmp _ _ _)
