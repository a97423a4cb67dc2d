use Rattle.std.specs.Prelude.{ℕ, Bool, true, false, List, ◌≡◌, Result, Ok, Err}
use mathlib.Core.Path.{refl, sym, ap, ap₂, ◌∙◌}
use native.Mathlib.Omega.{arith}
use Rattle.refusal.specs.declared.Refusal.{Refusal}
use Rattle.refusal.specs.Check.{Test, outcome, ◌=?◌, pick, choose, reading}
use Rattle.refusal.proofs.Tests.{chosen, passed_over}
use Rattle.refusal.proofs.Laws.{stop, pass, after, after_all, reading_++, reading_choose, handed_on, gone_on}
use Rattle.name.specs.Name.{name_field, zero_at}
use Rattle.extended.specs.Synchronization.{synchronization_checks, synchronization_of, fields_of}
use Rattle.extended.specs.UniverseDiscovery.{discovery_framing_checks, discovery_framing_of, discovery_part, layer_named}
use Rattle.extended.specs.Extended.{kind_checks, body_of, layer_of}
use Rattle.extended.specs.declared.Extended.{Extended}
use Rattle.extended.specs.declared.Extended.TheVariants.{Synchronization, Discovery}
use Rattle.extended.specs.declared.synchronization.SynchronizationFields.{SynchronizationFields}
use Rattle.extended.specs.declared.universe_discovery.DiscoveryFraming.{DiscoveryFraming}
use Rattle.extended.proofs.parse_body.Goals as goal

-- the answer, by what the layer that the vector names is found to be
abbrev synchronization : SynchronizationFields → Result Extended Refusal
synchronization fields = Ok (Synchronization fields)

abbrev discovery : DiscoveryFraming → Result Extended Refusal
discovery layer = Ok (Discovery layer)

either : (t : Test) (a b : Extended) → ◌≡◌ {A = Result Extended Refusal} (Ok (choose t a b)) (choose t (Ok a) (Ok b))
unfolding choose
either t a b = by (outcome t)
  where
    by : (o : Bool) → ◌≡◌ {A = Result Extended Refusal} (Ok (pick o a b)) (pick o (Ok a) (Ok b))
    by true = refl
    by false = refl

by_kind : (whole : ℕ) (p : List ℕ) (len vec : ℕ) →
    body_of whole p len vec
    ≡ reading Err (kind_checks whole len vec)
    (choose (vec =? 1) (after Err synchronization (synchronization_of p len)) (after Err discovery (discovery_framing_of p len)))
unfolding body_of synchronization_of discovery_framing_of
by_kind whole p len vec =
    let found = layer_named (zero_at (name_field p)) (discovery_part p len) in
    let kinds = kind_checks whole len vec in
    let first = synchronization_checks p len in
    let second = discovery_framing_checks p len in
    reading_++ Err kinds (choose (vec =? 1) first second) (Ok (layer_of p len vec))
    ∙ ap (reading Err kinds)
    (ap (reading Err (choose (vec =? 1) first second)) (either (vec =? 1) (Synchronization (fields_of p)) (Discovery found))
    ∙ reading_choose Err (vec =? 1) first second (synchronization (fields_of p)) (discovery found)
    ∙ ap₂ (choose (vec =? 1)) (after_all Err synchronization first (fields_of p)) (after_all Err discovery second found))

pub returns-then-whole-length : goal.returns-then-whole-length
unfolding body_of
returns-then-whole-length c = stop 0 _ _ _ (omega arith) c.refuse.ensures

pub returns-in_err-fields : goal.returns-in_err-fields
returns-in_err-fields c =
    pass _ _ _ (omega arith)
    (chosen _ _ _ c.if-vector-eq-VECTOR_E131_EXTENDED_SYNCHRONIZATION.true (handed_on synchronization c.in_err-fields.ensures c.from_residual.ensures.1))
    ∙ sym (by_kind _ _ _ _)

pub returns-then-vector-eq-VECTOR_E131_EXTENDED_SYNCHRONIZATION : goal.returns-then-vector-eq-VECTOR_E131_EXTENDED_SYNCHRONIZATION
returns-then-vector-eq-VECTOR_E131_EXTENDED_SYNCHRONIZATION c =
    pass _ _ _ (omega arith)
    (chosen _ _ _ c.if-vector-eq-VECTOR_E131_EXTENDED_SYNCHRONIZATION.true (gone_on synchronization c.in_ok-fields.ensures refl))
    ∙ sym (by_kind _ _ _ _)

pub returns-in-Err : goal.returns-in-Err
returns-in-Err c =
    pass _ _ _ (omega arith)
    (passed_over _ _ _ c.if-vector-eq-VECTOR_E131_EXTENDED_SYNCHRONIZATION.false (handed_on discovery (sym c.in-Err.is ∙ c.parse-then-vector-eq-VECTOR_E131_EXTENDED_DISCOVERY.ensures) refl))
    ∙ sym (by_kind _ _ _ _)

pub returns-in-Ok : goal.returns-in-Ok
returns-in-Ok c =
    pass _ _ _ (omega arith)
    (passed_over _ _ _ c.if-vector-eq-VECTOR_E131_EXTENDED_SYNCHRONIZATION.false (gone_on discovery (sym c.in-Ok.is ∙ c.parse-then-vector-eq-VECTOR_E131_EXTENDED_DISCOVERY.ensures) refl))
    ∙ sym (by_kind _ _ _ _)

pub returns : goal.returns
unfolding body_of
returns c = stop 1 _ _ _ (omega arith) c.refuse-2.ensures
