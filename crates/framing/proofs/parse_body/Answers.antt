use Rattle.std.specs.Prelude.{ℕ, List, ◌≡◌, Ok, Err}
use mathlib.Core.Path.{refl, sym, ◌∙◌}
use native.Mathlib.Omega.{arith}
use Rattle.refusal.specs.Check.{reading}
use Rattle.refusal.proofs.Laws.{stop, pass, after, after_first, handed_on, gone_on}
use Rattle.name.specs.Name.{name_field, zero_at, source_name_checks, source_name_of}
use Rattle.name.proofs.Laws.{name_found}
use Rattle.pdu.specs.declared.Edition.{Edition}
use Rattle.framing.specs.Data.{start_checks, field_checks, layer_of, body_of, after_name}
use Rattle.framing.proofs.parse_body.Goals as goal

-- the layer, by what its name is found to be
by_name : (edition : Edition) (p : List ℕ) (len vec : ℕ) →
    body_of edition p len vec ≡ reading Err (start_checks p len vec) (after Err (λ n. after_name edition n p len) (source_name_of (name_field p)))
unfolding body_of after_name source_name_of
by_name edition p len vec =
    after_first Err (λ n. after_name edition n p len) (start_checks p len vec) (source_name_checks (name_field p)) (field_checks edition p len)
    (zero_at (name_field p)) (Ok (layer_of p len)) refl

pub returns-then-p-length : goal.returns-then-p-length
unfolding body_of
returns-then-p-length c = stop 0 _ _ _ (omega arith) c.refuse.ensures

pub returns-then-vector-ne-VECTOR_E131_DATA_PACKET : goal.returns-then-vector-ne-VECTOR_E131_DATA_PACKET
unfolding body_of
returns-then-vector-ne-VECTOR_E131_DATA_PACKET c = stop 1 _ _ _ (omega arith) c.refuse-then-vector-ne-VECTOR_E131_DATA_PACKET.ensures

pub returns-then-p-lt-PRIORITY_INDEX : goal.returns-then-p-lt-PRIORITY_INDEX
unfolding body_of
returns-then-p-lt-PRIORITY_INDEX c = stop 2 _ _ _ (omega arith) c.refuse-then-p-lt-PRIORITY_INDEX.ensures

pub returns-in_err-name : goal.returns-in_err-name
returns-in_err-name c = let a = c.args in
    pass _ _ _ (omega arith)
    (handed_on (λ n. after_name a.edition n a.p.now a.length) (name_found a.p.now c.in_err-name.ensures) c.from_residual.ensures.1)
    ∙ sym (by_name _ _ _ _)

pub returns : goal.returns
returns c = let a = c.args in
    pass _ _ _ (omega arith)
    (gone_on (λ n. after_name a.edition n a.p.now a.length) (name_found a.p.now c.in_ok-name.ensures) c.parse_fields.ensures)
    ∙ sym (by_name _ _ _ _)
