use Rattle.std.specs.Prelude.{ℕ, List, ◌≡◌, Result, Ok, Err}
use mathlib.Core.Path.{refl, sym, ◌∙◌}
use native.Mathlib.Omega.{arith}
use Rattle.refusal.specs.declared.Refusal.{Refusal}
use Rattle.refusal.specs.Check.{reading, checked_of}
use Rattle.refusal.proofs.Laws.{stop, pass, after_check, check_first, handed_on, gone_on}
use Rattle.pdu.specs.declared.Edition.{Edition}
use Rattle.root.specs.Root.{length_checks, vector_checks, cid_checks, body_of}
use Rattle.root.specs.declared.RootLayer.{RootLayer}
use Rattle.root.proofs.parse_body.Goals as goal

-- what follows the vector
abbrev last : ℕ → ℕ → Result RootLayer Refusal
last len vec = reading Err (cid_checks len) (Ok (record { vector = vec; end = len }))

by-vector : (edition : Edition) (p : List ℕ) (len vec : ℕ) →
    body_of edition p len vec ≡ reading Err (length_checks p len) (after_check Err (last len vec) (checked_of (vector_checks edition vec)))
unfolding body_of
by-vector edition p len vec =
    check_first Err (length_checks p len) (vector_checks edition vec) (cid_checks len) (Ok (record { vector = vec; end = len }))

pub returns-then-p-end : goal.returns-then-p-end
unfolding body_of
returns-then-p-end c = stop 0 _ _ _ (omega arith) c.refuse.ensures

pub returns-in_err-check_vector : goal.returns-in_err-check_vector
returns-in_err-check_vector c = let a = c.args in
    pass _ _ _ (omega arith) (handed_on (λ t. last a.length a.vector) c.in_err-check_vector.ensures c.from_residual.ensures.1)
    ∙ sym (by-vector a.edition a.p.now a.length a.vector)

pub returns-then-end-lt-ROOT_LENGTH : goal.returns-then-end-lt-ROOT_LENGTH
returns-then-end-lt-ROOT_LENGTH c = let a = c.args in
    pass _ _ _ (omega arith)
    (gone_on (λ t. last a.length a.vector) c.in_ok-check_vector.ensures (stop 0 _ _ _ (omega arith) c.refuse-then-end-lt-ROOT_LENGTH.ensures))
    ∙ sym (by-vector a.edition a.p.now a.length a.vector)

pub returns : goal.returns
returns c = let a = c.args in
    pass _ _ _ (omega arith) (gone_on (λ t. last a.length a.vector) c.in_ok-check_vector.ensures (pass _ _ _ (omega arith) refl))
    ∙ sym (by-vector a.edition a.p.now a.length a.vector)
