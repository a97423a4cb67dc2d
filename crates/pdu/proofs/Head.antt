-- A layer is its start and then its own checks, said once for every layer. Assumes nothing.
use Rattle.std.specs.Prelude.{ℕ, ◌≤◌, ◌≡◌, List, ◌++◌, Result, Err}
use mathlib.Core.Path.{◌∙◌, refl}
use native.Mathlib.Omega.{arith}
use Rattle.refusal.specs.declared.Refusal.{Refusal}
use Rattle.refusal.specs.Check.{Check, reading}
use Rattle.refusal.proofs.Laws.{after, after_all, reading_++}
use Rattle.pdu.specs.Head.{size_of, head_checks, length_of, vector_of, info_of}
use Rattle.pdu.specs.declared.PduInfo.{PduInfo}
use Rattle.pdu.specs.declared.VectorLength.{VectorLength}
use Rattle.pdu.specs.declared.VectorLength.TheVariants.{One, Four}

pub size_small : (n : VectorLength) → size_of n ≤ 4
size_small One = omega arith
size_small Four = omega arith

-- what a layer answers, by its start: `body` goes on with what it says
abbrev pub head_body : {A : Type 0} → (ℕ → ℕ → Result A Refusal) → PduInfo → Result A Refusal
head_body body i = body i.length i.vector

abbrev pub after_head : {A : Type 0} → (ℕ → ℕ → Result A Refusal) → Result PduInfo Refusal → Result A Refusal
after_head body = after Err (head_body body)

pub head_first : {A : Type 0} (n : VectorLength) (place : ℕ) (p : List ℕ) (checks : ℕ → ℕ → List Check) (next : ℕ → ℕ → Result A Refusal) →
    reading Err (head_checks n place p ++ checks (length_of p) (vector_of n p)) (next (length_of p) (vector_of n p))
    ≡ after_head (λ len vec. reading Err (checks len vec) (next len vec)) (info_of n place p)
unfolding info_of
head_first n place p checks next =
    let body = λ (i : PduInfo). reading Err (checks i.length i.vector) (next i.length i.vector) in
    reading_++ Err (head_checks n place p) (checks (length_of p) (vector_of n p)) (next (length_of p) (vector_of n p))
    ∙ after_all Err body (head_checks n place p) (record { length = length_of p; vector = vector_of n p })
