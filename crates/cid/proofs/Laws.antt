-- Two CIDs are the same exactly where they are equal; and as `==` compares two runs of bytes. Assumes nothing.
use Rattle.std.proofs.Common.{◌≡◌, ℕ, List, [], ◌∷◌, Bool, true, false, ◌&&◌, refl, arith}
use Rattle.std.specs.Prelude.{nat_eq}
use Rattle.std.specs.Cmp.Lexicographic.{pointwise}
use Rattle.refusal.specs.Check.{pick, outcome}
use Rattle.refusal.proofs.Tests.{Holds, Fails, decide}
use Rattle.cid.specs.Same.{same_cid}

pub same_is : (xs ys : List ℕ) → Holds (same_cid xs ys) → xs ≡ ys
unfolding same_cid
same_is [] [] h = refl
same_is [] (y ∷ ys) h = absurd (omega arith)
same_is (x ∷ xs) [] h = absurd (omega arith)
same_is (x ∷ xs) (y ∷ ys) h = rw (h.0, same_is xs ys h.1)

same_self : (xs : List ℕ) → Holds (same_cid xs xs)
unfolding same_cid
same_self [] = omega arith
same_self (x ∷ xs) = (refl, same_self xs)

pub same_holds : (xs ys : List ℕ) → xs ≡ ys → Holds (same_cid xs ys)
same_holds xs ys e = rw (← e) (same_self xs)

pub same_fails : (xs ys : List ℕ) → (xs ≡ ys → ⊥) → Fails (same_cid xs ys)
same_fails xs ys n = decide (same_cid xs ys) (λ h. absurd (n (same_is xs ys h))) (λ f. f)

picks : (a b : Bool) → (a && b) ≡ pick a b false
picks true b = refl
picks false b = refl

-- what `==` says of two runs of bytes
pub byte_for_byte : (xs ys : List ℕ) → pointwise nat_eq xs ys ≡ outcome (same_cid xs ys)
unfolding same_cid
byte_for_byte [] [] = refl
byte_for_byte [] (y ∷ ys) = refl
byte_for_byte (x ∷ xs) [] = refl
byte_for_byte (x ∷ xs) (y ∷ ys) = rw (byte_for_byte xs ys) (picks (nat_eq x y) (outcome (same_cid xs ys)))
