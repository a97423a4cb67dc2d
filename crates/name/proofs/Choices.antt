-- Choices that follow one another, as a table of rows: the row that answers, and what is so of every row. Assumes nothing.
use Prim.Native.Nat.{ℕ, zero, suc}
use mathlib.Core.Path.{◌≡◌}
use Rattle.refusal.specs.Check.{Test, ◌or◌, choose}
use Rattle.refusal.proofs.Tests.{Holds, Fails, clash, chosen, passed_over, choice, decide}

-- an answer as it is written: a row for each choice, two for a choice by one of two tests, and what is left
pub data Choices {A : Type 0} : A → Type 0 where
  otherwise : (a : A) → Choices a
  row : (t : Test) (a : A) {b : A} → Choices b → Choices (choose t a b)
  rows : (s t : Test) (a : A) {b : A} → Choices b → Choices (choose (s or t) a b)

-- row k holds, counted from 0, and those before it fail
abbrev pub First : {A : Type 0} {a : A} → ℕ → Choices a → Type 0
First k (otherwise a) = Unit {0}
First zero (row t a r) = Holds t
First (suc k) (row t a r) = Fails t × First k r
First zero (rows s t a r) = Holds s
First (suc zero) (rows s t a r) = Holds t
First (suc (suc k)) (rows s t a r) = Fails s × Fails t × First k r

-- the answer of row k
abbrev pub answer : {A : Type 0} {a : A} → ℕ → Choices a → A
answer k (otherwise a) = a
answer zero (row t a r) = a
answer (suc k) (row t a r) = answer k r
answer zero (rows s t a r) = a
answer (suc zero) (rows s t a r) = a
answer (suc (suc k)) (rows s t a r) = answer k r

pub first : {A : Type 0} {a x : A} (k : ℕ) (r : Choices a) → First k r → x ≡ answer k r → x ≡ a
first k (otherwise a) h e = e
first zero (row t a r) h e = chosen _ _ _ h e
first (suc k) (row t a r) h e = passed_over _ _ _ h.0 (first k r h.1 e)
first zero (rows s t a r) h e = chosen _ _ _ (λ f. absurd (clash s h f)) e
first (suc zero) (rows s t a r) h e = chosen _ _ _ (λ f. h) e
first (suc (suc k)) (rows s t a r) h e = passed_over _ _ _ (h.0, h.1) (first k r h.2 e)

-- What is so of every row's answer is so of the answer: X, given that.
abbrev Each : {A : Type 0} {a : A} → (A → Type 0) → Choices a → Type 0 → Type 0
Each P (otherwise a) X = P a → X
Each P (row t a r) X = (Holds t → P a) → Each P r X
Each P (rows s t a r) X = (Holds s → P a) → (Holds t → P a) → Each P r X

each_row : {A X : Type 0} {a : A} (P : A → Type 0) (r : Choices a) → (P a → X) → Each P r X
each_row P (otherwise a) x = x
each_row P (row t a {b} r) x = λ h. each_row P r (λ p. x (choice P t a b h (λ f. p)))
each_row P (rows s t a {b} r) x = λ h k. each_row P r (λ p. x (choice P (s or t) a b (λ g. decide s h (λ f. k (g f))) (λ f. p)))

pub each : {A : Type 0} {a : A} (P : A → Type 0) (r : Choices a) → Each P r (P a)
each P r = each_row P r (λ p. p)
