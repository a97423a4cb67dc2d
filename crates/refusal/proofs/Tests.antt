-- A test's fact, and what its failure says, in forms that `omega` proves: an alternative is an implication. Assumes nothing.
use Prim.Native.Nat.{ℕ, ◌≤◌, ◌<◌}
use mathlib.Core.Path.{◌≡◌, refl, sym, ap, subst, ◌∙◌}
use mathlib.Core.Bool.{Bool, true, false, not}
use native.Mathlib.Omega.{arith}
use borrow.Author.Tests.{leb-true, leb-false, eqb-true, eqb-false}
use lib.Dec.{leb, eqb}
use Rattle.refusal.specs.Check.{Test, ◌≤?◌, ◌=?◌, ◌≠?◌, ◌and◌, ◌or◌, outcome, pick, choose}

-- that a test holds, or fails, as a fact about its numbers
abbrev pub Fact : Bool → Test → Type 0
Fact true (a ≤? b) = a ≤ b
Fact true (a =? b) = a ≡ b
Fact true (a ≠? b) = a ≡ b → ⊥
Fact true (s and t) = Fact true s × Fact true t
Fact true (s or t) = Fact false s → Fact true t
Fact false (a ≤? b) = b < a
Fact false (a =? b) = a ≡ b → ⊥
Fact false (a ≠? b) = a ≡ b
Fact false (s and t) = Fact true s → Fact false t
Fact false (s or t) = Fact false s × Fact false t

abbrev pub Holds : Test → Type 0
Holds t = Fact true t

abbrev pub Fails : Test → Type 0
Fails t = Fact false t

-- no test both holds and fails
pub clash : (t : Test) → Holds t → Fails t → ⊥
clash (a ≤? b) h f = omega arith
clash (a =? b) h f = f h
clash (a ≠? b) h f = h f
clash (s and t) h f = clash t h.1 (f h.0)
clash (s or t) h f = clash t (h f.0) f.1

le_fact : (a b : ℕ) (o : Bool) → leb a b ≡ o → Fact o (a ≤? b)
le_fact a b true e = leb-true a b e
le_fact a b false e = leb-false a b e

eq_fact : (a b : ℕ) (o : Bool) → eqb a b ≡ o → Fact o (a =? b)
eq_fact a b true e = eqb-true a b e
eq_fact a b false e = eqb-false a b e

ne_fact : (a b : ℕ) (o : Bool) → eqb a b ≡ o → Fact (not o) (a ≠? b)
ne_fact a b true e = eqb-true a b e
ne_fact a b false e = eqb-false a b e

and_fact : (s t : Test) (o p : Bool) → Fact o s → Fact p t → Fact (pick o p false) (s and t)
and_fact s t true true f g = (f, g)
and_fact s t true false f g = λ h. g
and_fact s t false p f g = λ h. absurd (clash s h f)

or_fact : (s t : Test) (o p : Bool) → Fact o s → Fact p t → Fact (pick o true p) (s or t)
or_fact s t true p f g = λ h. absurd (clash s f h)
or_fact s t false true f g = λ h. g
or_fact s t false false f g = (f, g)

pub true_not_false : true ≡ false → ⊥
true_not_false e = let z : ◌≡◌ {A = ℕ} 0 1 = cc in omega arith

pub never : {A : Type 0} → false ≡ true → A
never e = absurd (true_not_false (sym e))

-- what a test's outcome says
pub fact : (t : Test) → Fact (outcome t) t
fact (a ≤? b) = le_fact a b (leb a b) refl
fact (a =? b) = eq_fact a b (eqb a b) refl
fact (a ≠? b) = ne_fact a b (eqb a b) refl
fact (s and t) = and_fact s t (outcome s) (outcome t) (fact s) (fact t)
fact (s or t) = or_fact s t (outcome s) (outcome t) (fact s) (fact t)

settled : (t : Test) (o p : Bool) → Fact o t → Fact p t → o ≡ p
settled t true true f g = refl
settled t true false f g = absurd (clash t f g)
settled t false true f g = absurd (clash t g f)
settled t false false f g = refl

-- and what decides it
pub decided : (t : Test) (o : Bool) → Fact o t → outcome t ≡ o
decided t o f = settled t (outcome t) o (fact t) f

-- an outcome that is known
pub holds : (t : Test) → outcome t ≡ true → Holds t
holds t e = subst (λ (o : Bool). Fact o t) e (fact t)

pub fails : (t : Test) → outcome t ≡ false → Fails t
fails t e = subst (λ (o : Bool). Fact o t) e (fact t)

-- a test that computes to one bound, as a row of a table that is open in one number, holds within it
pub bounded : (t : Test) (n most : ℕ) → outcome t ≡ pick (leb n most) true false → n ≤ most → Holds t
bounded t n most e h = subst (λ (o : Bool). Fact o t) (e ∙ ap (λ (o : Bool). pick o true false) (decided (n ≤? most) true h)) (fact t)

-- a choice by a test that holds, or fails
pub chosen : {A : Type 0} (t : Test) (a b : A) {x : A} → Holds t → x ≡ a → x ≡ choose t a b
unfolding choose
chosen t a b h e = rw (decided t true h) e

pub passed_over : {A : Type 0} (t : Test) (a b : A) {x : A} → Fails t → x ≡ b → x ≡ choose t a b
unfolding choose
passed_over t a b f e = rw (decided t false f) e

-- what is so of both answers of a choice is so of the choice
pub choice : {A : Type 0} (P : A → Type 0) (t : Test) (a b : A) → (Holds t → P a) → (Fails t → P b) → P (choose t a b)
unfolding choose
choice P t a b h f = by (outcome t) (fact t)
  where
    by : (o : Bool) → Fact o t → P (pick o a b)
    by true = h
    by false = f

pub decide : {B : Type 0} (t : Test) → (Holds t → B) → (Fails t → B) → B
decide {B} t h f = choice (λ (n : ℕ). B) t 0 0 h f

-- a function of a choice
pub choose_map : {A B : Type 0} (f : A → B) (t : Test) (a b : A) → f (choose t a b) ≡ choose t (f a) (f b)
unfolding choose
choose_map f t a b = by (outcome t)
  where
    by : (o : Bool) → f (pick o a b) ≡ pick o (f a) (f b)
    by true = refl
    by false = refl
