-- The first entry that a test takes: the entries before it, itself, and those behind it; and a table where there is none. Assumes nothing.
use Rattle.std.proofs.Common.{ℕ, suc, ◌<◌, ◌≡◌, refl, sym, ap, ◌∙◌, List, [], ◌∷◌, ◌++◌, Bool, true, false, arith, length, set, length-append}
use Rattle.std.proofs.lemmas.List.{set_at}
use Rattle.refusal.specs.Check.{pick}
use Rattle.refusal.proofs.Tests.{never}
use Rattle.follow_rules.specs.declared.Entry.{Entry}
use Rattle.follow_rules.specs.Table.{First, none, first_at, further, first}

-- no entry of a list passes a test
abbrev pub Lacks : (Entry → Bool) → List Entry → Type 0
Lacks test [] = Unit {0}
Lacks test (e ∷ es) = (test e ≡ false) × Lacks test es

-- a list around the first entry that passes it
pub record Around (test : Entry → Bool) (t : List Entry) (i : ℕ) (e : Entry) : Type 0 where
  pub front : List Entry
  pub back : List Entry
  pub whole : t ≡ front ++ e ∷ back
  pub index : length front ≡ i
  pub before : Lacks test front
  pub passes : test e ≡ true

-- two answers that differ are not equal
pub apart : {i : ℕ} {e : Entry} → none ≡ first_at i e → ⊥
apart p = let z : ◌≡◌ {A = ℕ} 0 1 = cc in omega arith

pub split : (test : Entry → Bool) (t : List Entry) (i : ℕ) (e : Entry) → first test t ≡ first_at i e → Around test t i e
unfolding first
split test [] i e p = absurd (apart p)
split test (x ∷ t) i e p = by (test x) refl (first test t) refl p (split test t)
  where
    by : (o : Bool) → test x ≡ o → (r : First) → first test t ≡ r → pick o (first_at 0 x) (further r) ≡ first_at i e →
        ((j : ℕ) (y : Entry) → first test t ≡ first_at j y → Around test t j y) → Around test (x ∷ t) i e
    by true q r w g ih =
        let at : i ≡ 0 = cc in
        let is : x ≡ e = cc in
        record { front = []; back = t; whole = ap (λ (y : Entry). y ∷ t) is; index = sym at; before = tt; passes = rw (← is) q }
    by false q none w g ih = absurd (apart g)
    by false q (first_at j y) w g ih =
        let at : i ≡ suc j = cc in
        let is : y ≡ e = cc in
        let s = ih j y w in
        record {
          front = x ∷ s.front;
          back = s.back;
          whole = ap (λ (l : List Entry). x ∷ l) (s.whole ∙ ap (λ (z : Entry). s.front ++ z ∷ s.back) is);
          index = ap suc s.index ∙ sym at;
          before = (q, s.before);
          passes = rw (← is) s.passes;
        }

pub lacking : (test : Entry → Bool) (t : List Entry) → first test t ≡ none → Lacks test t
unfolding first
lacking test [] p = tt
lacking test (x ∷ t) p = by (test x) refl (first test t) refl p (lacking test t)
  where
    by : (o : Bool) → test x ≡ o → (r : First) → first test t ≡ r → pick o (first_at 0 x) (further r) ≡ none → (first test t ≡ none → Lacks test t) → Lacks test (x ∷ t)
    by true q r w g ih = absurd (apart (sym g))
    by false q none w g ih = (q, ih w)
    by false q (first_at j y) w g ih = absurd (apart (sym g))

-- an entry stored there
pub stored : (test : Entry → Bool) (t : List Entry) (i : ℕ) (e k : Entry) (a : Around test t i e) → set t i k ≡ a.front ++ k ∷ a.back
stored test t i e k a = ap (λ (l : List Entry). set l i k) a.whole ∙ set_at a.front e a.back k i a.index

pub within : (test : Entry → Bool) (t : List Entry) (i : ℕ) (e : Entry) → Around test t i e → i < length t
within test t i e a = omega (arith, a.index, ap length a.whole, length-append a.front (e ∷ a.back))

-- what passes in the middle of a list is not lacking in it
pub present : (test : Entry → Bool) (front back : List Entry) (k : Entry) → test k ≡ true → Lacks test (front ++ k ∷ back) → ⊥
present test [] back k h l = never (sym l.0 ∙ h)
present test (x ∷ front) back k h l = present test front back k h l.1
