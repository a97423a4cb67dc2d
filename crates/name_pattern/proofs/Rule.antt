-- The rule and what computes it agree. Assumes nothing.
use Prim.Native.Nat.{ℕ}
use mathlib.Core.Path.{◌≡◌, refl, sym, ap, subst, ◌∙◌}
use mathlib.Core.Bool.{Bool, true, false}
use mathlib.Core.List.{List, [], ◌∷◌, ◌++◌}
use native.Mathlib.Omega.{arith}
use lib.Dec.{eqb}
use borrow.Author.Tests.{eqb-true, eqb-false}
use Rattle.refusal.specs.Check.{pick}
use Rattle.refusal.proofs.Tests.{never}
use Rattle.name_pattern.specs.Rule.{star, question, Matches, ends, run, one, itself, same, after_run, after_one, takes_whole}
use Rattle.name_pattern.specs.Walk.{Tells}
use Rattle.name_pattern.proofs.Lists.{conses, tails, heads}
use Rattle.name_pattern.proofs.Told.{so, not_so, told_so, told_not}

pub same_told : (s t : List ℕ) → Tells (same s t) (s ≡ t)
unfolding same
same_told [] [] = refl
same_told [] (b ∷ t) = λ e. let z : ◌≡◌ {A = ℕ} 0 1 = cc in omega arith
same_told (a ∷ s) [] = λ e. let z : ◌≡◌ {A = ℕ} 0 1 = cc in omega arith
same_told (a ∷ s) (b ∷ t) = by (eqb a b) refl (same s t) (same_told s t)
  where
    by : (o : Bool) → eqb a b ≡ o → (r : Bool) → Tells r (s ≡ t) → Tells (pick o r false) (a ∷ s ≡ b ∷ t)
    by true e true h = conses (eqb-true a b e) h
    by true e false h = λ x. h (tails x)
    by false e r h = λ x. eqb-false a b e (heads x)

-- a run is found, and what is behind it
record Found (rest : List (List ℕ) → Bool) (n : List (List ℕ)) : Type 0 where
  front : List (List ℕ)
  back : List (List ℕ)
  parted : n ≡ front ++ back
  taken : rest back ≡ true

run_found : (rest : List (List ℕ) → Bool) (n : List (List ℕ)) → after_run rest n ≡ true → Found rest n
unfolding after_run
run_found rest [] e = record { front = []; back = []; parted = refl; taken = e }
run_found rest (x ∷ n) e = by (rest (x ∷ n)) refl e (run_found rest n)
  where
    by : (o : Bool) → rest (x ∷ n) ≡ o → pick o true (after_run rest n) ≡ true → (after_run rest n ≡ true → Found rest n) → Found rest (x ∷ n)
    by true h f more = record { front = []; back = x ∷ n; parted = refl; taken = h }
    by false h f more =
        let w = more f in
        record { front = x ∷ w.front; back = w.back; parted = ap (λ (l : List (List ℕ)). x ∷ l) w.parted; taken = w.taken }

run_taken : (rest : List (List ℕ) → Bool) (s n : List (List ℕ)) → rest n ≡ true → after_run rest (s ++ n) ≡ true
unfolding after_run
run_taken rest [] [] h = h
run_taken rest [] (x ∷ n) h = rw h
run_taken rest (x ∷ s) n h = by (rest (x ∷ (s ++ n))) (run_taken rest s n h)
  where
    by : (o : Bool) → after_run rest (s ++ n) ≡ true → pick o true (after_run rest (s ++ n)) ≡ true
    by true h = refl
    by false h = h

-- what is computed is so
one_found : (c : List ℕ) (p n : List (List ℕ)) → (c ≡ star → ⊥) → after_one c (takes_whole p) n ≡ true → ((m : List (List ℕ)) → takes_whole p m ≡ true → Matches p m) → Matches (c ∷ p) n
one_found c p [] f e ih = never e
one_found c p (x ∷ n) f e ih = by (same c question) refl (same c x) refl e
  where
    by : (o : Bool) → same c question ≡ o → (r : Bool) → same c x ≡ r → pick (pick o true r) (takes_whole p n) false ≡ true → Matches (c ∷ p) (x ∷ n)
    by true q r s e = one (so q (same_told c question)) (ih n e)
    by false q true s e = itself f (not_so q (same_told c question)) (so s (same_told c x)) (ih n e)
    by false q false s e = never e

sound : (p n : List (List ℕ)) → takes_whole p n ≡ true → Matches p n
unfolding takes_whole
sound [] [] e = ends
sound [] (x ∷ n) e = never e
sound (c ∷ p) n e = by (same c star) refl e (sound p)
  where
    by : (o : Bool) → same c star ≡ o → pick o (after_run (takes_whole p) n) (after_one c (takes_whole p) n) ≡ true → ((m : List (List ℕ)) → takes_whole p m ≡ true → Matches p m) → Matches (c ∷ p) n
    by true s e ih =
        let w = run_found (takes_whole p) n e in
        subst (Matches (c ∷ p)) (sym w.parted) (run w.front (so s (same_told c star)) (ih w.back w.taken))
    by false s e ih = one_found c p n (not_so s (same_told c star)) e ih

-- what is so is computed
different : question ≡ star → ⊥
different e = absurd (omega (arith, heads e))

complete : {p n : List (List ℕ)} → Matches p n → takes_whole p n ≡ true
unfolding takes_whole
complete ends = refl
complete (run {c} {p} {n} s e m) = rw (told_so (same c star) (same_told c star) e) (run_taken (takes_whole p) s n (complete m))
complete (one {c} {x} {p} {n} e m) =
    rw (told_not (same c star) (same_told c star) (λ s. different (sym e ∙ s)), told_so (same c question) (same_told c question) e) (complete m)
complete (itself {c} {x} {p} {n} f g e m) =
    rw (told_not (same c star) (same_told c star) f, told_not (same c question) (same_told c question) g, told_so (same c x) (same_told c x) e) (complete m)

pub takes_all : (p n : List (List ℕ)) → Tells (takes_whole p n) (Matches p n)
takes_all p n = by (takes_whole p n) refl
  where
    by : (o : Bool) → takes_whole p n ≡ o → Tells o (Matches p n)
    by true e = sound p n e
    by false e = λ m. never (sym e ∙ complete m)
