-- `whole_chars` is the length of the longest front that is well formed, and a list is well formed where after it a character may begin.
-- Assumes nothing.
use Prim.Native.Nat.{ℕ, zero, suc, ◌+◌, ◌≤◌}
use mathlib.Core.Path.{◌≡◌, refl, ◌∙◌}
use mathlib.Core.List.{List, [], ◌∷◌}
use mathlib.Core.Logic.{◌⊎◌, inl, inr, ⊎_elim}
use native.Mathlib.Omega.{arith}
use lib.ListN.{length, take}
use lib.Seq.{take_all}
use Rattle.refusal.proofs.Tests.{Holds}
use Rattle.name.specs.Utf8.{step, marked, reach, whole_chars, well_formed}
use Rattle.name.specs.declared.utf8.Expect.{Expect}
use Rattle.name.specs.declared.utf8.Expect.TheVariants.{Lead, Trail, Malformed}

-- what is expected after a list
abbrev pub after : Expect → List ℕ → Expect
after e [] = e
after e (b ∷ s) = after (step e b) s

-- A place is marked only after a front that ends a character, and the last such place is kept.
marked_between : (e : Expect) (at whole : ℕ) → whole ≤ at → (whole ≤ marked e at whole) × (marked e at whole ≤ at)
marked_between Lead at whole h = omega arith
marked_between (Trail low high more) at whole h = omega arith
marked_between Malformed at whole h = omega arith

reach_keeps : (e : Expect) (whole at : ℕ) (s : List ℕ) → whole ≤ at → whole ≤ reach e whole at s
unfolding reach
reach_keeps e whole at [] h = omega arith
reach_keeps e whole at (b ∷ s) h =
    let m = marked_between (step e b) (at + 1) whole (omega arith) in
    omega (arith, reach_keeps (step e b) (marked (step e b) (at + 1) whole) (at + 1) s m.1)

-- it is the one before the list, or the end of such a front
abbrev Reached : Expect → ℕ → List ℕ → ℕ → Type 0
Reached e at s r = (k : ℕ) × (k ≤ length s) × (r ≡ at + k) × (after e (take k s) ≡ Lead)

marked_ends : (e : Expect) (whole at : ℕ) (s : List ℕ) → (marked e at whole ≡ whole) ⊎ Reached e at s (marked e at whole)
marked_ends Lead whole at s = inr (0, omega arith, omega arith, refl)
marked_ends (Trail low high more) whole at s = inl refl
marked_ends Malformed whole at s = inl refl

reach_ends : (e : Expect) (whole at : ℕ) (s : List ℕ) →
    (reach e (marked e at whole) at s ≡ whole) ⊎ Reached e at s (reach e (marked e at whole) at s)
unfolding reach
reach_ends e whole at [] = marked_ends e whole at []
reach_ends e whole at (b ∷ s) =
    ⊎_elim (λ q. rw q (marked_ends e whole at (b ∷ s)))
    (λ (q : Reached (step e b) (at + 1) s (reach e (marked e at whole) at (b ∷ s))).
    inr (suc q.0, omega arith, q.2 ∙ omega arith, q.3))
    (reach_ends (step e b) (marked e at whole) (at + 1) s)

-- and no such front is longer
reach_far : (n : ℕ) (e : Expect) (whole at : ℕ) (s : List ℕ) →
    n ≤ length s → after e (take n s) ≡ Lead → at + n ≤ reach e (marked e at whole) at s
unfolding reach
reach_far zero e whole at s h q = rw q (omega (arith, reach_keeps Lead at at s (omega arith)))
reach_far (suc n) e whole at [] h q = absurd (omega arith)
reach_far (suc n) e whole at (b ∷ s) h q =
    omega (arith, reach_far n (step e b) (marked e at whole) (at + 1) s (omega arith) q)

pub whole_within : (s : List ℕ) → whole_chars s ≤ length s
unfolding whole_chars
whole_within s = ⊎_elim (λ q. omega arith) (λ (q : Reached Lead 0 s (reach Lead 0 0 s)). omega arith) (reach_ends Lead 0 0 s)

after_whole : (s : List ℕ) → after Lead (take (whole_chars s) s) ≡ Lead
unfolding whole_chars
after_whole s =
    ⊎_elim (λ (q : reach Lead 0 0 s ≡ 0). rw q)
    (λ (q : Reached Lead 0 s (reach Lead 0 0 s)). let e : reach Lead 0 0 s ≡ q.0 = omega arith in rw e q.3)
    (reach_ends Lead 0 0 s)

pub well_formed→after : (s : List ℕ) → Holds (well_formed s) → after Lead s ≡ Lead
well_formed→after s h = rw (take_all (whole_chars s) s (omega arith)) at (after_whole s)

pub after→well_formed : (s : List ℕ) → after Lead s ≡ Lead → Holds (well_formed s)
unfolding whole_chars
after→well_formed s e =
    omega (arith, whole_within s, reach_far (length s) Lead 0 0 s (omega arith) (rw (take_all (length s) s (omega arith)) e))

pub whole_is_well_formed : (s : List ℕ) → Holds (well_formed (take (whole_chars s) s))
whole_is_well_formed s = after→well_formed (take (whole_chars s) s) (after_whole s)

pub whole_is_longest : (s : List ℕ) (n : ℕ) → n ≤ length s → Holds (well_formed (take n s)) → n ≤ whole_chars s
unfolding whole_chars
whole_is_longest s n h w = omega (arith, reach_far n Lead 0 0 s h (well_formed→after (take n s) w))
