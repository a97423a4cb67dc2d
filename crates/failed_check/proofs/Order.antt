-- The checks of a list of universes, one by one. Assumes nothing.
use Prim.Native.Nat.{ℕ, ◌+◌, ◌*◌, ◌/◌, ◌≤◌, ◌<◌}
use mathlib.Core.Path.{◌≡◌, refl, sym, ap, ◌∙◌}
use mathlib.Core.List.{List, [], ◌∷◌}
use native.Mathlib.Omega.{arith}
use lib.ListN.{length, drop, get_or, drop_of_length-le}
use Rattle.wire.specs.Fields.{u16_at}
use Rattle.wire.proofs.Laws.{drop_more}
use Rattle.refusal.specs.declared.Refusal.{Refusal}
use Rattle.refusal.specs.declared.Reason.TheVariants as why
use Rattle.refusal.specs.declared.Start.TheVariants as start_in
use Rattle.refusal.specs.Check.{Check, check, refusal, universe_list, ◌≤?◌, checked_of, reading}
use Rattle.discovery.specs.Universes.{universes, pairs, pairs_from, ascends, told_from, list_checks}
use Rattle.discovery.proofs.Laws.{universes_length, universes_at}
use Rattle.failed_check.specs.Tell.{identity, told_by, Refuses, Names}
use Rattle.failed_check.proofs.Laws.{skip_told, skip_refuses, here, no_refusal_lem}

-- from the universe i on, where u is the one before it
abbrev pub order_from : List ℕ → ℕ → ℕ → List Check
order_from us u i = told_from (2 * i) (pairs_from ascends u (drop i us))

-- a list is told, and refuses, as from there on
abbrev pub AsFrom : List ℕ → ℕ → ℕ → Type 0
AsFrom list u i =
    let n = length list / 2 in
    let left = order_from (universes n list) u i in
    (told_by left ≡ told_by (list_checks list n)) × (checked_of left ≡ checked_of (list_checks list n))

first : (us : List ℕ) (u : ℕ) → (0 < length us → get_or us 0 0 ≡ u) → pairs ascends us ≡ pairs_from ascends u (drop 1 us)
first [] u e = refl
first (v ∷ us) u e = ap (λ (w : ℕ). pairs_from ascends w us) (e (omega arith))

pub from_first : (list : List ℕ) (u : ℕ) → u ≡ u16_at list 0 → AsFrom list u 1
from_first list u e =
    let n = length list / 2 in
    let us = universes n list in
    let c : Check = check (2 * n ≤? length list) (refusal 1 universe_list 0) (why.TooShort start_in.Universes) 0 in
    let fits : 2 * n ≤ length list = omega arith in
    let same : pairs ascends us ≡ pairs_from ascends u (drop 1 us) =
    first us u (λ some. universes_at n list 0 (omega (arith, universes_length n list)) ∙ sym e) in
    rw same (sym (skip_told c (told_from 2 (pairs_from ascends u (drop 1 us))) fits), sym (skip_refuses c (told_from 2 (pairs_from ascends u (drop 1 us))) fits))

module _ (list : List ℕ) (u v i : ℕ) (more : i < length list / 2) (e : v ≡ u16_at list (2 * i)) where
  abbrev us : List ℕ
  us = universes (length list / 2) list

  -- the next check, and those behind it
  abbrev next : Check
  next = check (u + 1 ≤? v) (refusal 12 universe_list v) why.Order (2 * i)

  cut : order_from us u i ≡ next ∷ order_from us v (i + 1)
  cut =
      let n = length list / 2 in
      let is : get_or us i 0 ≡ v = universes_at n list i more ∙ sym e in
      let two : 2 * i + 2 ≡ 2 * (i + 1) = omega arith in
      rw (drop_more us i (omega (arith, universes_length n list)), is, two)

  pub from_next : u < v → AsFrom list u i → AsFrom list v (i + 1)
  from_next up a =
      let rest = order_from us v (i + 1) in
      let holds : u + 1 ≤ v = omega arith in (
        sym (skip_told next rest holds) ∙ ap told_by (sym cut) ∙ a.0,
        sym (skip_refuses next rest holds) ∙ ap (λ (cs : List Check). checked_of cs) (sym cut) ∙ a.1,
      )

  pub order_named : (r : Refusal) → v ≤ u → AsFrom list u i → Refuses (list_checks list (length list / 2)) r →
      Names (list_checks list (length list / 2)) r (identity why.Order (120 + 2 * i))
  order_named r down a refuses =
      let rest = order_from us v (i + 1) in
      let fails : v < u + 1 = omega arith in
      sym a.0 ∙ ap told_by cut ∙ here next rest r fails (ap (λ (cs : List Check). checked_of cs) (sym cut) ∙ a.1 ∙ refuses)

-- a list that is refused has one that is not above the one before it
pub not_done : (list : List ℕ) (u i : ℕ) (r : Refusal) → length list / 2 ≤ i → AsFrom list u i → Refuses (list_checks list (length list / 2)) r → ⊥
unfolding checked_of reading
not_done list u i r done a refuses =
    let us = universes (length list / 2) list in
    let none : order_from us u i ≡ [] = rw (drop_of_length-le us (let h : length us ≤ i = omega (arith, done, universes_length (length list / 2) list) in h)) in
    no_refusal_lem tt r (sym (ap (λ (cs : List Check). checked_of cs) none) ∙ a.1 ∙ refuses)
