-- Laws of universe lists: their numbers one by one, their neighbours' checks one by one, their bytes. Assumes nothing.
use Prim.Native.Nat.{ℕ, zero, suc, ◌+◌, ◌*◌, ◌/◌, ◌%◌, ◌≤◌, ◌<◌}
use mathlib.Core.Path.{◌≡◌, refl, sym, ap, ◌∙◌}
use mathlib.Core.List.{List, [], ◌∷◌, ◌++◌}
use mathlib.Core.Bool.{true}
use native.Mathlib.Nat.{zero-add}
use native.Mathlib.Omega.{arith}
use native.Mathlib.Numerals.{add-one}
use lib.ListN.{length, take, drop, get_or, set, drop_of_length-le}
use lib.Seq.{sets, take-suc, length-take-le}
use Rattle.wire.specs.Fields.{u16_at, be16}
use Rattle.wire.specs.Bytes.{Bytes, Words}
use Rattle.wire.proofs.Laws.{u16_drop, drop_more, sets_append}
use Rattle.wire.proofs.Bytes.{bytes_drop, u16_small}
use Rattle.refusal.specs.Check.{Numbered, ◌≤?◌, reading, checked_of}
use Rattle.std.specs.Prelude.{Ok, Err}
use Rattle.refusal.specs.declared.Refusal.{Refusal}
use Rattle.refusal.proofs.Tests.{decided}
use Rattle.refusal.proofs.Laws.{All, Stops, refusal_at, Every, all_hold, first_fails, reading_++, every_++}
use Rattle.discovery.specs.Universes.{universes, pairs, pairs_from, ascends, told_from, list_checks, rises, order_checks, checked_from, universe_bytes}

pub universes_length : (n : ℕ) (p : List ℕ) → length (universes n p) ≡ n
unfolding universes
universes_length zero p = refl
universes_length (suc n) p = ap suc (universes_length n (drop 2 p))

pub universes_at : (n : ℕ) (p : List ℕ) (i : ℕ) → i < n → get_or (universes n p) i 0 ≡ u16_at p (2 * i)
unfolding universes
universes_at zero p i h = absurd (omega arith)
universes_at (suc n) p zero h = refl
universes_at (suc n) p (suc i) h =
    universes_at n (drop 2 p) i (omega arith) ∙ u16_drop 2 p (2 * i) ∙ ap (u16_at p) (omega arith)

-- The universes that bytes hold have 16 bits.
pub universes_words : (n : ℕ) (p : List ℕ) → Bytes p → Words (universes n p)
unfolding universes
universes_words zero p b i = omega arith
universes_words (suc n) p b zero = u16_small p 0 b
universes_words (suc n) p b (suc i) = universes_words n (drop 2 p) (bytes_drop 2 p b) i

-- The checks of neighbours: the first list element has none, each later one those with the one before it.
module _ (f : ℕ → ℕ → List Numbered) where
  pub pairs_none : (us : List ℕ) → length us ≡ 0 → pairs f us ≡ []
  pairs_none [] h = refl
  pairs_none (u ∷ us) h = absurd (omega arith)

  pub pairs_first : (us : List ℕ) → (length us ≡ 0 → ⊥) → pairs f us ≡ pairs_from f (get_or us 0 0) (drop 1 us)
  pairs_first [] h = absurd (h refl)
  pairs_first (u ∷ us) h = refl

  -- what is so of the checks of a number before each of a list's is so of all checks of its neighbours
  pub every_pairs : (P : Refusal → Type 0) (us : List ℕ) → ((u i : ℕ) → Every P (f u (get_or us i 0))) → Every P (pairs f us)
  every_pairs P [] h = tt
  every_pairs P (u ∷ us) h = from u us (λ w i. h w (suc i))
    where
      from : (u : ℕ) (us : List ℕ) → ((w i : ℕ) → Every P (f w (get_or us i 0))) → Every P (pairs_from f u us)
      from u [] h = tt
      from u (v ∷ vs) h = every_++ P (f u v) (pairs_from f v vs) (h u 0) (λ a. from v vs (λ w i. h w (suc i)))

  module _ (us : List ℕ) (u i : ℕ) where
    pairs_more : i < length us →
        checked_of (pairs_from f u (drop i us))
        ≡ reading Err (f u (get_or us i 0)) (checked_of (pairs_from f (get_or us i 0) (drop (i + 1) us)))
    unfolding checked_of
    pairs_more h = rw (drop_more us i h) (reading_++ Err (f u (get_or us i 0)) (pairs_from f (get_or us i 0) (drop (i + 1) us)) (Ok tt))

    -- two neighbours whose checks hold; two of which check k fails; no more neighbours
    pub pair_holds : i < length us → All (f u (get_or us i 0)) →
        checked_of (pairs_from f u (drop i us)) ≡ checked_of (pairs_from f (get_or us i 0) (drop (i + 1) us))
    pair_holds h a = pairs_more h ∙ all_hold Err (f u (get_or us i 0)) _ a

    pub pair_fails : (k : ℕ) → i < length us → Stops k (f u (get_or us i 0)) →
        checked_of (pairs_from f u (drop i us)) ≡ Err (refusal_at k (f u (get_or us i 0)))
    pair_fails k h s = pairs_more h ∙ first_fails Err k (f u (get_or us i 0)) _ s

    pub pairs_end : length us ≤ i → checked_of (pairs_from f u (drop i us)) ≡ (Ok tt)
    unfolding checked_of reading
    pairs_end h = rw (drop_of_length-le us h)

-- The neighbours at writing from a place on: from the first on they are all; two that rise may be skipped.
pub checked_all : (us : List ℕ) → (length us ≡ 0 → ⊥) → checked_from 0 us ≡ checked_of (order_checks us)
checked_all us h = sym (rw (pairs_first rises us h))

pub checked_next : (us : List ℕ) (k : ℕ) → k + 1 < length us → get_or us k 0 < get_or us (k + 1) 0 → checked_from k us ≡ checked_from (k + 1) us
checked_next us k h r = pair_holds rises us (get_or us k 0) (k + 1) h (omega arith)

-- Where checks of neighbours are told decides nothing.
pub told_reading : {A : Type 0} (refused : Refusal → A) (i : ℕ) (cs : List Numbered) (next : A) →
    reading refused (told_from i cs) next ≡ reading refused cs next
unfolding reading
told_reading refused i [] next = refl
told_reading refused i (c ∷ cs) next = rw (told_reading refused (i + 2) cs next)

pub all_told : (i : ℕ) (cs : List Numbered) → All cs → All (told_from i cs)
all_told i [] h = tt
all_told i (c ∷ cs) h = (h.0, all_told (i + 2) cs h.1)

pub told_all : (i : ℕ) (cs : List Numbered) → All (told_from i cs) → All cs
told_all i [] h = tt
told_all i (c ∷ cs) h = (h.0, told_all (i + 2) cs h.1)

pub every_told : (P : Refusal → Type 0) (i : ℕ) (cs : List Numbered) → Every P cs → Every P (told_from i cs)
every_told P i [] h = tt
every_told P i (c ∷ cs) h = (h.0, λ t. every_told P (i + 2) cs (h.1 t))

-- A list whose part holds it is refused by its order alone.
pub listed : (p : List ℕ) (n : ℕ) → 2 * n ≤ length p → checked_of (list_checks p n) ≡ checked_of (pairs ascends (universes n p))
unfolding checked_of reading
listed p n h = rw (decided (2 * n ≤? length p) true h) (told_reading Err 2 (pairs ascends (universes n p)) (Ok tt))

-- The bytes of universes.
bytes_++ : (us vs : List ℕ) → universe_bytes (us ++ vs) ≡ universe_bytes us ++ universe_bytes vs
unfolding universe_bytes
bytes_++ [] vs = refl
bytes_++ (u ∷ us) vs = rw (bytes_++ us vs)

pub bytes_length : (us : List ℕ) → length (universe_bytes us) ≡ 2 * length us
unfolding universe_bytes
bytes_length [] = refl
bytes_length (u ∷ us) = omega (arith, bytes_length us)

pub bytes_more : (us l : List ℕ) (at i : ℕ) → i < length us →
    sets l at (universe_bytes (take (i + 1) us)) ≡ sets (sets l at (universe_bytes (take i us))) (at + 2 * i) (be16 (get_or us i 0))
unfolding universe_bytes
bytes_more us l at i h =
    let k : i ≤ length us = omega arith in
    let n : length (universe_bytes (take i us)) ≡ 2 * i = bytes_length (take i us) ∙ rw length-take-le in
    rw (add-one, take-suc us i 0, bytes_++ (take i us) (get_or us i 0 ∷ []))
    (sets_append (universe_bytes (take i us)) (be16 (get_or us i 0)) l at ∙ rw n)

pub bytes_next : (us l : List ℕ) (i : ℕ) → i < length us →
    let u = get_or us i 0 in
    set (set (sets l 0 (universe_bytes (take i us))) (2 * i) (u / 0x100 % 0x100)) (2 * i + 1) (u % 0x100) ≡ sets l 0 (universe_bytes (take (i + 1) us))
bytes_next us l i h = sym (bytes_more us l 0 i h ∙ rw (zero-add (2 * i), add-one (2 * i)))
