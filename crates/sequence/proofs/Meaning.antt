-- What is late, in plain numbers: the same number, or one that is fewer than 20 behind, over the wrap too. And the edges. Assumes nothing.
use Rattle.std.proofs.Common.{◌≡◌, ℕ, ◌+◌, ◌-◌, ◌%◌, ◌<◌, ◌≤◌, Bool, true, false, ltb, leb, [], ◌∷◌, map, pos, negsuc, sym, refl, arith, ltb-false, ltb-true, le-ltb, lt-ltb, leb-false, leb-true}
use Rattle.refusal.specs.Check.{pick}
use Rattle.sequence.specs.Sequence.{difference_of, late_by, late_of}

-- how far the new number is behind the last, in eight bits
abbrev pub behind_of : ℕ → ℕ → ℕ
behind_of new last = (last + (256 - new)) % 256

pub late_is : (new last : ℕ) → new < 256 → last < 256 → late_of new last ≡ ltb (behind_of new last) 20
unfolding late_of
late_is new last hn hl = by (ltb d 128) refl
  where
    d : ℕ
    d = difference_of new last

    far : ℕ
    far = behind_of new last

    ahead : (o : Bool) → leb d 0 ≡ o → d < 128 → pick o true false ≡ ltb far 20
    ahead true e l = let z : d ≤ 0 = leb-true d 0 e in sym (lt-ltb far 20 (omega arith))
    ahead false e l = let z : 0 < d = leb-false d 0 e in sym (le-ltb far 20 (omega arith))

    before : (o : Bool) → ltb (255 - d) 19 ≡ o → 128 ≤ d → o ≡ ltb far 20
    before true e l = let z : 255 - d < 19 = ltb-true (255 - d) 19 e in sym (lt-ltb far 20 (omega arith))
    before false e l = let z : 19 ≤ 255 - d = ltb-false (255 - d) 19 e in sym (le-ltb far 20 (omega arith))

    by : (o : Bool) → ltb d 128 ≡ o → late_by (pick o (pos d) (negsuc (255 - d))) ≡ ltb far 20
    by true e = ahead (leb d 0) refl (ltb-true d 128 e)
    by false e = before (ltb (255 - d) 19) refl (ltb-false d 128 e)

-- new after last: the same; the next; 19 and 20 behind; the same over the wrap; the next over the wrap; half the way round, to either side
pub edges :
    map
    (λ (p : ℕ × ℕ). late_of p.0 p.1)
    ((7, 7) ∷ (8, 7) ∷ (81, 100) ∷ (80, 100) ∷ (255, 0) ∷ (237, 0) ∷ (236, 0) ∷ (0, 255) ∷ (127, 0) ∷ (128, 0) ∷ [])
    ≡ true ∷ false ∷ true ∷ false ∷ true ∷ true ∷ false ∷ false ∷ false ∷ false ∷ []
unfolding late_of
edges = refl
