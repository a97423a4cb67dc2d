-- One walk along a table finds what the table has of a source. Assumes nothing.
use Rattle.std.proofs.Common.{◌≡◌, ℕ, suc, ◌+◌, ◌<◌, ◌≤◌, Bool, true, false, List, [], ◌∷◌, length, get_or, drop, refl, ◌∙◌, arith, add-one, add-zero, drop-cons, drop_of_length-le}
use Rattle.refusal.specs.Check.{pick}
use Rattle.follow_rules.specs.declared.Entry.{Entry}
use Rattle.follow_rules.specs.declared.Sent.{Sent}
use Rattle.follow_rules.specs.declared.Kind.{Kind}
use Rattle.follow_rules.specs.declared.Kind.TheVariants as kind
use Rattle.follow_rules.specs.declared.Spot.{Spot}
use Rattle.follow_rules.specs.declared.Spot.TheVariants.{Ours, Free, Neither}
use Rattle.follow_rules.specs.Table.{ours, free, First, none, first_at, further, first, found, spot_of}
use Rattle.follow_rules.specs.Walk.{look_of, seeks_of}

-- The entries from entry i on are looked at in turn, for as long as a source is sought.
unfoldable pub scan_from : ℕ → List Entry → List ℕ → Kind → Spot → Spot
scan_from i [] cid k p = p
scan_from i (e ∷ es) cid k p = pick (seeks_of p k) (scan_from (suc i) es cid k (look_of p i e cid k)) p

-- The walk ends: what is sought is found, or nothing is sought
pub settled : (i : ℕ) (t : List Entry) (cid : List ℕ) (k : Kind) (p : Spot) → seeks_of p k ≡ false → scan_from i t cid k p ≡ p
unfolding scan_from
settled i [] cid k p done = refl
settled i (e ∷ es) cid k p done = rw done

-- what was found, in a table that goes on from entry i
abbrev from : ℕ → First → First
from i none = none
from i (first_at j e) = first_at (i + j) e

from_next : (i : ℕ) (f : First) → from (suc i) f ≡ from i (further f)
from_next i none = refl
from_next i (first_at j e) = let h : suc i + j ≡ i + suc j = omega arith in rw h

module _ (cid : List ℕ) (s : Sent) where
  abbrev is_ours : Entry → Bool
  is_ours = ours cid s.universe

  -- a free entry is known: only the source's own counts now
  free_known : (i : ℕ) (t : List Entry) (j : ℕ) (spare : Entry) → scan_from i t cid (kind.Data s) (Free j) ≡ found (from i (first is_ours t)) (first_at j spare)
  unfolding scan_from first
  free_known i [] j spare = refl
  free_known i (e ∷ es) j spare = by (is_ours e) e.used refl refl (free_known (suc i) es j spare)
    where
      by : (o u : Bool) → is_ours e ≡ o → e.used ≡ u → scan_from (suc i) es cid (kind.Data s) (Free j) ≡ found (from (suc i) (first is_ours es)) (first_at j spare) →
          scan_from i (e ∷ es) cid (kind.Data s) (Free j) ≡ found (from i (first is_ours (e ∷ es))) (first_at j spare)
      by true u h g rest = rw (h, add-zero i) (settled (suc i) es cid (kind.Data s) (Ours i e.last) refl)
      by false true h g rest = rw (h, g, ← from_next i (first is_ours es)) rest
      by false false h g rest = rw (h, g, ← from_next i (first is_ours es)) rest

  -- nothing is known
  none_known : (i : ℕ) (t : List Entry) → scan_from i t cid (kind.Data s) Neither ≡ found (from i (first is_ours t)) (from i (first free t))
  unfolding scan_from first
  none_known i [] = refl
  none_known i (e ∷ es) = by (is_ours e) e.used refl refl (none_known (suc i) es)
    where
      by : (o u : Bool) → is_ours e ≡ o → e.used ≡ u → scan_from (suc i) es cid (kind.Data s) Neither ≡ found (from (suc i) (first is_ours es)) (from (suc i) (first free es)) →
          scan_from i (e ∷ es) cid (kind.Data s) Neither ≡ found (from i (first is_ours (e ∷ es))) (from i (first free (e ∷ es)))
      by true u h g rest = rw (h, add-zero i) (settled (suc i) es cid (kind.Data s) (Ours i e.last) refl)
      by false true h g rest = rw (h, g, ← from_next i (first is_ours es), ← from_next i (first free es)) rest
      by false false h g rest = rw (h, g, ← from_next i (first is_ours es), add-zero i) (free_known (suc i) es i (record { cid = e.cid; universe = e.universe; last = e.last; used = false }))

from_start : (f : First) → from 0 f ≡ f
from_start none = refl
from_start (first_at j e) = let h : 0 + j ≡ j = omega arith in rw h

-- a walk along the whole table
pub scan_spots : (t : List Entry) (cid : List ℕ) (k : Kind) → scan_from 0 t cid k Neither ≡ spot_of t cid k
unfolding scan_from spot_of
scan_spots t cid (kind.Data s) = none_known cid s 0 t ∙ rw (from_start (first (ours cid s.universe) t), from_start (first free t))
scan_spots t cid kind.Other = settled 0 t cid kind.Other Neither refl
scan_spots t cid (kind.Unreadable r) = settled 0 t cid (kind.Unreadable r) Neither refl

-- one look more
pub next_look : (t : List Entry) (cid : List ℕ) (k : Kind) (p : Spot) (i : ℕ) (d : Entry) → i < length t → seeks_of p k ≡ true →
    scan_from i (drop i t) cid k p ≡ scan_from (i + 1) (drop (i + 1) t) cid k (look_of p i (get_or t i d) cid k)
unfolding scan_from
next_look t cid k p i d below more = rw (add-one, drop-cons t i d below, more)

-- no entry more
pub all_seen : (t : List Entry) (cid : List ℕ) (k : Kind) (p : Spot) (i : ℕ) → length t ≤ i → scan_from i (drop i t) cid k p ≡ p
unfolding scan_from
all_seen t cid k p i end = rw (drop_of_length-le t end)

-- what the walk's goals need: its start, a look, and its two ends
pub ruleset walk_steps = (scan_spots, next_look, settled, all_seen)
