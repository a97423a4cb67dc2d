-- One look at an entry at a time, as a walk along a table does it. Nobody has to believe this: that such looks find what `spot_of` says is
-- `scan_spots` of crate follower.
use Rattle.std.specs.Prelude.{ℕ, List, Bool, true, false}
use Rattle.refusal.specs.Check.{pick}
use Rattle.follow_rules.specs.declared.Entry.{Entry}
use Rattle.follow_rules.specs.declared.Kind.{Kind}
use Rattle.follow_rules.specs.declared.Kind.TheVariants as kind
use Rattle.follow_rules.specs.declared.Spot.{Spot}
use Rattle.follow_rules.specs.declared.Spot.TheVariants.{Ours, Free, Neither}
use Rattle.follow_rules.specs.Table.{ours}

abbrev pub is_data : Kind → Bool
is_data (kind.Data s) = true
is_data kind.Other = false
is_data (kind.Unreadable r) = false

abbrev pub ours_of : List ℕ → Kind → Entry → Bool
ours_of cid (kind.Data s) e = ours cid s.universe e
ours_of cid kind.Other e = false
ours_of cid (kind.Unreadable r) e = false

-- a free entry at i, after what was found so far
abbrev pub spared : Spot → ℕ → Spot
spared (Ours j l) i = Ours j l
spared (Free j) i = Free j
spared Neither i = Free i

abbrev pub look_of : Spot → ℕ → Entry → List ℕ → Kind → Spot
look_of p i e cid k = pick (ours_of cid k e) (Ours i e.last) (pick e.used p (spared p i))

-- whether the search goes on: after what was found, and of what is heard
abbrev pub seeks : Spot → Bool
seeks (Ours j l) = false
seeks (Free j) = true
seeks Neither = true

abbrev pub seeks_of : Spot → Kind → Bool
seeks_of p k = pick (is_data k) (seeks p) false
