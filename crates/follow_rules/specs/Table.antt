-- What a table of sources has of a packet's source: the first used entry with its CID and universe, or else the first free one.
use Rattle.std.specs.Prelude.{ℕ, suc, List, [], ◌∷◌, Bool, false, not, eqb, replicate}
use Rattle.refusal.specs.Check.{pick, outcome}
use Rattle.cid.specs.Same.{same_cid}
use Rattle.follow_rules.specs.declared.Entry.{Entry}
use Rattle.follow_rules.specs.declared.Kind.{Kind}
use Rattle.follow_rules.specs.declared.Kind.TheVariants as kind
use Rattle.follow_rules.specs.declared.Spot.{Spot}
use Rattle.follow_rules.specs.declared.Spot.TheVariants.{Ours, Free, Neither}

-- an entry that is free and zeroed, and a table that is cleared
abbrev pub free_entry : Entry
free_entry = record { cid = replicate 16 0; universe = 0; last = 0; used = false }

abbrev pub cleared : ℕ → List Entry
cleared n = replicate n free_entry

-- one source: the same universe, and the same CID
abbrev pub is_same_source : List ℕ → ℕ → List ℕ → ℕ → Bool
is_same_source cid universe cid' universe' = pick (eqb universe universe') (outcome (same_cid cid cid')) false

-- a used entry of a source; a free entry, whatever it holds
abbrev pub ours : List ℕ → ℕ → Entry → Bool
ours cid universe e = pick e.used (is_same_source e.cid e.universe cid universe) false

abbrev pub free : Entry → Bool
free e = not e.used

-- the first entry that a test takes, and where it stands
pub data First : Type 0 where
  none : First
  first_at : ℕ → Entry → First

abbrev pub further : First → First
further none = none
further (first_at i e) = first_at (suc i) e

unfoldable pub first : (Entry → Bool) → List Entry → First
first test [] = none
first test (e ∷ es) = pick (test e) (first_at 0 e) (further (first test es))

-- the first of the source's entries; without one, the first free entry
abbrev pub found : First → First → Spot
found (first_at i e) spare = Ours i e.last
found none (first_at i e) = Free i
found none none = Neither

-- of what is no data packet no source is looked for
unfoldable pub spot_of : List Entry → List ℕ → Kind → Spot
spot_of t cid (kind.Data s) = found (first (ours cid s.universe) t) (first free t)
spot_of t cid kind.Other = Neither
spot_of t cid (kind.Unreadable r) = Neither
