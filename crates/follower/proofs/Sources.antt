-- Whose an entry is, and whose a packet: equal bytes and numbers. Assumes nothing.
use Rattle.std.proofs.Common.{ℕ, ◌≡◌, refl, sym, ◌∙◌, List, Bool, true, false, not, eqb-true, eq-eqb, eqb}
use Rattle.refusal.specs.Check.{pick, outcome}
use Rattle.refusal.proofs.Tests.{never, holds, decided}
use Rattle.cid.specs.Same.{same_cid}
use Rattle.cid.proofs.Laws.{same_is, same_holds}
use Rattle.follow_rules.specs.declared.Entry.{Entry}
use Rattle.follow_rules.specs.declared.Sent.{Sent}
use Rattle.follow_rules.specs.Table.{free_entry, is_same_source, ours, free}
use Rattle.follow_rules.specs.Rules.{kept_of}
use Rattle.follower.specs.Captures.{Source}

pub both : (a b : Bool) → pick a b false ≡ true → (a ≡ true) × (b ≡ true)
both true b e = (refl, e)
both false b e = never e

pub same_source : (cid cid' : List ℕ) (u u' : ℕ) → is_same_source cid u cid' u' ≡ true → (cid ≡ cid') × (u ≡ u')
same_source cid cid' u u' e =
    let h = both (eqb u u') (outcome (same_cid cid cid')) e in
    (same_is cid cid' (holds (same_cid cid cid') h.1), eqb-true u u' h.0)

pub same_always : (cid : List ℕ) (u : ℕ) → is_same_source cid u cid u ≡ true
same_always cid u = rw (eq-eqb u u refl) (decided (same_cid cid cid) true (same_holds cid cid refl))

-- an entry that another source uses is not ours, and neither is a free one
pub others_not : (s : Source) (cid : List ℕ) (u : ℕ) (e : Entry) → is_same_source cid u s.cid s.universe ≡ false → ours cid u e ≡ true → ours s.cid s.universe e ≡ false
others_not s cid u e differ h = by (ours s.cid s.universe e) refl
  where
    by : (o : Bool) → ours s.cid s.universe e ≡ o → o ≡ false
    by true k =
        let theirs = same_source e.cid cid e.universe u (both e.used (is_same_source e.cid e.universe cid u) h).1 in
        let mine = same_source e.cid s.cid e.universe s.universe (both e.used (is_same_source e.cid e.universe s.cid s.universe) k).1 in
        let cids : cid ≡ s.cid = sym theirs.0 ∙ mine.0 in
        let universes : u ≡ s.universe = sym theirs.1 ∙ mine.1 in
        let equal : is_same_source cid u s.cid s.universe ≡ true = rw (cids, universes) (same_always s.cid s.universe) in
        never (sym differ ∙ equal)
    by false k = refl

pub free_not : (cid : List ℕ) (u : ℕ) (e : Entry) → free e ≡ true → ours cid u e ≡ false
free_not cid u e h = by e.used h
  where
    by : (o : Bool) → not o ≡ true → pick o (is_same_source e.cid e.universe cid u) false ≡ false
    by true k = never k
    by false k = refl

-- what an accepted packet leaves is another source's nowhere
pub kept_not : (s : Source) (cid : List ℕ) (x : Sent) → is_same_source cid x.universe s.cid s.universe ≡ false → ours s.cid s.universe (kept_of cid x) ≡ false
kept_not s cid x differ = by x.stream_terminated
  where
    by : (o : Bool) → ours s.cid s.universe (pick o free_entry (record { cid = cid; universe = x.universe; last = x.sequence_number; used = true })) ≡ false
    by true = refl
    by false = differ
