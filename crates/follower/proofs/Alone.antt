-- Isolation: the answers to a source's packets are those of its own small machine, whoever else sends. Assumes nothing.
use Rattle.std.proofs.Common.{ℕ, zero, suc, ◌≡◌, refl, sym, ap, ap₂, ◌∙◌, List, [], ◌∷◌, ◌++◌, Bool, true, false, arith, set}
use Rattle.refusal.specs.Check.{pick}
use Rattle.refusal.proofs.Tests.{never}
use Rattle.packet.specs.Packet.{reading_of}
use Rattle.packet.specs.declared.DataRecord.{DataRecord}
use Rattle.framing.specs.declared.DataFields.{DataFields}
use Rattle.packet.specs.declared.Packet.{Packet}
use Rattle.packet.specs.declared.Packet.TheVariants as packet
use Rattle.follow_rules.specs.declared.Entry.{Entry}
use Rattle.follow_rules.specs.declared.Sent.{Sent}
use Rattle.follow_rules.specs.declared.Totals.{Totals}
use Rattle.follow_rules.specs.declared.Answer.{Answer}
use Rattle.follow_rules.specs.declared.Answer.TheVariants.{Accepted, Discarded, Refused, NotData, Unreadable}
use Rattle.follow_rules.specs.Table.{free_entry, cleared, is_same_source, ours, free}
use Rattle.follow_rules.specs.Rules.{kept_of}
use Rattle.follower.specs.Follow.{sent_in, After, follow_of}
use Rattle.follower.specs.Captures.{Held, begun, answer_to, next_of, answers_of, is_other_packet, Source, is_from, from, packets_of, picked, answers_to, Known, nothing, last, left_by, known_next, known_answer, alone_at, alone_of, Unrefused}
use Rattle.follower.proofs.Sources.{same_source, same_always, others_not, free_not, kept_not}
use Rattle.follower.proofs.Firsts.{Lacks, Around, stored}
use Rattle.follower.proofs.Steps.{Case, unread, other, at_largest, discarded, accepted, taken_in, no_room, each_case}

-- The last numbers of all entries that a source uses.
abbrev mine_in : Source → Entry → List ℕ → List ℕ
mine_in s e ls = pick (ours s.cid s.universe e) (e.last ∷ ls) ls

mine : Source → List Entry → List ℕ
mine s [] = []
mine s (e ∷ es) = mine_in s e (mine s es)

mine_++ : (s : Source) (xs ys : List Entry) → mine s (xs ++ ys) ≡ mine s xs ++ mine s ys
unfolding mine
mine_++ s [] ys = refl
mine_++ s (e ∷ xs) ys = by (ours s.cid s.universe e) (mine_++ s xs ys)
  where
    by : (o : Bool) → mine s (xs ++ ys) ≡ mine s xs ++ mine s ys → pick o (e.last ∷ mine s (xs ++ ys)) (mine s (xs ++ ys)) ≡ pick o (e.last ∷ mine s xs) (mine s xs) ++ mine s ys
    by true ih = ap (λ (l : List ℕ). e.last ∷ l) ih
    by false ih = ih

mine_lacks : (s : Source) (xs : List Entry) → Lacks (ours s.cid s.universe) xs → mine s xs ≡ []
unfolding mine
mine_lacks s [] l = refl
mine_lacks s (e ∷ xs) l = rw l.0 (mine_lacks s xs l.1)

-- what the machine knows, as such a list
abbrev listed : Known → List ℕ
listed nothing = []
listed (last l) = l ∷ []

-- around an entry
module _ (s : Source) (test : Entry → Bool) (t : List Entry) (i : ℕ) (e : Entry) (a : Around test t i e) where
  mine_around : mine s t ≡ mine s a.front ++ mine_in s e (mine s a.back)
  unfolding mine
  mine_around = ap (mine s) a.whole ∙ mine_++ s a.front (e ∷ a.back)

  mine_stored : (k : Entry) → mine s (set t i k) ≡ mine s a.front ++ mine_in s k (mine s a.back)
  unfolding mine
  mine_stored k = ap (mine s) (stored test t i e k a) ∙ mine_++ s a.front (k ∷ a.back)

  -- an entry that is not the source's, replaced by one that is not: nothing changes for it
  unmoved : (k : Entry) → ours s.cid s.universe e ≡ false → ours s.cid s.universe k ≡ false → mine s (set t i k) ≡ mine s t
  unmoved k h g = mine_stored k ∙ rw (g) (sym (mine_around ∙ rw h))

empty_front : (xs ys : List ℕ) → xs ++ ys ≡ [] → xs ≡ []
empty_front [] ys e = refl
empty_front (x ∷ xs) ys e = let z : ◌≡◌ {A = ℕ} 0 1 = cc in absurd (omega arith)

empty_back : (xs ys : List ℕ) → xs ++ ys ≡ [] → ys ≡ []
empty_back [] ys e = e
empty_back (x ∷ xs) ys e = let z : ◌≡◌ {A = ℕ} 0 1 = cc in absurd (omega arith)

-- Another source's packet, or no data packet: nothing changes for the source.
other_step : (s : Source) (t : List Entry) (n : Totals) (d : List ℕ) → from s d ≡ false → mine s (follow_of t n d).table ≡ mine s t
unfolding from
other_step s t n d elsewhere = by (follow_of t n d) (each_case t n d)
  where
    cid : List ℕ
    cid = (reading_of d).cid

    theirs : (x : DataRecord DataFields) → (reading_of d).packet ≡ packet.Data x → is_same_source cid x.fields.universe s.cid s.universe ≡ false
    theirs x e = ap (is_from s cid) (sym e) ∙ elsewhere

    by : (r : After) → Case t n cid (reading_of d).packet r → mine s r.table ≡ mine s t
    by _ (unread q e) = refl
    by _ (other e) = refl
    by _ (at_largest x e k) = refl
    by _ (discarded x e f i y a k) = refl
    by _ (accepted x e f i y a k) =
        unmoved s (ours cid x.fields.universe) t i y a (kept_of cid (sent_in x.fields))
        (others_not s cid x.fields.universe y (theirs x e) a.passes) (kept_not s cid (sent_in x.fields) (theirs x e))
    by _ (taken_in x e f k i y a) =
        unmoved s free t i y a (kept_of cid (sent_in x.fields)) (free_not s.cid s.universe y a.passes)
        (kept_not s cid (sent_in x.fields) (theirs x e))
    by _ (no_room x e f k m) = refl

-- The source's own packet: what it is answered, and what is known of the source then.
record Agrees (s : Source) (k : Known) (p : Packet) (r : After) : Type 0 where
  packet_is : DataRecord DataFields
  same : p ≡ packet.Data packet_is
  answered : r.followed.answer ≡ known_answer k (sent_in packet_is.fields)
  known : mine s r.table ≡ listed (known_next k (sent_in packet_is.fields))

module _ (s : Source) (t : List Entry) (k : Known) (is : mine s t ≡ listed k) where
  -- an entry that the source uses is the one that is known of
  own_entry : (i : ℕ) (e : Entry) (a : Around (ours s.cid s.universe) t i e) → (k ≡ last e.last) × (mine s a.front ≡ []) × (mine s a.back ≡ [])
  own_entry i e a = by k (sym is ∙ mine_around s (ours s.cid s.universe) t i e a ∙ rw (none, a.passes))
    where
      none : mine s a.front ≡ []
      none = mine_lacks s a.front a.before

      by : (m : Known) → listed m ≡ e.last ∷ mine s a.back → (m ≡ last e.last) × (mine s a.front ≡ []) × (mine s a.back ≡ [])
      by nothing p = let z : ◌≡◌ {A = ℕ} 0 1 = cc in absurd (omega arith)
      by (last l) p =
          let number : l ≡ e.last = cc in
          let rest : mine s a.back ≡ [] = cc in
          (ap last number, none, rest)

  -- where it uses none, nothing is known of it, and a free entry stands among others'
  no_entry : Lacks (ours s.cid s.universe) t → (i : ℕ) (e : Entry) (a : Around free t i e) → (k ≡ nothing) × (mine s a.front ≡ []) × (mine s a.back ≡ [])
  no_entry lacks i e a = (by k (sym is ∙ empty), empty_front (mine s a.front) (mine s a.back) whole, empty_back (mine s a.front) (mine s a.back) whole)
    where
      empty : mine s t ≡ []
      empty = mine_lacks s t lacks

      whole : mine s a.front ++ mine s a.back ≡ []
      whole = sym (mine_around s free t i e a ∙ rw (free_not s.cid s.universe e a.passes)) ∙ empty

      by : (m : Known) → listed m ≡ [] → m ≡ nothing
      by nothing p = refl
      by (last l) p = let z : ◌≡◌ {A = ℕ} 0 1 = cc in absurd (omega arith)

kept_mine : (s : Source) (x : Sent) → x.universe ≡ s.universe → mine_in s (kept_of s.cid x) [] ≡ listed (left_by x)
kept_mine s x u = by x.stream_terminated
  where
    by : (o : Bool) → mine_in s (pick o free_entry (record { cid = s.cid; universe = x.universe; last = x.sequence_number; used = true })) [] ≡ listed (pick o nothing (last x.sequence_number))
    by true = refl
    by false = rw (u, same_always s.cid s.universe)

own_step : (s : Source) (t : List Entry) (n : Totals) (d : List ℕ) (k : Known) → from s d ≡ true → mine s t ≡ listed k →
    Unrefused ((follow_of t n d).followed.answer ∷ []) → Agrees s k (reading_of d).packet (follow_of t n d)
unfolding from
own_step s t n d k here is = by (follow_of t n d) (each_case t n d)
  where
    cid : List ℕ
    cid = (reading_of d).cid

    source : (x : DataRecord DataFields) → (reading_of d).packet ≡ packet.Data x → (cid ≡ s.cid) × (x.fields.universe ≡ s.universe)
    source x e = same_source cid s.cid x.fields.universe s.universe (ap (is_from s cid) (sym e) ∙ here)

    not_other : {A : Type 0} (p : Packet) → is_other_packet p ≡ true → is_from s cid p ≡ true → A
    not_other (packet.Data x) o g = never o
    not_other (packet.Synchronization x) o g = never g
    not_other (packet.Discovery x) o g = never g
    not_other (packet.Refused r) o g = never o

    by : (r : After) → Case t n cid (reading_of d).packet r → Unrefused (r.followed.answer ∷ []) → Agrees s k (reading_of d).packet r
    by _ (unread q e) u = never (sym (ap (is_from s cid) e) ∙ here)
    by _ (other e) u = not_other (reading_of d).packet e here
    by _ (at_largest x e l) u = absurd u
    by _ (no_room x e f l m) u = absurd u
    by _ (discarded x e f i y a l) u =
        let (cids, universes) = source x e in
        let o = own_entry s t k is i y (rw (← cids, ← universes) a) in
        record { packet_is = x; same = e; answered = rw (o.0, l); known = rw (o.0, l) (is ∙ ap listed o.0) }
    by _ (accepted x e f i y a l) u =
        let (cids, universes) = source x e in
        let a' : Around (ours s.cid s.universe) t i y = rw (← cids, ← universes) a in
        let o = own_entry s t k is i y a' in
        let stores = mine_stored s (ours s.cid s.universe) t i y a' (kept_of cid (sent_in x.fields)) in
        record { packet_is = x; same = e; answered = rw (o.0, l); known = rw (o.0, l) (stores ∙ rw (o.1, o.2, cids) (kept_mine s (sent_in x.fields) universes)) }
    by _ (taken_in x e f l i y a) u =
        let (cids, universes) = source x e in
        let o = no_entry s t k is (rw (← cids, ← universes) l) i y a in
        let stores = mine_stored s free t i y a (kept_of cid (sent_in x.fields)) in
        record { packet_is = x; same = e; answered = rw o.0; known = rw o.0 (stores ∙ rw (o.1, o.2, cids) (kept_mine s (sent_in x.fields) universes)) }

-- no refusal in a list: none at its head, none behind it
unrefused : (a : Answer) (rest : List Answer) → Unrefused (a ∷ rest) → Unrefused (a ∷ []) × Unrefused rest
unrefused (Refused r) rest u = absurd u
unrefused Accepted rest u = (tt, u)
unrefused Discarded rest u = (tt, u)
unrefused NotData rest u = (tt, u)
unrefused (Unreadable r) rest u = (tt, u)

-- Over a capture.
alone_from : (s : Source) (h : Held) (ds : List (List ℕ)) (k : Known) → mine s h.table ≡ listed k → Unrefused (answers_to s h ds) →
    answers_to s h ds ≡ alone_of (packets_of s ds) k
unfolding answers_of picked packets_of alone_of
alone_from s h [] k is u = refl
alone_from s h (d ∷ ds) k is u = by (from s d) refl u (alone_from s (next_of h d) ds)
  where
    rest : List Answer
    rest = answers_to s (next_of h d) ds

    by : (o : Bool) → from s d ≡ o → Unrefused (pick o (answer_to h d ∷ rest) rest) →
        ((m : Known) → mine s (next_of h d).table ≡ listed m → Unrefused rest → rest ≡ alone_of (packets_of s ds) m) →
        pick o (answer_to h d ∷ rest) rest ≡ alone_of (pick o (d ∷ packets_of s ds) (packets_of s ds)) k
    by true e v ih =
        let (here, behind) = unrefused (answer_to h d) rest v in
        let own = own_step s h.table h.totals d k e is here in
        let sent = sent_in own.packet_is.fields in
        let follows : rest ≡ alone_of (packets_of s ds) (known_next k sent) = ih (known_next k sent) own.known behind in
        ap₂ (λ (a : Answer) (l : List Answer). a ∷ l) own.answered follows ∙ sym (ap (alone_at (alone_of (packets_of s ds)) k) own.same)
    by false e v ih = ih k (other_step s h.table h.totals d e ∙ is) v

none_cleared : (s : Source) (n : ℕ) → mine s (cleared n) ≡ []
unfolding mine
none_cleared s zero = refl
none_cleared s (suc n) = none_cleared s n

-- From a cleared table of any length and zero totals: if no packet of a source is refused 40 or 41, the answers to them are its machine's.
pub alone : (s : Source) (n : ℕ) (ds : List (List ℕ)) → Unrefused (answers_to s (begun n) ds) → answers_to s (begun n) ds ≡ alone_of (packets_of s ds) nothing
alone s n ds u = alone_from s (begun n) ds nothing (none_cleared s n) u

-- Two captures that hold a source's packets alike, in two cleared tables, none of them refused 40 or 41 in either: the answers to them are the same.
pub isolated : (s : Source) (m n : ℕ) (ds es : List (List ℕ)) → packets_of s ds ≡ packets_of s es →
    Unrefused (answers_to s (begun m) ds) → Unrefused (answers_to s (begun n) es) → answers_to s (begun m) ds ≡ answers_to s (begun n) es
isolated s m n ds es same u v = alone s m ds u ∙ ap (λ (ps : List (List ℕ)). alone_of ps nothing) same ∙ sym (alone s n es v)
