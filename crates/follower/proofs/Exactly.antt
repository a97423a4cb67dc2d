-- Refusals 40 and 41 are told exactly then, in that order, after reading's own; what does not move; where an accepted packet is stored; and that
-- freed room is used. Of every table, all totals and every datagram. Assumes nothing.
use Rattle.std.proofs.Common.{ℕ, suc, ◌+◌, ◌<◌, ◌≡◌, refl, sym, ap, subst, ◌∙◌, List, Bool, true, false, ◌⊎◌, inl, inr, arith, length, set, take, drop}
use Rattle.std.proofs.lemmas.List.{set_split}
use Rattle.refusal.specs.Check.{pick, refusal, nowhere}
use Rattle.refusal.specs.declared.Refusal.{Refusal}
use Rattle.refusal.proofs.Tests.{Holds, Fails, clash, never}
use Rattle.packet.specs.Packet.{reading_of}
use Rattle.packet.specs.declared.DataRecord.{DataRecord}
use Rattle.framing.specs.declared.DataFields.{DataFields}
use Rattle.packet.specs.declared.Packet.{Packet}
use Rattle.packet.specs.declared.Packet.TheVariants as packet
use Rattle.follow_rules.specs.declared.Entry.{Entry}
use Rattle.follow_rules.specs.declared.Totals.{Totals}
use Rattle.follow_rules.specs.declared.Answer.{Answer}
use Rattle.follow_rules.specs.declared.Answer.TheVariants.{Accepted, Discarded, Refused, NotData, Unreadable}
use Rattle.follow_rules.specs.Totals.{full, refuse_of}
use Rattle.follow_rules.specs.Table.{free_entry, free, ours}
use Rattle.follow_rules.specs.Rules.{kept_of}
use Rattle.follower.specs.Follow.{sent_in, After, follow_of}
use Rattle.follower.specs.Captures.{is_data_packet, is_other_packet, its_own}
use Rattle.follower.proofs.Firsts.{Lacks, Around, within, present}
use Rattle.follower.proofs.Steps.{given, Case, unread, other, at_largest, discarded, accepted, taken_in, no_room, each_case}

abbrev refused40 : Answer
refused40 = Refused (refusal 40 nowhere 0)

abbrev refused41 : Answer
refused41 = Refused (refusal 41 nowhere 0)

-- answers that differ have different codes
abbrev code_of : Answer → ℕ
code_of Accepted = 0
code_of Discarded = 1
code_of NotData = 2
code_of (Unreadable r) = 3
code_of (Refused r) = 4 + r.number

abbrev refusal_of : Answer → Refusal
refusal_of (Refused r) = r
refusal_of (Unreadable r) = r
refusal_of Accepted = refusal 0 0 0
refusal_of Discarded = refusal 0 0 0
refusal_of NotData = refusal 0 0 0

abbrev refusal_in : Packet → Refusal
refusal_in (packet.Refused r) = r
refusal_in (packet.Data x) = refusal 0 0 0
refusal_in (packet.Synchronization x) = refusal 0 0 0
refusal_in (packet.Discovery x) = refusal 0 0 0

data_in_lem : (x w : DataRecord DataFields) → packet.Data x ≡ packet.Data w → x ≡ w
data_in_lem x w e = ap (record_in x) e
  where
    record_in : DataRecord DataFields → Packet → DataRecord DataFields
    record_in y (packet.Data z) = z
    record_in y (packet.Synchronization z) = y
    record_in y (packet.Discovery z) = y
    record_in y (packet.Refused z) = y

-- an entry that passes is not lacking
not_around : (test : Entry → Bool) (t : List Entry) (i : ℕ) (e : Entry) → Around test t i e → Lacks test t → ⊥
not_around test t i e a l = present test a.front a.back e a.passes (subst (Lacks test) a.whole l)

-- where an accepted packet is stored: in its source's first entry, or where that has none in the first free one
abbrev pub StoredAt : (Entry → Bool) → List Entry → ℕ → Type 0
StoredAt own t i = (e : Entry) × (Around own t i e ⊎ (Lacks own t × Around free t i e))

stored_within : (own : Entry → Bool) (t : List Entry) (i : ℕ) → StoredAt own t i → i < length t
stored_within own t i (e, inl a) = within own t i e a
stored_within own t i (e, inr a) = within free t i e a.1

module _ (t : List Entry) (n : Totals) (d : List ℕ) where
  abbrev cid : List ℕ
  cid = (reading_of d).cid

  abbrev read : Packet
  read = (reading_of d).packet

  abbrev answer : Answer
  answer = (follow_of t n d).followed.answer

  abbrev IsData : Type 0
  IsData = is_data_packet read ≡ true

  -- what is so of each case is so of what was done
  by_case : (P : After → Type 0) → ((r : After) → Case t n cid read r → P r) → P (follow_of t n d)
  by_case P f = f (follow_of t n d) (each_case t n d)

  -- a packet is of one kind
  not_refused : {A : Type 0} (r : Refusal) → read ≡ packet.Refused r → IsData → A
  not_refused r e data_is = never (sym (ap is_data_packet e) ∙ data_is)

  not_other : {A : Type 0} → is_other_packet read ≡ true → IsData → A
  not_other e data_is = by read e data_is
    where
      by : {A : Type 0} (p : Packet) → is_other_packet p ≡ true → is_data_packet p ≡ true → A
      by (packet.Data x) o k = never o
      by (packet.Synchronization x) o k = never k
      by (packet.Discovery x) o k = never k
      by (packet.Refused r) o k = never o

  not_this : {A : Type 0} (x : DataRecord DataFields) → read ≡ packet.Data x → is_data_packet read ≡ false → A
  not_this x e none = never (sym none ∙ ap is_data_packet e)

  theirs : (x : DataRecord DataFields) → read ≡ packet.Data x → its_own cid read ≡ ours cid x.fields.universe
  theirs x e = ap (its_own cid) e

  -- Reading's own refusal comes first, and nothing moves.
  pub unreadable : (r : Refusal) → read ≡ packet.Refused r → follow_of t n d ≡ given t (Unreadable r) n
  unreadable r is = by_case (λ x. x ≡ given t (Unreadable r) n) by
    where
      by : (x : After) → Case t n cid read x → x ≡ given t (Unreadable r) n
      by _ (unread q e) = ap (λ (p : Packet). given t (Unreadable (refusal_in p)) n) (sym e ∙ is)
      by _ (other e) = never (sym (ap is_other_packet is) ∙ e)
      by _ (at_largest x e k) = never (sym (ap is_data_packet is) ∙ ap is_data_packet e)
      by _ (discarded x e f i y a k) = never (sym (ap is_data_packet is) ∙ ap is_data_packet e)
      by _ (accepted x e f i y a k) = never (sym (ap is_data_packet is) ∙ ap is_data_packet e)
      by _ (taken_in x e f k i y a) = never (sym (ap is_data_packet is) ∙ ap is_data_packet e)
      by _ (no_room x e f k m) = never (sym (ap is_data_packet is) ∙ ap is_data_packet e)

  pub only_unreadable : (r : Refusal) → answer ≡ Unreadable r → read ≡ packet.Refused r
  only_unreadable q = by_case (λ r. r.followed.answer ≡ Unreadable q → read ≡ packet.Refused q) by
    where
      by : (r : After) → Case t n cid read r → r.followed.answer ≡ Unreadable q → read ≡ packet.Refused q
      by _ (unread z e) g = e ∙ ap packet.Refused (ap refusal_of g)
      by _ (other e) g = absurd (omega (arith, ap code_of g))
      by _ (at_largest x e k) g = absurd (omega (arith, ap code_of g))
      by _ (discarded x e f i y a k) g = absurd (omega (arith, ap code_of g))
      by _ (accepted x e f i y a k) g = absurd (omega (arith, ap code_of g))
      by _ (taken_in x e f k i y a) g = absurd (omega (arith, ap code_of g))
      by _ (no_room x e f k m) g = absurd (omega (arith, ap code_of g))

  -- Another packet: nothing moves.
  pub not_data : is_other_packet read ≡ true → follow_of t n d ≡ given t NotData n
  not_data is = by_case (λ r. r ≡ given t NotData n) by
    where
      by : (r : After) → Case t n cid read r → r ≡ given t NotData n
      by _ (unread q e) = never (sym (ap is_other_packet e) ∙ is)
      by _ (other e) = refl
      by _ (at_largest x e k) = not_other is (ap is_data_packet e)
      by _ (discarded x e f i y a k) = not_other is (ap is_data_packet e)
      by _ (accepted x e f i y a k) = not_other is (ap is_data_packet e)
      by _ (taken_in x e f k i y a) = not_other is (ap is_data_packet e)
      by _ (no_room x e f k m) = not_other is (ap is_data_packet e)

  pub only_not_data : answer ≡ NotData → is_other_packet read ≡ true
  only_not_data = by_case (λ r. r.followed.answer ≡ NotData → is_other_packet read ≡ true) by
    where
      by : (r : After) → Case t n cid read r → r.followed.answer ≡ NotData → is_other_packet read ≡ true
      by _ (unread q e) g = absurd (omega (arith, ap code_of g))
      by _ (other e) g = e
      by _ (at_largest x e k) g = absurd (omega (arith, ap code_of g))
      by _ (discarded x e f i y a k) g = absurd (omega (arith, ap code_of g))
      by _ (accepted x e f i y a k) g = absurd (omega (arith, ap code_of g))
      by _ (taken_in x e f k i y a) g = absurd (omega (arith, ap code_of g))
      by _ (no_room x e f k m) g = absurd (omega (arith, ap code_of g))

  -- 40: a data packet with any total at its largest number; nothing moves.
  pub at_largest_40 : IsData → Holds (full n) → follow_of t n d ≡ given t refused40 n
  at_largest_40 data_is l = by_case (λ r. r ≡ given t refused40 n) by
    where
      by : (r : After) → Case t n cid read r → r ≡ given t refused40 n
      by _ (unread q e) = not_refused q e data_is
      by _ (other e) = not_other e data_is
      by _ (at_largest x e k) = refl
      by _ (discarded x e f i y a k) = absurd (clash (full n) l f)
      by _ (accepted x e f i y a k) = absurd (clash (full n) l f)
      by _ (taken_in x e f k i y a) = absurd (clash (full n) l f)
      by _ (no_room x e f k m) = absurd (clash (full n) l f)

  pub only_40 : answer ≡ refused40 → IsData × Holds (full n)
  only_40 = by_case (λ r. r.followed.answer ≡ refused40 → IsData × Holds (full n)) by
    where
      by : (r : After) → Case t n cid read r → r.followed.answer ≡ refused40 → IsData × Holds (full n)
      by _ (unread q e) g = absurd (omega (arith, ap code_of g))
      by _ (other e) g = absurd (omega (arith, ap code_of g))
      by _ (at_largest x e k) g = (ap is_data_packet e, k)
      by _ (discarded x e f i y a k) g = absurd (omega (arith, ap code_of g))
      by _ (accepted x e f i y a k) g = absurd (omega (arith, ap code_of g))
      by _ (taken_in x e f k i y a) g = absurd (omega (arith, ap code_of g))
      by _ (no_room x e f k m) g = absurd (omega (arith, ap code_of g))

  -- 41: a data packet, no total at its largest, no used entry of its source and no free one; the table stays, and the room-refused total moves.
  pub no_room_41 : IsData → Fails (full n) → Lacks (its_own cid read) t → Lacks free t → follow_of t n d ≡ given t refused41 (refuse_of n)
  no_room_41 data_is few own spare = by_case (λ r. r ≡ given t refused41 (refuse_of n)) by
    where
      by : (r : After) → Case t n cid read r → r ≡ given t refused41 (refuse_of n)
      by _ (unread q e) = not_refused q e data_is
      by _ (other e) = not_other e data_is
      by _ (at_largest x e k) = absurd (clash (full n) k few)
      by _ (discarded x e f i y a k) = absurd (not_around (its_own cid read) t i y (rw (theirs x e) a) own)
      by _ (accepted x e f i y a k) = absurd (not_around (its_own cid read) t i y (rw (theirs x e) a) own)
      by _ (taken_in x e f k i y a) = absurd (not_around free t i y a spare)
      by _ (no_room x e f k m) = refl

  pub only_41 : answer ≡ refused41 → IsData × Fails (full n) × Lacks (its_own cid read) t × Lacks free t
  only_41 = by_case (λ r. r.followed.answer ≡ refused41 → IsData × Fails (full n) × Lacks (its_own cid read) t × Lacks free t) by
    where
      by : (r : After) → Case t n cid read r → r.followed.answer ≡ refused41 → IsData × Fails (full n) × Lacks (its_own cid read) t × Lacks free t
      by _ (unread q e) g = absurd (omega (arith, ap code_of g))
      by _ (other e) g = absurd (omega (arith, ap code_of g))
      by _ (at_largest x e k) g = absurd (omega (arith, ap code_of g))
      by _ (discarded x e f i y a k) g = absurd (omega (arith, ap code_of g))
      by _ (accepted x e f i y a k) g = absurd (omega (arith, ap code_of g))
      by _ (taken_in x e f k i y a) g = absurd (omega (arith, ap code_of g))
      by _ (no_room x e f k m) g = (ap is_data_packet e, f, rw (theirs x e) k, m)

  -- The follower has no other refusal.
  pub only_these : (r : Refusal) → answer ≡ Refused r → (r ≡ refusal 40 nowhere 0) ⊎ (r ≡ refusal 41 nowhere 0)
  only_these q = by_case (λ r. r.followed.answer ≡ Refused q → (q ≡ refusal 40 nowhere 0) ⊎ (q ≡ refusal 41 nowhere 0)) by
    where
      by : (r : After) → Case t n cid read r → r.followed.answer ≡ Refused q → (q ≡ refusal 40 nowhere 0) ⊎ (q ≡ refusal 41 nowhere 0)
      by _ (unread z e) g = absurd (omega (arith, ap code_of g))
      by _ (other e) g = absurd (omega (arith, ap code_of g))
      by _ (at_largest x e k) g = inl (ap refusal_of (sym g))
      by _ (discarded x e f i y a k) g = absurd (omega (arith, ap code_of g))
      by _ (accepted x e f i y a k) g = absurd (omega (arith, ap code_of g))
      by _ (taken_in x e f k i y a) g = absurd (omega (arith, ap code_of g))
      by _ (no_room x e f k m) g = inr (ap refusal_of (sym g))

  -- What is no data packet moves nothing, and a discarded packet leaves the table.
  pub others_stay : is_data_packet read ≡ false → ((follow_of t n d).table ≡ t) × ((follow_of t n d).followed.totals ≡ n)
  others_stay none = by_case (λ r. (r.table ≡ t) × (r.followed.totals ≡ n)) by
    where
      by : (r : After) → Case t n cid read r → (r.table ≡ t) × (r.followed.totals ≡ n)
      by _ (unread q e) = (refl, refl)
      by _ (other e) = (refl, refl)
      by _ (at_largest x e k) = not_this x e none
      by _ (discarded x e f i y a k) = not_this x e none
      by _ (accepted x e f i y a k) = not_this x e none
      by _ (taken_in x e f k i y a) = not_this x e none
      by _ (no_room x e f k m) = not_this x e none

  pub discarded_stays : answer ≡ Discarded → (follow_of t n d).table ≡ t
  discarded_stays = by_case (λ r. r.followed.answer ≡ Discarded → r.table ≡ t) by
    where
      by : (r : After) → Case t n cid read r → r.followed.answer ≡ Discarded → r.table ≡ t
      by _ (unread q e) g = refl
      by _ (other e) g = refl
      by _ (at_largest x e k) g = refl
      by _ (discarded x e f i y a k) g = refl
      by _ (accepted x e f i y a k) g = absurd (omega (arith, ap code_of g))
      by _ (taken_in x e f k i y a) g = absurd (omega (arith, ap code_of g))
      by _ (no_room x e f k m) g = refl

  -- An accepted packet is stored in its source's first entry, or else in the first free one; with the terminated bit it leaves that one free and zeroed.
  pub stored : (x : DataRecord DataFields) → read ≡ packet.Data x → answer ≡ Accepted → (i : ℕ) × StoredAt (ours cid x.fields.universe) t i × ((follow_of t n d).table ≡ set t i (kept_of cid (sent_in x.fields)))
  stored w is = by_case (λ r. r.followed.answer ≡ Accepted → (i : ℕ) × StoredAt (ours cid w.fields.universe) t i × (r.table ≡ set t i (kept_of cid (sent_in w.fields)))) by
    where
      by : (r : After) → Case t n cid read r → r.followed.answer ≡ Accepted → (i : ℕ) × StoredAt (ours cid w.fields.universe) t i × (r.table ≡ set t i (kept_of cid (sent_in w.fields)))
      by _ (unread q e) g = absurd (omega (arith, ap code_of g))
      by _ (other e) g = absurd (omega (arith, ap code_of g))
      by _ (at_largest x e k) g = absurd (omega (arith, ap code_of g))
      by _ (discarded x e f i y a k) g = absurd (omega (arith, ap code_of g))
      by _ (accepted x e f i y a k) g = let same : x ≡ w = data_in_lem x w (sym e ∙ is) in (i, (y, inl (rw (← same) a)), rw same)
      by _ (taken_in x e f k i y a) g = let same : x ≡ w = data_in_lem x w (sym e ∙ is) in (i, (y, inr (rw (← same) (k, a))), rw same)
      by _ (no_room x e f k m) g = absurd (omega (arith, ap code_of g))

-- an accepted packet with the terminated bit leaves its entry free and zeroed
pub freed : (t : List Entry) (n : Totals) (d : List ℕ) (x : DataRecord DataFields) → (reading_of d).packet ≡ packet.Data x → x.fields.stream_terminated ≡ true →
    (follow_of t n d).followed.answer ≡ Accepted → (i : ℕ) × StoredAt (ours (reading_of d).cid x.fields.universe) t i × ((follow_of t n d).table ≡ set t i free_entry)
freed t n d x is ends g =
    let (i, at, table) = stored t n d x is g in
    let sent : Entry = record { cid = (reading_of d).cid; universe = x.fields.universe; last = x.fields.sequence_number; used = true } in
    (i, at, table ∙ ap (λ (o : Bool). set t i (pick o free_entry sent)) ends)

-- and that room is used: in the table that it leaves no datagram is refused 41
pub freed_used : (t : List Entry) (n : Totals) (d : List ℕ) (x : DataRecord DataFields) → (reading_of d).packet ≡ packet.Data x → x.fields.stream_terminated ≡ true →
    (follow_of t n d).followed.answer ≡ Accepted → (m : Totals) (next : List ℕ) → (follow_of (follow_of t n d).table m next).followed.answer ≡ refused41 → ⊥
freed_used t n d x is ends g m next e =
    let (i, at, table) = freed t n d x is ends g in
    let lacks : Lacks free (set t i free_entry) = subst (Lacks free) table (only_41 (follow_of t n d).table m next e).3 in
    present free (take i t) (drop (suc i) t) free_entry refl (subst (Lacks free) (set_split t i free_entry (stored_within _ t i at)) lacks)
