-- What a datagram does, case by case: the rules with what the table has. Assumes nothing.
use Rattle.std.proofs.Common.{ℕ, ◌≡◌, refl, subst, List, Bool, true, false, set}
use Rattle.refusal.specs.Check.{pick, refusal, nowhere}
use Rattle.refusal.specs.declared.Refusal.{Refusal}
use Rattle.refusal.proofs.Tests.{Holds, Fails, decide, chosen, passed_over}
use Rattle.packet.specs.Packet.{reading_of}
use Rattle.packet.specs.declared.DataRecord.{DataRecord}
use Rattle.framing.specs.declared.DataFields.{DataFields}
use Rattle.packet.specs.declared.Packet.{Packet}
use Rattle.packet.specs.declared.Packet.TheVariants as packet
use Rattle.sequence.specs.Sequence.{late_of}
use Rattle.follow_rules.specs.declared.Entry.{Entry}
use Rattle.follow_rules.specs.declared.Totals.{Totals}
use Rattle.follow_rules.specs.declared.Answer.{Answer}
use Rattle.follow_rules.specs.declared.Answer.TheVariants.{Accepted, Discarded, Refused, NotData, Unreadable}
use Rattle.follow_rules.specs.declared.Decision.{Decision}
use Rattle.follow_rules.specs.Totals.{full, accept_of, discard_of, refuse_of}
use Rattle.follow_rules.specs.Table.{free, ours, First, none, first_at, first, found, spot_of}
use Rattle.follow_rules.specs.Rules.{kept_of, stay_of, accepted_at, counted_of, decision_of}
use Rattle.follower.specs.Follow.{sent_in, kind_in, heard_of, carried_out, After, after, follow_heard, follow_of}
use Rattle.follower.specs.Captures.{is_other_packet}
use Rattle.follower.proofs.Firsts.{Lacks, Around, split, lacking}

abbrev pub given : List Entry → Answer → Totals → After
given t a n = after t (record { answer = a; totals = n })

-- of what a datagram is read as, the CID and the packet
module _ (t : List Entry) (n : Totals) (cid : List ℕ) (p : Packet) where
  abbrev own : DataRecord DataFields → Entry → Bool
  own x = ours cid x.fields.universe

  abbrev late : DataRecord DataFields → Entry → Bool
  late x e = late_of x.fields.sequence_number e.last

  -- The cases: a refusal of reading, another packet; and of a data packet 40; late; accepted by the source's first entry; accepted into the first
  -- free one; 41.
  pub data Case : After → Type 0 where
    unread : (r : Refusal) → p ≡ packet.Refused r → Case (given t (Unreadable r) n)
    other : is_other_packet p ≡ true → Case (given t NotData n)
    at_largest : (x : DataRecord DataFields) → p ≡ packet.Data x → Holds (full n) → Case (given t (Refused (refusal 40 nowhere 0)) n)
    discarded : (x : DataRecord DataFields) → p ≡ packet.Data x → Fails (full n) → (i : ℕ) (e : Entry) → Around (own x) t i e → late x e ≡ true →
        Case (given t Discarded (discard_of n))
    accepted : (x : DataRecord DataFields) → p ≡ packet.Data x → Fails (full n) → (i : ℕ) (e : Entry) → Around (own x) t i e → late x e ≡ false →
        Case (given (set t i (kept_of cid (sent_in x.fields))) Accepted (accept_of n))
    taken_in : (x : DataRecord DataFields) → p ≡ packet.Data x → Fails (full n) → Lacks (own x) t → (i : ℕ) (e : Entry) → Around free t i e →
        Case (given (set t i (kept_of cid (sent_in x.fields))) Accepted (accept_of n))
    no_room : (x : DataRecord DataFields) → p ≡ packet.Data x → Fails (full n) → Lacks (own x) t → Lacks free t →
        Case (given t (Refused (refusal 41 nowhere 0)) (refuse_of n))

  abbrev did : Decision → After
  did d = after (carried_out t d) d.followed

  counted_case : (x : DataRecord DataFields) → p ≡ packet.Data x → Fails (full n) → (first-own spare : First) → first (own x) t ≡ first-own → first free t ≡ spare →
      Case (did (counted_of n cid (sent_in x.fields) (found first-own spare)))
  counted_case x k f (first_at i e) spare is has = by (late x e) refl
    where
      by : (o : Bool) → late x e ≡ o → Case (did (pick o (stay_of (discard_of n) Discarded) (accepted_at i n cid (sent_in x.fields))))
      by true l = discarded x k f i e (split (own x) t i e is) l
      by false l = accepted x k f i e (split (own x) t i e is) l
  counted_case x k f none (first_at i e) is has = taken_in x k f (lacking (own x) t is) i e (split free t i e has)
  counted_case x k f none none is has = no_room x k f (lacking (own x) t is) (lacking free t has)

  by_packet : (q : Packet) → p ≡ q → Case (did (decision_of n cid (kind_in q) (spot_of t cid (kind_in q))))
  unfolding spot_of
  by_packet (packet.Refused r) e = unread r e
  by_packet (packet.Synchronization x) e = other (rw e)
  by_packet (packet.Discovery x) e = other (rw e)
  by_packet (packet.Data x) e =
      let counted = counted_of n cid (sent_in x.fields) (found (first (own x) t) (first free t)) in
      let at40 = stay_of n (Refused (refusal 40 nowhere 0)) in
      decide (full n)
      (λ l. subst (λ (d : Decision). Case (did d)) (chosen (full n) at40 counted l refl) (at_largest x e l))
      (λ f. subst (λ (d : Decision). Case (did d)) (passed_over (full n) at40 counted f refl) (counted_case x e f (first (own x) t) (first free t) refl refl))

-- every datagram is one of them
pub each_case : (t : List Entry) (n : Totals) (d : List ℕ) → Case t n (reading_of d).cid (reading_of d).packet (follow_of t n d)
unfolding follow_of follow_heard heard_of
each_case t n d = by_packet t n (reading_of d).cid (reading_of d).packet (reading_of d).packet refl
