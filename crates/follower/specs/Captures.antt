-- A whole capture, datagram by datagram; and what of it concerns one source.
use Rattle.std.specs.Prelude.{ℕ, ◌+◌, List, [], ◌∷◌, Bool, true, false, eqb}
use Rattle.refusal.specs.Check.{pick}
use Rattle.packet.specs.Packet.{reading_of}
use Rattle.packet.specs.declared.Packet.{Packet}
use Rattle.packet.specs.declared.Packet.TheVariants as packet
use Rattle.sequence.specs.Sequence.{late_of}
use Rattle.follow_rules.specs.declared.Entry.{Entry}
use Rattle.follow_rules.specs.declared.Sent.{Sent}
use Rattle.follow_rules.specs.declared.Totals.{Totals}
use Rattle.follow_rules.specs.declared.Answer.{Answer}
use Rattle.follow_rules.specs.declared.Answer.TheVariants.{Accepted, Discarded, Refused, NotData, Unreadable}
use Rattle.follow_rules.specs.Totals.{zero_totals}
use Rattle.follow_rules.specs.Table.{cleared, is_same_source, ours}
use Rattle.follower.specs.Follow.{sent_in, follow_of}

-- what the follower holds between two datagrams
pub record Held : Type 0 where
  pub table : List Entry
  pub totals : Totals

-- a cleared table of n entries, and zero totals
abbrev pub begun : ℕ → Held
begun n = record { table = cleared n; totals = zero_totals }

abbrev pub answer_to : Held → List ℕ → Answer
answer_to h d = (follow_of h.table h.totals d).followed.answer

abbrev pub next_of : Held → List ℕ → Held
next_of h d = record {
  table = (follow_of h.table h.totals d).table;
  totals = (follow_of h.table h.totals d).followed.totals;
}

-- what it holds after a capture, and the answers in turn
unfoldable pub held_after_all : Held → List (List ℕ) → Held
held_after_all h [] = h
held_after_all h (d ∷ ds) = held_after_all (next_of h d) ds

unfoldable pub answers_of : Held → List (List ℕ) → List Answer
answers_of h [] = []
answers_of h (d ∷ ds) = answer_to h d ∷ answers_of (next_of h d) ds

-- what a datagram is read as: a data packet, another packet
abbrev pub is_data_packet : Packet → Bool
is_data_packet (packet.Data x) = true
is_data_packet (packet.Synchronization x) = false
is_data_packet (packet.Discovery x) = false
is_data_packet (packet.Refused r) = false

abbrev pub is_other_packet : Packet → Bool
is_other_packet (packet.Data x) = false
is_other_packet (packet.Synchronization x) = true
is_other_packet (packet.Discovery x) = true
is_other_packet (packet.Refused r) = false

-- how many of a capture are data packets
unfoldable pub data_in : List (List ℕ) → ℕ
data_in [] = 0
data_in (d ∷ ds) = pick (is_data_packet (reading_of d).packet) 1 0 + data_in ds

-- how many answers are of a kind: 1 for each that is
unfoldable pub how_many : (Answer → ℕ) → List Answer → ℕ
how_many one [] = 0
how_many one (a ∷ rest) = one a + how_many one rest

abbrev pub one_accepted : Answer → ℕ
one_accepted Accepted = 1
one_accepted Discarded = 0
one_accepted (Refused r) = 0
one_accepted NotData = 0
one_accepted (Unreadable r) = 0

abbrev pub one_discarded : Answer → ℕ
one_discarded Accepted = 0
one_discarded Discarded = 1
one_discarded (Refused r) = 0
one_discarded NotData = 0
one_discarded (Unreadable r) = 0

-- of the follower's own refusals, by their number
abbrev pub one_refused : ℕ → Answer → ℕ
one_refused n Accepted = 0
one_refused n Discarded = 0
one_refused n (Refused r) = pick (eqb r.number n) 1 0
one_refused n NotData = 0
one_refused n (Unreadable r) = 0

-- Who sends, and where.
pub record Source : Type 0 where
  pub cid : List ℕ
  pub universe : ℕ

abbrev pub is_from : Source → List ℕ → Packet → Bool
is_from s cid (packet.Data x) = is_same_source cid x.fields.universe s.cid s.universe
is_from s cid (packet.Synchronization x) = false
is_from s cid (packet.Discovery x) = false
is_from s cid (packet.Refused r) = false

-- whether a datagram is a data packet of a source
unfoldable pub from : Source → List ℕ → Bool
from s d = is_from s (reading_of d).cid (reading_of d).packet

-- whether an entry is one that a packet's source uses
abbrev pub its_own : List ℕ → Packet → Entry → Bool
its_own cid (packet.Data x) = ours cid x.fields.universe
its_own cid (packet.Synchronization x) = λ e. false
its_own cid (packet.Discovery x) = λ e. false
its_own cid (packet.Refused r) = λ e. false

-- the packets of a source in a capture, and the answers to them
unfoldable pub packets_of : Source → List (List ℕ) → List (List ℕ)
packets_of s [] = []
packets_of s (d ∷ ds) = pick (from s d) (d ∷ packets_of s ds) (packets_of s ds)

unfoldable pub picked : Source → List (List ℕ) → List Answer → List Answer
picked s [] answers = []
picked s (d ∷ ds) [] = []
picked s (d ∷ ds) (a ∷ rest) = pick (from s d) (a ∷ picked s ds rest) (picked s ds rest)

abbrev pub answers_to : Source → Held → List (List ℕ) → List Answer
answers_to s h ds = picked s ds (answers_of h ds)

-- no answer is a refusal of the follower's own, 40 or 41
abbrev pub Unrefused : List Answer → Type 0
Unrefused [] = Unit {0}
Unrefused (Refused r ∷ rest) = ⊥
Unrefused (Accepted ∷ rest) = Unrefused rest
Unrefused (Discarded ∷ rest) = Unrefused rest
Unrefused (NotData ∷ rest) = Unrefused rest
Unrefused (Unreadable r ∷ rest) = Unrefused rest

-- What a table knows of a source is a small machine, driven by that source's packets alone: nothing, or its last number.
pub data Known : Type 0 where
  nothing : Known
  last : ℕ → Known

abbrev pub left_by : Sent → Known
left_by x = pick x.stream_terminated nothing (last x.sequence_number)

abbrev pub known_next : Known → Sent → Known
known_next nothing x = left_by x
known_next (last l) x = pick (late_of x.sequence_number l) (last l) (left_by x)

abbrev pub known_answer : Known → Sent → Answer
known_answer nothing x = Accepted
known_answer (last l) x = pick (late_of x.sequence_number l) Discarded Accepted

-- the answers to a source's packets, by that machine; no other packet is among them
abbrev pub alone_at : (Known → List Answer) → Known → Packet → List Answer
alone_at rest k (packet.Data x) = known_answer k (sent_in x.fields) ∷ rest (known_next k (sent_in x.fields))
alone_at rest k (packet.Synchronization x) = rest k
alone_at rest k (packet.Discovery x) = rest k
alone_at rest k (packet.Refused r) = rest k

unfoldable pub alone_of : List (List ℕ) → Known → List Answer
alone_of [] k = []
alone_of (d ∷ ds) k = alone_at (alone_of ds) k (reading_of d).packet
