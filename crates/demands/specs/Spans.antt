-- Where a reading's parts lie in the datagram it was read from, and what stands there.
use Rattle.std.specs.Prelude.{ℕ, ◌+◌, ◌*◌, ◌≤◌, ◌<◌, ◌≡◌, List, length, take, drop}
use Rattle.wire.specs.Fields.{byte_at}
use Rattle.refusal.proofs.Tests.{Holds}
use Rattle.refusal.proofs.Laws.{All}
use Rattle.name.specs.Name.{text_of}
use Rattle.name.specs.Utf8.{well_formed}
use Rattle.pdu.specs.Head.{length_of}
use Rattle.discovery.specs.Layer.{list_part, count_in}
use Rattle.discovery.specs.Universes.{universes, pairs, ascends}
use Rattle.extended.specs.UniverseDiscovery.{discovery_part}
use Rattle.root.specs.Root.{root_part}
use Rattle.packet.specs.Packet.{framing_part}
use Rattle.packet.specs.declared.Span.{Span}
use Rattle.packet.specs.declared.Packet.{Packet}
use Rattle.packet.specs.declared.Packet.TheVariants.{Data, Synchronization, Discovery, Refused}
use Rattle.parts.specs.Parts.{shown_at, listed_at}
use Rattle.edition2009.specs.declared.Packet2009.{Packet2009}
use Rattle.edition2009.specs.declared.Packet2009.TheVariants as old

-- where the packet ends: sixteen bytes and the root length
abbrev pub packet_end : List ℕ → ℕ
packet_end d = 16 + length_of (root_part d)

-- the bytes of 44..107 that stand before the first zero: the name of a datagram that has one, readable or not
abbrev pub name_text : List ℕ → List ℕ
name_text d = text_of (take 64 (drop 44 d))

-- A name stands in 44..107, and so does the zero behind it, which lies in the packet and in the datagram. What is shown is as long as the span
-- says, well-formed UTF-8, and has no zero.
pub record NameIn (d : List ℕ) (p : Span) : Type 0 where
  pub first : p.start ≡ 44
  pub last : p.start + p.len ≤ 107
  pub in_packet : p.start + p.len < packet_end d
  pub in_datagram : p.start + p.len < length d
  pub zero_behind : byte_at d (p.start + p.len) ≡ 0
  pub shown : length (shown_at d p) ≡ p.len
  pub formed : Holds (well_formed (shown_at d p))
  pub zero_free : (i : ℕ) → i < p.len → byte_at (shown_at d p) i ≡ 0 → ⊥

-- A part starts at a byte, and ends in the packet and in the datagram. What is shown is as long as the span says.
pub record PartIn (start : ℕ) (d : List ℕ) (p : Span) : Type 0 where
  pub first : p.start ≡ start
  pub in_packet : p.start + p.len ≤ packet_end d
  pub in_datagram : p.start + p.len ≤ length d
  pub shown : length (shown_at d p) ≡ p.len

-- the numbers that check 12 judges
abbrev pub judged : List ℕ → List ℕ
judged d =
    let q = discovery_part (framing_part d) (length_of (framing_part d)) in
    universes (count_in (length_of q)) (list_part q)

-- The numbers at a span: as many as it tells, at two bytes each; those that were judged; each above the one before.
pub record ListIn (d : List ℕ) (p : Span) : Type 0 where
  pub as_told : 2 * length (listed_at d p) ≡ p.len
  pub as_judged : listed_at d p ≡ judged d
  pub ascending : All (pairs ascends (listed_at d p))

-- the spans of a data packet, the same in both editions; and of each kind
abbrev pub DataIn : List ℕ → Span → Span → Type 0
DataIn d name values = NameIn d name × PartIn 125 d values × (1 ≤ values.len) × (values.len ≤ 513)

abbrev pub SpansIn : List ℕ → Packet → Type 0
SpansIn d (Data x) = DataIn d x.name x.values
SpansIn d (Synchronization x) = packet_end d ≤ length d
SpansIn d (Discovery x) = NameIn d x.name × PartIn 120 d x.universes × (x.universes.len ≤ 1024) × ListIn d x.universes
SpansIn d (Refused r) = Unit {0}

abbrev pub SpansIn2009 : List ℕ → Packet2009 → Type 0
SpansIn2009 d (old.Data x) = DataIn d x.name x.values
SpansIn2009 d (old.Refused r) = Unit {0}
