-- How long a line can be: a program that keeps so much room puts every line whole. Assumes nothing.
use Rattle.std.proofs.Common.{ℕ, ◌+◌, ◌*◌, ◌/◌, ◌≤◌, ◌<◌, sym, subst, List, [], arith, length, take, drop, length-append, length-take, length-drop}
use Rattle.refusal.specs.Check.{◌≤?◌}
use Rattle.refusal.specs.declared.Refusal.{Refusal}
use Rattle.refusal.proofs.Tests.{choice}
use Rattle.wire.specs.Fields.{part_of}
use Rattle.wire.specs.Bytes.{Bytes}
use Rattle.framing.specs.declared.DataFields.{DataFields}
use Rattle.extended.specs.declared.synchronization.SynchronizationFields.{SynchronizationFields}
use Rattle.discovery.specs.declared.DiscoveryFields.{DiscoveryFields}
use Rattle.packet.specs.Packet.{reading_of}
use Rattle.packet.specs.Sizes.{SizedData, SizedSynchronization, SizedDiscovery, SizedRefusal, Sized}
use Rattle.packet.specs.declared.Packet.{Packet}
use Rattle.packet.specs.declared.Packet.TheVariants.{Data, Synchronization, Discovery, Refused}
use Rattle.packet.specs.declared.Reading.{Reading}
use Rattle.packet.proofs.Whole.{read}
use Rattle.packet.proofs.Sizes.{sized}
use Rattle.parts.specs.Parts.{shown_at, name_span}
use Rattle.text.proofs.Decimals.{digits}
use Rattle.text.proofs.Hex.{hex_length}
use Rattle.field_text.specs.Texts.{data_fields_text, synchronization_text, page_text, refusal_text}
use Rattle.line.specs.Lines.{data_line, synchronization_line, discovery_line, refused_line, packet_line, line_of, last_line}
use Rattle.capture.specs.declared.Ending.{Ending}
use Rattle.capture.specs.declared.Ending.TheVariants.{End, Cut, Bad}

data_fields : (f : DataFields) → SizedData f → length (data_fields_text f) ≤ 113
unfolding data_fields_text
data_fields f h =
    simp length-append
    (omega (
      arith,
      digits f.priority (omega arith),
      digits f.synchronization_address (omega arith),
      digits f.sequence_number (omega arith),
      digits f.universe (omega arith),
    ))

synchronization_fields : (f : SynchronizationFields) → SizedSynchronization f → length (synchronization_text f) ≤ 51
unfolding synchronization_text
synchronization_fields f h =
    simp length-append (omega (arith, digits f.sequence_number (omega arith), digits f.synchronization_address (omega arith)))

page_fields_lem : (f : DiscoveryFields) → SizedDiscovery f → length (page_text f) ≤ 52
unfolding page_text
page_fields_lem f h = simp length-append (omega (arith, digits f.page (omega arith), digits f.last_page (omega arith)))

refusal_fields : (r : Refusal) → SizedRefusal r → length (refusal_text r) ≤ 83
unfolding refusal_text
refusal_fields r h =
    simp length-append
    (omega (arith, digits r.number (omega arith), digits r.place (omega arith), digits r.value (omega arith)))

packet_fits : (n : ℕ) (name : List ℕ) (p : Packet) → n < 0x1_0000_0000_0000_0000 → Sized p → length (packet_line n name p) ≤ 2 * length name + 174
unfolding data_line synchronization_line discovery_line refused_line
packet_fits n name (Data x) h k =
    simp length-append
    (omega (arith, digits n h, hex_length name, data_fields x.fields k.0, digits x.values.len (omega arith)))
packet_fits n name (Synchronization x) h k = simp length-append (omega (arith, digits n h, synchronization_fields x.fields k))
packet_fits n name (Discovery x) h k =
    simp length-append
    (omega (arith, digits n h, hex_length name, page_fields_lem x.fields k.0, digits (x.universes.len / 2) (omega arith)))
packet_fits n name (Refused r) h k = simp length-append (omega (arith, digits n h, refusal_fields r k))

pub refused_fits : (n : ℕ) (r : Refusal) → n < 0x1_0000_0000_0000_0000 → SizedRefusal r → length (refused_line n r) ≤ 174
refused_fits n r h k = packet_fits n [] (Refused r) h k

part_fits : (d : List ℕ) (start len : ℕ) → length (part_of d start len) ≤ length d
unfolding part_of
part_fits d start len =
    choice (λ (l : List ℕ). length l ≤ length d) (start + len ≤? length d) (take len (drop start d)) []
    (λ h. omega (arith, length-take len (drop start d), length-drop start d)) (λ h. omega arith)

line_fits : (n : ℕ) (d : List ℕ) (r : Reading Packet) → n < 0x1_0000_0000_0000_0000 → Sized r.packet → length (line_of n d r) ≤ 2 * length d + 174
line_fits n d r h k =
    let p = name_span r.packet in
    omega (arith, packet_fits n (shown_at d p) r.packet h k, part_fits d p.start p.len)

-- The line of entry n, a datagram of bytes and its reading: twice the bytes of the datagram, and 174 more.
pub entry_fits : (n : ℕ) (d : List ℕ) → n < 0x1_0000_0000_0000_0000 → Bytes d → length (line_of n d (reading_of d)) ≤ 2 * length d + 174
entry_fits n d h b = line_fits n d (reading_of d) h (subst Sized (sym (read d)) (sized d b))

-- The last line, whatever it says.
pub last_fits : (e : Ending) (n : ℕ) → n < 0x1_0000_0000_0000_0000 → length (last_line e n) ≤ 25
unfolding last_line
last_fits End n h = simp length-append (omega (arith, digits n h))
last_fits Cut n h = simp length-append (omega (arith, digits n h))
last_fits Bad n h = simp length-append (omega (arith, digits n h))
