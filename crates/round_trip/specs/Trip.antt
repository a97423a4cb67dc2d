-- What a write answers and leaves in the buffer, and what follows it: the buffer is read, or its universes are copied out; a refused write is
-- answered as it stands.
use Rattle.std.specs.Prelude.{ℕ, List, [], length, Result, Ok, Err}
use Rattle.refusal.specs.declared.Refusal.{Refusal}
use Rattle.discovery.specs.declared.DiscoveryFields.{DiscoveryFields}
use Rattle.framing.specs.declared.DataFields.{DataFields}
use Rattle.extended.specs.declared.synchronization.SynchronizationFields.{SynchronizationFields}
use Rattle.packet.specs.Packet.{packet_of, reading_of, with_cid}
use Rattle.packet.specs.declared.Packet.TheVariants as packet
use Rattle.packet.specs.declared.Reading.{Reading}
use Rattle.packet.specs.declared.Packet.{Packet}
use Rattle.parts.specs.Parts.{copied_of, universes_in, after_copy}
use Rattle.edition2009.specs.Packet.{reading2009_of, with_cid2009}
use Rattle.edition2009.specs.declared.Packet2009.TheVariants as packet2009
use Rattle.edition2009.specs.declared.Packet2009.{Packet2009}
use Rattle.pack.specs.Writing.{data_bytes, data_length, data_write_checks, synchronization_bytes, synchronization_length, synchronization_write_checks, discovery_bytes, discovery_length, discovery_write_checks, Packed, packed_of, after_pack}

-- a write's answer, by the buffer as it was
abbrev pub data_packed : List ℕ → List ℕ → List ℕ → Packed
data_packed buf name values = packed_of (data_write_checks (length buf) name values) (data_length values)

abbrev pub synchronization_packed : List ℕ → Packed
synchronization_packed buf = packed_of (synchronization_write_checks (length buf)) synchronization_length

abbrev pub discovery_packed : List ℕ → List ℕ → List ℕ → Packed
discovery_packed buf name us = packed_of (discovery_write_checks (length buf) name us) (discovery_length us)

-- the buffer afterwards
abbrev pub data_left : List ℕ → List ℕ → DataFields → List ℕ → List ℕ → List ℕ
data_left buf cid f name values = after_pack (data_packed buf name values) (data_bytes cid f name values) buf

abbrev pub synchronization_left : List ℕ → List ℕ → SynchronizationFields → List ℕ
synchronization_left buf cid f = after_pack (synchronization_packed buf) (synchronization_bytes cid f) buf

abbrev pub discovery_left : List ℕ → List ℕ → DiscoveryFields → List ℕ → List ℕ → List ℕ
discovery_left buf cid f name us = after_pack (discovery_packed buf name us) (discovery_bytes cid f name us) buf

-- what follows the write, in the buffer that it left
abbrev pub read_after : Packed → List ℕ → Reading Packet
read_after (Ok n) buf = reading_of buf
read_after (Err r) buf = with_cid [] (packet.Refused r)

abbrev pub read_after2009 : Packed → List ℕ → Reading Packet2009
read_after2009 (Ok n) buf = reading2009_of buf
read_after2009 (Err r) buf = with_cid2009 [] (packet2009.Refused r)

abbrev pub copied_after : Packed → List ℕ → ℕ → Result ℕ Refusal
copied_after (Ok n) buf room = copied_of (packet_of buf) room
copied_after (Err r) buf room = Err r

-- the lent numbers afterwards
abbrev pub out_after : Result ℕ Refusal → List ℕ → List ℕ → List ℕ
out_after c buf out = after_copy c (universes_in buf) out
