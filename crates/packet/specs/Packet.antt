-- What a datagram is read as: all its checks in document 01's order, chosen by its two vectors, and the record where none fails.
use Rattle.std.specs.Prelude.{ℕ, ◌-◌, ◌*◌, List, ◌++◌, length, take, drop, replicate}
use Rattle.refusal.specs.Check.{Check, ◌≤?◌, ◌=?◌, choose, reading}
use Rattle.pdu.specs.Head.{length_of, vector_of}
use Rattle.pdu.specs.declared.VectorLength.TheVariants.{Four}
use Rattle.name.specs.Name.{zero_at}
use Rattle.dmp.specs.Layer.{count_of}
use Rattle.discovery.specs.Layer as discoveryLayer
use Rattle.pdu.specs.declared.Edition.TheVariants.{E2018}
use Rattle.framing.specs.Data as dataLayer
use Rattle.framing.specs.Data.{dmp_part, data_checks}
use Rattle.name.specs.Name.{name_field}
use Rattle.extended.specs.Synchronization as syncLayer
use Rattle.extended.specs.UniverseDiscovery.{discovery_part}
use Rattle.extended.specs.Extended.{extended_checks}
use Rattle.root.specs.Root.{preamble_checks, root_checks, root_part}
use Rattle.packet.specs.declared.Span.{Span}
use Rattle.packet.specs.declared.DataRecord.{DataRecord}
use Rattle.framing.specs.declared.DataFields.{DataFields}
use Rattle.packet.specs.declared.SynchronizationRecord.{SynchronizationRecord}
use Rattle.packet.specs.declared.DiscoveryRecord.{DiscoveryRecord}
use Rattle.packet.specs.declared.Packet.{Packet}
use Rattle.packet.specs.declared.Packet.TheVariants.{Data, Synchronization, Discovery, Refused}
use Rattle.packet.specs.declared.Reading.{Reading}

abbrev pub root_vector : List ℕ → ℕ
root_vector d = vector_of Four (root_part d)

-- the framing layer's part: root byte 22 up to the root length
abbrev pub framing_part : List ℕ → List ℕ
framing_part d = take (length_of (root_part d) - 22) (drop 22 (root_part d))

-- the list of all checks: preamble, root, and the framing layers that the root vector names
abbrev pub framing_checks : List ℕ → List Check
framing_checks d = choose (root_vector d =? 4) (data_checks E2018 (framing_part d)) (extended_checks (length (root_part d)) (framing_part d))

abbrev pub packet_checks : List ℕ → List Check
packet_checks d = (preamble_checks d ++ root_checks E2018 (root_part d)) ++ framing_checks d

-- the records
abbrev pub span : ℕ → ℕ → Span
span start len = record { start = start; len = len }

abbrev pub data_record : List ℕ → DataRecord DataFields
data_record p = record {
  fields = dataLayer.fields_of p;
  name = span 44 (zero_at (name_field p));
  values = span 125 (count_of (dmp_part p (length_of p)));
}

abbrev pub synchronization_record : List ℕ → SynchronizationRecord
synchronization_record p = record { fields = syncLayer.fields_of p }

abbrev pub discovery_record : List ℕ → DiscoveryRecord
discovery_record p =
    let q = discovery_part p (length_of p) in
    record {
      fields = discoveryLayer.fields_of q;
      name = span 44 (zero_at (name_field p));
      universes = span 120 (2 * discoveryLayer.count_in (length_of q));
    }

abbrev pub extended_record : List ℕ → Packet
extended_record p = choose (vector_of Four p =? 1) (Synchronization (synchronization_record p)) (Discovery (discovery_record p))

abbrev pub record_of : List ℕ → Packet
record_of d = choose (root_vector d =? 4) (Data (data_record (framing_part d))) (extended_record (framing_part d))

unfoldable pub packet_of : List ℕ → Packet
packet_of d = reading Refused (packet_checks d) (record_of d)

-- the answer from the framing layer on
unfoldable pub data_packet_of : List ℕ → Packet
data_packet_of p = reading Refused (data_checks E2018 p) (Data (data_record p))

unfoldable pub extended_packet_of : ℕ → List ℕ → Packet
extended_packet_of whole p = reading Refused (extended_checks whole p) (extended_record p)

-- the CID of a datagram that has one, and sixteen zeros where it is too short
abbrev pub cid_of : List ℕ → List ℕ
cid_of d = take 16 (drop 22 d)

unfoldable pub cid_in : List ℕ → List ℕ
cid_in d = choose (38 ≤? length d) (cid_of d) (replicate 16 0)

-- the CID beside an answer: sixteen zeros at a refusal
abbrev pub with_cid : List ℕ → Packet → Reading Packet
with_cid d (Refused r) = record { cid = replicate 16 0; packet = Refused r }
with_cid d (Data x) = record { cid = cid_of d; packet = Data x }
with_cid d (Synchronization x) = record { cid = cid_of d; packet = Synchronization x }
with_cid d (Discovery x) = record { cid = cid_of d; packet = Discovery x }

unfoldable pub reading_of : List ℕ → Reading Packet
reading_of d = with_cid d (packet_of d)
