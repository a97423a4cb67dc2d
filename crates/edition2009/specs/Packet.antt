-- What the edition of 2009 reads a datagram as: all its checks in document 01's order, and the record where none fails.
use Rattle.std.specs.Prelude.{ℕ, List, ◌++◌, replicate}
use Rattle.wire.specs.Fields.{byte_at, u16_at}
use Rattle.refusal.specs.Check.{Check, reading}
use Rattle.pdu.specs.Head.{length_of}
use Rattle.name.specs.Name.{zero_at}
use Rattle.dmp.specs.Layer.{count_of}
use Rattle.pdu.specs.declared.Edition.TheVariants.{E2009}
use Rattle.framing.specs.Data.{dmp_part, data_checks, option}
use Rattle.name.specs.Name.{name_field}
use Rattle.root.specs.Root.{preamble_checks, root_checks, root_part}
use Rattle.packet.specs.Packet.{framing_part, span, cid_of}
use Rattle.edition2009.specs.declared.DataFields2009.{DataFields2009}
use Rattle.packet.specs.declared.DataRecord.{DataRecord}
use Rattle.edition2009.specs.declared.Packet2009.{Packet2009}
use Rattle.edition2009.specs.declared.Packet2009.TheVariants.{Data, Refused}
use Rattle.packet.specs.declared.Reading.{Reading}

-- the list of all checks: preamble, root, and the framing layer of a data packet with its DMP layer
abbrev pub packet_checks2009 : List ℕ → List Check
packet_checks2009 d = (preamble_checks d ++ root_checks E2009 (root_part d)) ++ data_checks E2009 (framing_part d)

-- the record: neither the sync address nor the option to force synchronization is looked at
abbrev pub fields2009_of : List ℕ → DataFields2009
fields2009_of p = record {
  priority = byte_at p 70;
  sequence_number = byte_at p 73;
  preview_data = option 0x80 (byte_at p 74);
  stream_terminated = option 0x40 (byte_at p 74);
  universe = u16_at p 75;
}

abbrev pub data_record2009 : List ℕ → DataRecord DataFields2009
data_record2009 p = record {
  fields = fields2009_of p;
  name = span 44 (zero_at (name_field p));
  values = span 125 (count_of (dmp_part p (length_of p)));
}

unfoldable pub packet2009_of : List ℕ → Packet2009
packet2009_of d = reading Refused (packet_checks2009 d) (Data (data_record2009 (framing_part d)))

-- the answer from the framing layer on
unfoldable pub data_packet2009_of : List ℕ → Packet2009
data_packet2009_of p = reading Refused (data_checks E2009 p) (Data (data_record2009 p))

-- the CID is sixteen zeros at a refusal
abbrev pub with_cid2009 : List ℕ → Packet2009 → Reading Packet2009
with_cid2009 d (Refused r) = record { cid = replicate 16 0; packet = Refused r }
with_cid2009 d (Data x) = record { cid = cid_of d; packet = Data x }

unfoldable pub reading2009_of : List ℕ → Reading Packet2009
reading2009_of d = with_cid2009 d (packet2009_of d)
