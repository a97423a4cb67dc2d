-- What binds the two editions: what 2009 keeps of a present answer, and the checks that come before the one on the root vector.
use Rattle.std.specs.Prelude.{ℕ, List, ◌++◌}
use Rattle.refusal.specs.Check.{Check, refusal, root}
use Rattle.pdu.specs.Head.{head_checks, length_of}
use Rattle.pdu.specs.declared.VectorLength.TheVariants.{Four}
use Rattle.framing.specs.declared.DataFields.{DataFields}
use Rattle.root.specs.Root.{preamble_checks, root_part, length_checks}
use Rattle.packet.specs.declared.DataRecord.{DataRecord}
use Rattle.packet.specs.declared.Packet.{Packet}
use Rattle.packet.specs.declared.Packet.TheVariants as present
use Rattle.packet.specs.declared.Reading.{Reading}
use Rattle.edition2009.specs.declared.DataFields2009.{DataFields2009}
use Rattle.edition2009.specs.declared.Packet2009.{Packet2009}
use Rattle.edition2009.specs.declared.Packet2009.TheVariants.{Data, Refused}

-- the sync address and the option to force synchronization are dropped
abbrev pub dropped_fields : DataFields → DataFields2009
dropped_fields f = record {
  priority = f.priority;
  sequence_number = f.sequence_number;
  preview_data = f.preview_data;
  stream_terminated = f.stream_terminated;
  universe = f.universe;
}

abbrev pub dropped_record : DataRecord DataFields → DataRecord DataFields2009
dropped_record x = record { fields = dropped_fields x.fields; name = x.name; values = x.values }

-- packets with root vector 8 are refused for it
abbrev pub dropped : Packet → Packet2009
dropped (present.Data x) = Data (dropped_record x)
dropped (present.Synchronization x) = Refused (refusal 4 root 8)
dropped (present.Discovery x) = Refused (refusal 4 root 8)
dropped (present.Refused r) = Refused r

-- the CID is the same
abbrev pub dropped_reading : Reading Packet → Reading Packet2009
dropped_reading r = record { cid = r.cid; packet = dropped r.packet }

-- preamble, the root layer's start, root length
abbrev pub before_vector : List ℕ → List Check
before_vector d = preamble_checks d ++ (head_checks Four root (root_part d) ++ length_checks (root_part d) (length_of (root_part d)))
