-- Answers as structs: an enum's case as a number, its record beside it, and zeros in the records of the other cases.
use Rattle.std.specs.Prelude.{ℕ, false, List, replicate, Result, Ok, Err}
use Rattle.refusal.specs.Check.{refusal, nowhere, Checked}
use Rattle.refusal.specs.declared.Refusal.{Refusal}
use Rattle.universe.specs.declared.Ipv4Address.{Ipv4Address}
use Rattle.discovery.specs.declared.DiscoveryFields.{DiscoveryFields}
use Rattle.framing.specs.declared.DataFields.{DataFields}
use Rattle.extended.specs.declared.synchronization.SynchronizationFields.{SynchronizationFields}
use Rattle.packet.specs.declared.Span.{Span}
use Rattle.packet.specs.declared.DataRecord.{DataRecord}
use Rattle.packet.specs.declared.SynchronizationRecord.{SynchronizationRecord}
use Rattle.packet.specs.declared.DiscoveryRecord.{DiscoveryRecord}
use Rattle.packet.specs.declared.Packet.{Packet}
use Rattle.packet.specs.declared.Packet.TheVariants as packet
use Rattle.packet.specs.declared.Reading.{Reading}
use Rattle.edition2009.specs.declared.DataFields2009.{DataFields2009}
use Rattle.edition2009.specs.declared.Packet2009.{Packet2009}
use Rattle.edition2009.specs.declared.Packet2009.TheVariants as packet2009
use Rattle.c_answers.specs.declared.Found.{Found}
use Rattle.c_answers.specs.declared.Found2009.{Found2009}
use Rattle.c_answers.specs.declared.Outcome.{Outcome}
use Rattle.c_answers.specs.declared.Address.{Address}

-- zeros
abbrev pub no_refusal : Refusal
no_refusal = refusal 0 nowhere 0

abbrev pub no_span : Span
no_span = record { start = 0; len = 0 }

abbrev pub no_cid : List ℕ
no_cid = replicate 16 0

abbrev pub no_data : DataFields
no_data = record {
  priority = 0;
  synchronization_address = 0;
  sequence_number = 0;
  preview_data = false;
  stream_terminated = false;
  force_synchronization = false;
  universe = 0;
}

abbrev pub no_synchronization : SynchronizationFields
no_synchronization = record { sequence_number = 0; synchronization_address = 0 }

abbrev pub no_discovery : DiscoveryFields
no_discovery = record { page = 0; last_page = 0 }

-- a reading, by its kind
abbrev pub refused_found : Refusal → Found
refused_found r = record {
  kind = 0;
  cid = no_cid;
  refusal = r;
  data_fields = no_data;
  synchronization_fields = no_synchronization;
  discovery_fields = no_discovery;
  name = no_span;
  values = no_span;
  universes = no_span;
}

abbrev pub data_found : List ℕ → DataRecord DataFields → Found
data_found c x = record {
  kind = 1;
  cid = c;
  refusal = no_refusal;
  data_fields = x.fields;
  synchronization_fields = no_synchronization;
  discovery_fields = no_discovery;
  name = x.name;
  values = x.values;
  universes = no_span;
}

abbrev pub synchronization_found : List ℕ → SynchronizationRecord → Found
synchronization_found c x = record {
  kind = 2;
  cid = c;
  refusal = no_refusal;
  data_fields = no_data;
  synchronization_fields = x.fields;
  discovery_fields = no_discovery;
  name = no_span;
  values = no_span;
  universes = no_span;
}

abbrev pub discovery_found : List ℕ → DiscoveryRecord → Found
discovery_found c x = record {
  kind = 3;
  cid = c;
  refusal = no_refusal;
  data_fields = no_data;
  synchronization_fields = no_synchronization;
  discovery_fields = x.fields;
  name = x.name;
  values = no_span;
  universes = x.universes;
}

abbrev pub found_in : List ℕ → Packet → Found
found_in c (packet.Data x) = data_found c x
found_in c (packet.Synchronization x) = synchronization_found c x
found_in c (packet.Discovery x) = discovery_found c x
found_in c (packet.Refused r) = refused_found r

abbrev pub found_of : Reading Packet → Found
found_of x = found_in x.cid x.packet

-- the same of the 2009 reader
abbrev pub no_data2009 : DataFields2009
no_data2009 = record { priority = 0; sequence_number = 0; preview_data = false; stream_terminated = false; universe = 0 }

abbrev pub refused2009 : Refusal → Found2009
refused2009 r = record { kind = 0; cid = no_cid; refusal = r; data_fields = no_data2009; name = no_span; values = no_span }

abbrev pub data2009 : List ℕ → DataRecord DataFields2009 → Found2009
data2009 c x = record { kind = 1; cid = c; refusal = no_refusal; data_fields = x.fields; name = x.name; values = x.values }

abbrev pub found2009_in : List ℕ → Packet2009 → Found2009
found2009_in c (packet2009.Data x) = data2009 c x
found2009_in c (packet2009.Refused r) = refused2009 r

abbrev pub found2009_of : Reading Packet2009 → Found2009
found2009_of x = found2009_in x.cid x.packet

-- the other answers: a refusal with the number 0 is none
abbrev pub outcome : Refusal → ℕ → Outcome
outcome r n = record { refusal = r; count = n }

-- of a write or a copy
abbrev pub outcome_of : Result ℕ Refusal → Outcome
outcome_of (Ok n) = outcome no_refusal n
outcome_of (Err r) = outcome r 0

abbrev pub refusal_of : Checked → Refusal
refusal_of (Ok t) = no_refusal
refusal_of (Err r) = r

abbrev pub no_address : Ipv4Address
no_address = record { highest = 0; second = 0; third = 0; lowest = 0; port = 0 }

abbrev pub address_of : Result Ipv4Address Refusal → Address
address_of (Ok a) = record { refusal = no_refusal; address = a }
address_of (Err r) = record { refusal = r; address = no_address }
