-- How large the numbers of a reading are: those of one byte and of two, and of spans no more than their layer has room to say.
use Rattle.std.specs.Prelude.{ℕ, ◌≤◌, ◌<◌}
use Rattle.framing.specs.declared.DataFields.{DataFields}
use Rattle.extended.specs.declared.synchronization.SynchronizationFields.{SynchronizationFields}
use Rattle.discovery.specs.declared.DiscoveryFields.{DiscoveryFields}
use Rattle.refusal.specs.declared.Refusal.{Refusal}
use Rattle.packet.specs.declared.Packet.{Packet}
use Rattle.packet.specs.declared.Packet.TheVariants.{Data, Synchronization, Discovery, Refused}

-- one byte; two bytes
abbrev pub Byte : ℕ → Type 0
Byte n = n < 0x100

abbrev pub Word : ℕ → Type 0
Word n = n < 0x10000

abbrev pub SizedData : DataFields → Type 0
SizedData f = Byte f.priority × Word f.synchronization_address × Byte f.sequence_number × Word f.universe

abbrev pub SizedSynchronization : SynchronizationFields → Type 0
SizedSynchronization f = Byte f.sequence_number × Word f.synchronization_address

abbrev pub SizedDiscovery : DiscoveryFields → Type 0
SizedDiscovery f = Byte f.page × Byte f.last_page

-- a value may be a vector, which has four bytes
abbrev pub SizedRefusal : Refusal → Type 0
SizedRefusal r = Byte r.number × Byte r.place × (r.value < 0x1_0000_0000)

-- a name's field has 64 bytes, the count of values two, a layer's length twelve bits
abbrev pub Sized : Packet → Type 0
Sized (Data x) = SizedData x.fields × (x.name.len ≤ 64) × Word x.values.len
Sized (Synchronization x) = SizedSynchronization x.fields
Sized (Discovery x) = SizedDiscovery x.fields × (x.name.len ≤ 64) × (x.universes.len < 0x1000)
Sized (Refused r) = SizedRefusal r
