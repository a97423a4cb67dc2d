-- What a reading means, apart from where it stands: kind, CID, plain fields, and the bytes or numbers at its spans. Two records are the
-- same when these are.
use Rattle.std.specs.Prelude.{ℕ, List}
use Rattle.refusal.specs.declared.Refusal.{Refusal}
use Rattle.discovery.specs.declared.DiscoveryFields.{DiscoveryFields}
use Rattle.framing.specs.declared.DataFields.{DataFields}
use Rattle.extended.specs.declared.synchronization.SynchronizationFields.{SynchronizationFields}
use Rattle.packet.specs.declared.Packet.{Packet}
use Rattle.packet.specs.declared.Packet.TheVariants as packet
use Rattle.packet.specs.declared.Reading.{Reading}
use Rattle.packet.specs.Packet.{reading_of}
use Rattle.parts.specs.Parts.{shown_at, listed_at}

pub data Content : Type 0 where
  data_content : List ℕ → DataFields → List ℕ → List ℕ → Content
  synchronization_content : List ℕ → SynchronizationFields → Content
  discovery_content : List ℕ → DiscoveryFields → List ℕ → List ℕ → Content
  refused_content : Refusal → Content

-- of what was read from d, with its CID: name and values, or name and universes, are those that d has at the record's spans
abbrev pub content_with : List ℕ → List ℕ → Packet → Content
content_with d cid (packet.Data x) = data_content cid x.fields (shown_at d x.name) (shown_at d x.values)
content_with d cid (packet.Synchronization x) = synchronization_content cid x.fields
content_with d cid (packet.Discovery x) = discovery_content cid x.fields (shown_at d x.name) (listed_at d x.universes)
content_with d cid (packet.Refused r) = refused_content r

abbrev pub content_of : List ℕ → Reading Packet → Content
content_of d r = content_with d r.cid r.packet

-- what the present reader takes a datagram for
abbrev pub meaning : List ℕ → Content
meaning d = content_of d (reading_of d)
