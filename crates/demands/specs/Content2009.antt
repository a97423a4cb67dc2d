-- What a reading of the 2009 edition means: CID, the plain fields that it knows, name and values.
use Rattle.std.specs.Prelude.{ℕ, List}
use Rattle.refusal.specs.declared.Refusal.{Refusal}
use Rattle.parts.specs.Parts.{shown_at}
use Rattle.refusal.specs.Check.{refusal, root}
use Rattle.edition2009.specs.Packet.{reading2009_of, with_cid2009}
use Rattle.packet.specs.declared.Reading.{Reading}
use Rattle.edition2009.specs.declared.DataFields2009.{DataFields2009}
use Rattle.edition2009.specs.declared.Packet2009.{Packet2009}
use Rattle.edition2009.specs.declared.Packet2009.TheVariants as packet

pub data Content2009 : Type 0 where
  data_content2009 : List ℕ → DataFields2009 → List ℕ → List ℕ → Content2009
  refused_content2009 : Refusal → Content2009

abbrev pub content_with2009 : List ℕ → List ℕ → Packet2009 → Content2009
content_with2009 d cid (packet.Data x) = data_content2009 cid x.fields (shown_at d x.name) (shown_at d x.values)
content_with2009 d cid (packet.Refused r) = refused_content2009 r

-- what the 2009 reader takes a datagram for
abbrev pub meaning2009 : List ℕ → Content2009
meaning2009 d = content_with2009 d (reading2009_of d).cid (reading2009_of d).packet

-- how it refuses a packet that is no data packet: by the root vector
abbrev pub refused_by_vector : List ℕ → Reading Packet2009
refused_by_vector d = with_cid2009 d (packet.Refused (refusal 4 root 8))
