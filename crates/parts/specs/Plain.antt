-- The kind of a reading, and a record without its spans.
use Rattle.packet.specs.declared.Packet.{Packet}
use Rattle.packet.specs.declared.Packet.TheVariants.{Data, Synchronization, Discovery, Refused}
use Rattle.packet.specs.declared.Reading.{Reading}
use Rattle.parts.specs.declared.plain.Kind.{Kind}
use Rattle.parts.specs.declared.plain.Kind.TheVariants as kind
use Rattle.parts.specs.declared.plain.Fields.{Fields}
use Rattle.parts.specs.declared.plain.Fields.TheVariants as fields
use Rattle.parts.specs.declared.plain.Plain.{Plain}

abbrev pub kind_of : Packet → Kind
kind_of (Data x) = kind.Data
kind_of (Synchronization x) = kind.Synchronization
kind_of (Discovery x) = kind.Discovery
kind_of (Refused r) = kind.Refused

abbrev pub fields_of : Packet → Fields
fields_of (Data x) = fields.Data x.fields
fields_of (Synchronization x) = fields.Synchronization x.fields
fields_of (Discovery x) = fields.Discovery x.fields
fields_of (Refused r) = fields.Refused r

abbrev pub plain_of : Reading Packet → Plain
plain_of x = record { cid = x.cid; fields = fields_of x.packet }
