-- The parts of a datagram that a reading shows: none for a refusal.
use Rattle.packet.specs.declared.Span.{Span}
use Rattle.parts.specs.Parts.{no_span}
use Rattle.edition2009.specs.declared.Packet2009.{Packet2009}
use Rattle.edition2009.specs.declared.Packet2009.TheVariants.{Data, Refused}

abbrev pub name_span : Packet2009 → Span
name_span (Data x) = x.name
name_span (Refused r) = no_span

abbrev pub values_span : Packet2009 → Span
values_span (Data x) = x.values
values_span (Refused r) = no_span
