-- The parts of a datagram that a reading shows, and its universes copied out.
use Rattle.std.specs.Prelude.{ℕ, ◌/◌, List, [], ◌∷◌, Result, Ok, Err}
use Rattle.std.proofs.lemmas.List.Edits.{sets}
use Rattle.wire.specs.Fields.{part_of}
use Rattle.refusal.specs.declared.Refusal.{Refusal}
use Rattle.refusal.specs.Check.{numbered, refusal, nowhere, ◌≤?◌, reading}
use Rattle.discovery.specs.Universes.{all_universes}
use Rattle.packet.specs.Packet.{span, packet_of}
use Rattle.packet.specs.declared.Span.{Span}
use Rattle.packet.specs.declared.Packet.{Packet}
use Rattle.packet.specs.declared.Packet.TheVariants.{Data, Synchronization, Discovery, Refused}
use Rattle.parts.specs.declared.Spans.{Spans}

-- a part is empty where its span runs past the datagram
abbrev pub shown_at : List ℕ → Span → List ℕ
shown_at d p = part_of d p.start p.len

-- and for a refusal, or a kind without that field
abbrev pub no_span : Span
no_span = span 0 0

abbrev pub name_span : Packet → Span
name_span (Data x) = x.name
name_span (Synchronization x) = no_span
name_span (Discovery x) = x.name
name_span (Refused r) = no_span

abbrev pub values_span : Packet → Span
values_span (Data x) = x.values
values_span (Synchronization x) = no_span
values_span (Discovery x) = no_span
values_span (Refused r) = no_span

abbrev pub spans_of : Packet → Spans
spans_of x = record { name = name_span x; values = values_span x }

abbrev pub universes_span : Packet → Span
universes_span (Data x) = no_span
universes_span (Synchronization x) = no_span
universes_span (Discovery x) = x.universes
universes_span (Refused r) = no_span

-- the universes at a span, and those that a datagram lists
abbrev pub listed_at : List ℕ → Span → List ℕ
listed_at d p = all_universes (shown_at d p)

abbrev pub universes_in : List ℕ → List ℕ
universes_in d = listed_at d (universes_span (packet_of d))

-- 31: no readable discovery packet, or no room for its universes
abbrev pub copied_of : Packet → ℕ → Result ℕ Refusal
copied_of (Data x) room = Err (refusal 31 nowhere 0)
copied_of (Synchronization x) room = Err (refusal 31 nowhere 0)
copied_of (Discovery x) room =
    reading Err (numbered (x.universes.len / 2 ≤? room) (refusal 31 nowhere 0) ∷ []) (Ok (x.universes.len / 2))
copied_of (Refused r) room = Err (refusal 31 nowhere 0)

-- the lent numbers afterwards: the universes in front and the rest as found, or all as found
abbrev pub after_copy : Result ℕ Refusal → List ℕ → List ℕ → List ℕ
after_copy (Ok n) us out = sets out 0 us
after_copy (Err r) us out = out
