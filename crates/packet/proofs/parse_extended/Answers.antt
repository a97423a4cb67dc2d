use Rattle.std.specs.Prelude.{ℕ, ◌*◌, List, ◌≡◌, Ok, Err}
use mathlib.Core.Path.{refl, sym, ap, ◌∙◌}
use Rattle.refusal.specs.Check.{◌=?◌, reading}
use Rattle.refusal.proofs.Tests.{choose_map}
use Rattle.refusal.proofs.Laws.{after, after_all, by_answer}
use Rattle.pdu.specs.Head.{length_of, vector_of}
use Rattle.pdu.specs.declared.VectorLength.TheVariants.{Four}
use Rattle.extended.specs.Extended.{extended_checks, extended_of, layer_of}
use Rattle.extended.specs.declared.Extended.{Extended}
use Rattle.extended.specs.declared.Extended.TheVariants as layer
use Rattle.packet.specs.Packet.{span, extended_packet_of}
use Rattle.packet.specs.declared.Packet.{Packet}
use Rattle.packet.specs.declared.Packet.TheVariants.{Synchronization, Discovery, Refused}
use Rattle.packet.proofs.parse_extended.Goals as goal

-- the packet, by what its framing layer is found to be
abbrev found : Extended → Packet
found (layer.Synchronization fields) = Synchronization (record { fields = fields })
found (layer.Discovery l) = Discovery (record { fields = l.fields; name = span 44 l.name; universes = span 120 (2 * l.universes) })

by-layer : (whole : ℕ) (p : List ℕ) → extended_packet_of whole p ≡ after Refused found (extended_of whole p)
unfolding extended_packet_of extended_of
by-layer whole p =
    ap (reading Refused (extended_checks whole p)) (sym (choose_map found (vector_of Four p =? 1) _ _))
    ∙ after_all Refused found (extended_checks whole p) (layer_of p (length_of p) (vector_of Four p))

pub returns-in-Err : goal.returns-in-Err
returns-in-Err c = by_answer (after Refused found) (extended_of _ _) (Err _) (sym c.parse.ensures ∙ c.in-Err.is) refl ∙ sym (by-layer _ _)

pub returns-in-Ok-Synchronization : goal.returns-in-Ok-Synchronization
returns-in-Ok-Synchronization c = let i = c.in-Ok-Synchronization in
    by_answer (after Refused found) (extended_of _ _) (Ok (layer.Synchronization i.fields)) (sym c.parse.ensures ∙ i.is ∙ ap Ok i.field-0-is) refl ∙ sym (by-layer _ _)

pub returns-in-Ok-Discovery : goal.returns-in-Ok-Discovery
returns-in-Ok-Discovery c = let i = c.in-Ok-Discovery in
    by_answer (after Refused found) (extended_of _ _) (Ok (layer.Discovery i.layer)) (sym c.parse.ensures ∙ i.is ∙ ap Ok i.field-0-is) refl ∙ sym (by-layer _ _)
