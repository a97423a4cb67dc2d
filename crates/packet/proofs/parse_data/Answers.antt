use Rattle.std.specs.Prelude.{ℕ, List, ◌≡◌, Ok, Err}
use mathlib.Core.Path.{refl, sym, ap, ◌∙◌}
use Rattle.refusal.proofs.Laws.{after, after_all, by_answer}
use Rattle.pdu.specs.Head.{length_of}
use Rattle.pdu.specs.declared.Edition.TheVariants.{E2018}
use Rattle.framing.specs.Data.{data_checks, data_of, fields_of, layer_of}
use Rattle.framing.specs.declared.DataFields.{DataFields}
use Rattle.framing.specs.declared.DataFraming.{DataFraming}
use Rattle.packet.specs.Packet.{span, data_packet_of}
use Rattle.packet.specs.declared.Packet.{Packet}
use Rattle.packet.specs.declared.Packet.TheVariants.{Data, Refused}
use Rattle.packet.proofs.parse_data.Goals as goal

-- the packet, by what its framing layer is found to be
abbrev found : List ℕ → DataFraming → Packet
found p l = Data (record { fields = fields_of p; name = span 44 l.name; values = span 125 l.values })

by-layer : (p : List ℕ) → data_packet_of p ≡ after Refused (found p) (data_of E2018 p)
unfolding data_packet_of data_of
by-layer p = after_all Refused (found p) (data_checks E2018 p) (layer_of p (length_of p))

pub returns-in-Err : goal.returns-in-Err
returns-in-Err c = by_answer (after Refused (found c.args.p.now)) (data_of _ c.args.p.now) (Err _) (sym c.parse.ensures ∙ c.in-Err.is) refl ∙ sym (by-layer _)

pub returns-in-Ok : goal.returns-in-Ok
returns-in-Ok c = let l = c.in-Ok.layer in
    by_answer (after Refused (found c.args.p.now)) (data_of _ c.args.p.now) (Ok l) (sym c.parse.ensures ∙ c.in-Ok.is)
    (ap (λ (f : DataFields). Data (record { fields = f; name = span 44 l.name; values = span 125 l.values })) c.fields.ensures)
    ∙ sym (by-layer _)
