use Rattle.std.specs.Prelude.{ℕ, List, ◌≡◌, Result, Ok, Err}
use mathlib.Core.Path.{refl, sym, ap, ◌∙◌}
use native.Mathlib.Omega.{arith}
use Rattle.refusal.specs.declared.Refusal.{Refusal}
use Rattle.refusal.proofs.Laws.{after, by_answer}
use Rattle.pdu.specs.declared.Edition.TheVariants.{E2009}
use Rattle.root.specs.Root.{root_of}
use Rattle.root.specs.declared.RootLayer.{RootLayer}
use Rattle.root.proofs.Laws.{Within, root_within}
use Rattle.packet.proofs.Laws.{framing_part_lem}
use Rattle.edition2009.specs.Packet.{data_packet2009_of}
use Rattle.edition2009.specs.declared.Packet2009.TheVariants.{Refused}
use Rattle.edition2009.proofs.Laws.{framed, by_root}
use Rattle.edition2009.proofs.parse_packet.Goals as goal

-- the root layer that was read lies in the datagram
inside : (d : List ℕ) (l : RootLayer) {x : Result RootLayer Refusal} → x ≡ root_of E2009 d → x ≡ Ok l → Within d l.end
inside d l e f = root_within E2009 d l (sym e ∙ f)

pub overflow_add-layer : goal.overflow_add-layer
overflow_add-layer c = omega (arith, inside _ _ c.parse.ensures c.in-Ok.is)

pub slice_bounds-parse_data-count : goal.slice_bounds-parse_data-count
slice_bounds-parse_data-count c = omega (arith, inside _ _ c.parse.ensures c.in-Ok.is)

pub slice_bounds-parse_data-start : goal.slice_bounds-parse_data-start
slice_bounds-parse_data-start c = omega (arith, inside _ _ c.parse.ensures c.in-Ok.is)

pub slice_bounds-parse_data-end : goal.slice_bounds-parse_data-end
slice_bounds-parse_data-end c = omega (arith, inside _ _ c.parse.ensures c.in-Ok.is)

pub returns-in-Err : goal.returns-in-Err
returns-in-Err c = by_answer (after Refused (framed c.args.datagram.now)) (root_of _ c.args.datagram.now) (Err _) (sym c.parse.ensures ∙ c.in-Err.is) refl ∙ sym (by_root _)

pub returns-in-Ok : goal.returns-in-Ok
returns-in-Ok c = let d = c.args.datagram.now in
    let l = c.in-Ok.layer in
    by_answer (after Refused (framed d)) (root_of E2009 d) (Ok l) (sym c.parse.ensures ∙ c.in-Ok.is)
    (c.parse_data.ensures ∙ ap data_packet2009_of (framing_part_lem d l.end))
    ∙ sym (by_root d)
