use Rattle.std.specs.Prelude.{ℕ, List, ◌≡◌, Result, Ok, Err}
use mathlib.Core.Path.{refl, sym, ap, ap₂, ◌∙◌}
use native.Mathlib.Omega.{arith}
use Rattle.std.proofs.lemmas.List.{length-drop}
use Rattle.refusal.proofs.Tests.{chosen, passed_over}
use Rattle.refusal.proofs.Laws.{after, by_answer}
use Rattle.pdu.specs.declared.Edition.TheVariants.{E2018}
use Rattle.refusal.specs.declared.Refusal.{Refusal}
use Rattle.root.specs.Root.{root_of}
use Rattle.root.specs.declared.RootLayer.{RootLayer}
use Rattle.root.proofs.Laws.{Within, root_within}
use Rattle.packet.specs.Packet.{data_packet_of, extended_packet_of}
use Rattle.packet.specs.declared.Packet.TheVariants.{Refused}
use Rattle.packet.proofs.Laws.{framing_part_lem, framed, by_root}
use Rattle.packet.proofs.parse_packet.Goals as goal

-- the root layer that was read lies in the datagram
inside : (d : List ℕ) (l : RootLayer) {x : Result RootLayer Refusal} → x ≡ root_of E2018 d → x ≡ Ok l → Within d l.end
inside d l e f = root_within E2018 d l (sym e ∙ f)

pub overflow_add-part : goal.overflow_add-part
overflow_add-part c = omega (arith, inside _ _ c.parse.ensures c.in-Ok.is)

pub slice_bounds-part-count : goal.slice_bounds-part-count
slice_bounds-part-count c = omega (arith, inside _ _ c.parse.ensures c.in-Ok.is)

pub slice_bounds-part-start : goal.slice_bounds-part-start
slice_bounds-part-start c = omega (arith, inside _ _ c.parse.ensures c.in-Ok.is)

pub slice_bounds-part-end : goal.slice_bounds-part-end
slice_bounds-part-end c = omega (arith, inside _ _ c.parse.ensures c.in-Ok.is)

pub overflow_sub-datagram : goal.overflow_sub-datagram
overflow_sub-datagram c = omega (arith, inside _ _ c.parse.ensures c.in-Ok.is)

pub returns-in-Err : goal.returns-in-Err
returns-in-Err c = by_answer (after Refused (framed c.args.datagram.now)) (root_of _ c.args.datagram.now) (Err _) (sym c.parse.ensures ∙ c.in-Err.is) refl ∙ sym (by_root _)

pub returns-then-layer-eq-VECTOR_ROOT_E131_DATA : goal.returns-then-layer-eq-VECTOR_ROOT_E131_DATA
returns-then-layer-eq-VECTOR_ROOT_E131_DATA c = let d = c.args.datagram.now in
    let l = c.in-Ok.layer in
    by_answer (after Refused (framed d)) (root_of E2018 d) (Ok l) (sym c.parse.ensures ∙ c.in-Ok.is)
    (chosen _ _ _ c.if-layer-eq-VECTOR_ROOT_E131_DATA.true (c.parse_data.ensures ∙ ap data_packet_of (framing_part_lem d l.end)))
    ∙ sym (by_root d)

pub returns-else-layer-eq-VECTOR_ROOT_E131_DATA : goal.returns-else-layer-eq-VECTOR_ROOT_E131_DATA
returns-else-layer-eq-VECTOR_ROOT_E131_DATA c = let d = c.args.datagram.now in
    let l = c.in-Ok.layer in
    by_answer (after Refused (framed d)) (root_of E2018 d) (Ok l) (sym c.parse.ensures ∙ c.in-Ok.is)
    (passed_over _ _ _ c.if-layer-eq-VECTOR_ROOT_E131_DATA.false (c.parse_extended.ensures ∙ ap₂ extended_packet_of (sym (length-drop 16 d)) (framing_part_lem d l.end)))
    ∙ sym (by_root d)
