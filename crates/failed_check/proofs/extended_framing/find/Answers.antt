use Prim.Native.Nat.{ℕ, ◌≤◌}
use mathlib.Core.Path.{◌≡◌, sym, ap, ◌∙◌}
use mathlib.Core.List.{List}
use native.Mathlib.Omega.{arith}
use lib.ListN.{length}
use Rattle.pdu.specs.Head.{length_of}
use Rattle.discovery.specs.Layer.{discovery_checks}
use Rattle.extended.specs.UniverseDiscovery.{discovery_part}
use Rattle.extended.specs.Extended.{extended_checks}
use Rattle.failed_check.specs.Tell.{told_by}
use Rattle.failed_check.proofs.Layers as layers
use Rattle.failed_check.proofs.Layers.{Same}
use Rattle.failed_check.proofs.extended_framing.find.Goals as goal

pub slice_bounds-in_discovery_part-count : goal.slice_bounds-in_discovery_part-count
slice_bounds-in_discovery_part-count c = let part : List ℕ = c.args.p.now in
    let inside : (82 ≤ length_of (part)) × (length_of (part) ≤ length (part)) × Same (extended_checks c.args.whole (part)) c.args.refusal (discovery_checks (discovery_part (part) (length_of (part)))) = layers.in_discovery_part c.args.whole (part) c.args.refusal c.requires (omega arith) in
    omega (arith, inside, c.layer_length-end.ensures)

pub slice_bounds-in_discovery_part-start : goal.slice_bounds-in_discovery_part-start
slice_bounds-in_discovery_part-start c = let part : List ℕ = c.args.p.now in
    let inside : (82 ≤ length_of (part)) × (length_of (part) ≤ length (part)) × Same (extended_checks c.args.whole (part)) c.args.refusal (discovery_checks (discovery_part (part) (length_of (part)))) = layers.in_discovery_part c.args.whole (part) c.args.refusal c.requires (omega arith) in
    omega (arith, inside, c.layer_length-end.ensures)

pub slice_bounds-in_discovery_part-end : goal.slice_bounds-in_discovery_part-end
slice_bounds-in_discovery_part-end c = let part : List ℕ = c.args.p.now in
    let inside : (82 ≤ length_of (part)) × (length_of (part) ≤ length (part)) × Same (extended_checks c.args.whole (part)) c.args.refusal (discovery_checks (discovery_part (part) (length_of (part)))) = layers.in_discovery_part c.args.whole (part) c.args.refusal c.requires (omega arith) in
    omega (arith, inside, c.layer_length-end.ensures)

pub in_discovery_part-requires : goal.in_discovery_part-requires
in_discovery_part-requires c = let part : List ℕ = c.args.p.now in
    let cut : discovery_part (part) c.layer_length-end.result ≡ discovery_part (part) (length_of (part)) = ap (discovery_part (part)) c.layer_length-end.ensures in
    let inside : (82 ≤ length_of (part)) × (length_of (part) ≤ length (part)) × Same (extended_checks c.args.whole (part)) c.args.refusal (discovery_checks (discovery_part (part) (length_of (part)))) = layers.in_discovery_part c.args.whole (part) c.args.refusal c.requires (omega arith) in
    rw (cut) (inside).2.1

pub returns : goal.returns
returns c = let part : List ℕ = c.args.p.now in
    let inside : (82 ≤ length_of (part)) × (length_of (part) ≤ length (part)) × Same (extended_checks c.args.whole (part)) c.args.refusal (discovery_checks (discovery_part (part) (length_of (part)))) = layers.in_discovery_part c.args.whole (part) c.args.refusal c.requires (omega arith) in
    let cut : discovery_part (part) c.layer_length-end.result ≡ discovery_part (part) (length_of (part)) = ap (discovery_part (part)) c.layer_length-end.ensures in
    (inside).2.0 ∙ ap (λ (q : List ℕ). told_by (discovery_checks q)) (sym (cut)) ∙ c.in_discovery_part.ensures
