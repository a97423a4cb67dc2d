use Prim.Native.Nat.{ℕ, ◌/◌, ◌≤◌}
use mathlib.Core.Path.{sym, ap, ◌∙◌}
use mathlib.Core.List.{List}
use native.Mathlib.Omega.{arith}
use lib.ListN.{length}
use Rattle.wire.proofs.Laws.{rest}
use Rattle.discovery.specs.Layer.{discovery_checks, list_part}
use Rattle.discovery.specs.Universes.{list_checks}
use Rattle.failed_check.specs.Tell.{told_by}
use Rattle.failed_check.proofs.Layers.{Same, in_list}
use Rattle.failed_check.proofs.extended_framing.in_discovery_part.Goals as goal

pub slice_bounds-find-count : goal.slice_bounds-find-count
slice_bounds-find-count c = let part : List ℕ = c.args.q.now in
    let listed : (8 ≤ length (part)) × Same (discovery_checks (part)) c.args.refusal (list_checks (list_part (part)) (length (list_part (part)) / 2)) = in_list (part) c.args.refusal c.requires (omega arith) in
    (listed).0

pub slice_bounds-find-start : goal.slice_bounds-find-start
slice_bounds-find-start c = let part : List ℕ = c.args.q.now in
    let listed : (8 ≤ length (part)) × Same (discovery_checks (part)) c.args.refusal (list_checks (list_part (part)) (length (list_part (part)) / 2)) = in_list (part) c.args.refusal c.requires (omega arith) in
    (listed).0

pub find-requires : goal.find-requires
find-requires c = let part : List ℕ = c.args.q.now in
    let listed : (8 ≤ length (part)) × Same (discovery_checks (part)) c.args.refusal (list_checks (list_part (part)) (length (list_part (part)) / 2)) = in_list (part) c.args.refusal c.requires (omega arith) in
    rw (rest (part) 8) (listed).1.1

pub returns : goal.returns
returns c = let part : List ℕ = c.args.q.now in
    let listed : (8 ≤ length (part)) × Same (discovery_checks (part)) c.args.refusal (list_checks (list_part (part)) (length (list_part (part)) / 2)) = in_list (part) c.args.refusal c.requires (omega arith) in
    (listed).1.0
    ∙ ap (λ (l : List ℕ). told_by (list_checks l (length l / 2))) (sym (rest (part) 8))
    ∙ c.find.ensures
