use Prim.Native.Nat.{ℕ, ◌≤◌}
use mathlib.Core.Path.{◌≡◌, sym, ap, ◌∙◌}
use mathlib.Core.List.{List}
use native.Mathlib.Omega.{arith}
use lib.ListN.{length}
use Rattle.pdu.specs.Head.{length_of}
use Rattle.dmp.specs.Layer.{dmp_checks}
use Rattle.framing.specs.Data.{dmp_part, data_checks}
use Rattle.failed_check.specs.Tell.{told_by}
use Rattle.failed_check.proofs.Layers.{Same, in_dmp}
use Rattle.failed_check.proofs.data_framing.find.Goals as goal

pub slice_bounds-find-count : goal.slice_bounds-find-count
slice_bounds-find-count c = let part : List ℕ = c.args.p.now in
    let inside : (77 ≤ length_of (part)) × (length_of (part) ≤ length (part)) × Same (data_checks c.args.edition (part)) c.args.refusal (dmp_checks (dmp_part (part) (length_of (part)))) = in_dmp c.args.edition (part) c.args.refusal c.requires (omega arith) in
    omega (arith, inside, c.layer_length-end.ensures)

pub slice_bounds-find-start : goal.slice_bounds-find-start
slice_bounds-find-start c = let part : List ℕ = c.args.p.now in
    let inside : (77 ≤ length_of (part)) × (length_of (part) ≤ length (part)) × Same (data_checks c.args.edition (part)) c.args.refusal (dmp_checks (dmp_part (part) (length_of (part)))) = in_dmp c.args.edition (part) c.args.refusal c.requires (omega arith) in
    omega (arith, inside, c.layer_length-end.ensures)

pub slice_bounds-find-end : goal.slice_bounds-find-end
slice_bounds-find-end c = let part : List ℕ = c.args.p.now in
    let inside : (77 ≤ length_of (part)) × (length_of (part) ≤ length (part)) × Same (data_checks c.args.edition (part)) c.args.refusal (dmp_checks (dmp_part (part) (length_of (part)))) = in_dmp c.args.edition (part) c.args.refusal c.requires (omega arith) in
    omega (arith, inside, c.layer_length-end.ensures)

pub find-requires : goal.find-requires
find-requires c = let part : List ℕ = c.args.p.now in
    let cut : dmp_part (part) c.layer_length-end.result ≡ dmp_part (part) (length_of (part)) = ap (dmp_part (part)) c.layer_length-end.ensures in
    let inside : (77 ≤ length_of (part)) × (length_of (part) ≤ length (part)) × Same (data_checks c.args.edition (part)) c.args.refusal (dmp_checks (dmp_part (part) (length_of (part)))) = in_dmp c.args.edition (part) c.args.refusal c.requires (omega arith) in
    rw (cut) (inside).2.1

pub returns : goal.returns
returns c = let part : List ℕ = c.args.p.now in
    let inside : (77 ≤ length_of (part)) × (length_of (part) ≤ length (part)) × Same (data_checks c.args.edition (part)) c.args.refusal (dmp_checks (dmp_part (part) (length_of (part)))) = in_dmp c.args.edition (part) c.args.refusal c.requires (omega arith) in
    let cut : dmp_part (part) c.layer_length-end.result ≡ dmp_part (part) (length_of (part)) = ap (dmp_part (part)) c.layer_length-end.ensures in
    (inside).2.0 ∙ ap (λ (q : List ℕ). told_by (dmp_checks q)) (sym (cut)) ∙ c.find.ensures
