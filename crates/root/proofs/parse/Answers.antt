use Rattle.std.specs.Prelude.{ℕ, ◌≤◌, List, [], length, ◌≡◌, Ok, Err}
use mathlib.Core.Path.{refl, sym, ap, ◌∙◌}
use native.Mathlib.Omega.{arith}
use Rattle.refusal.specs.Check.{reading, checked_of}
use Rattle.refusal.proofs.Laws.{read_as, after_check, check_first, handed_on, gone_on}
use Rattle.wire.proofs.Laws.{rest}
use Rattle.pdu.specs.declared.Edition.{Edition}
use Rattle.root.specs.Root.{preamble_checks, root_checks, root_part, found_in, layer_of, root_of}
use Rattle.root.proofs.parse.Goals as goal

by-preamble : (edition : Edition) (d : List ℕ) → root_of edition d ≡ after_check Err (layer_of edition (root_part d)) (checked_of (preamble_checks d))
unfolding root_of layer_of reading
by-preamble edition d = check_first Err [] (preamble_checks d) (root_checks edition (root_part d)) (Ok (found_in (root_part d)))

-- past the preamble there are sixteen bytes
long : (d : List ℕ) → Ok tt ≡ checked_of (preamble_checks d) → 16 ≤ length d
unfolding checked_of
long d e =
    let h = (read_as (preamble_checks d) tt tt (sym e)).0 in
    omega arith

pub slice_bounds-parse_layer-count : goal.slice_bounds-parse_layer-count
slice_bounds-parse_layer-count c = long c.args.datagram.now c.in_ok-check_preamble.ensures

pub slice_bounds-parse_layer-start : goal.slice_bounds-parse_layer-start
slice_bounds-parse_layer-start c = long c.args.datagram.now c.in_ok-check_preamble.ensures

pub returns-in_err-check_preamble : goal.returns-in_err-check_preamble
returns-in_err-check_preamble c = let a = c.args in
    handed_on (λ t. layer_of a.edition (root_part a.datagram.now)) c.in_err-check_preamble.ensures c.from_residual.ensures.1
    ∙ sym (by-preamble _ _)

pub returns : goal.returns
returns c = let a = c.args in
    gone_on (λ t. layer_of a.edition (root_part a.datagram.now)) c.in_ok-check_preamble.ensures (c.parse_layer.ensures ∙ ap (layer_of a.edition) (rest a.datagram.now 16))
    ∙ sym (by-preamble _ _)
