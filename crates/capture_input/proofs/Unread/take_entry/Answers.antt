-- The entry at the front of what is unread lies in the block.
use Rattle.std.proofs.Common.{◌+◌, ◌-◌, ◌≡◌, ◌∙◌, arith}
use Rattle.capture_input.proofs.Laws.{entry_held, rest_of_part}
use Rattle.capture_input.proofs.Unread.take_entry.Goals as goal

pub overflow_add-end : goal.overflow_add-end
overflow_add-end c =
    let w = entry_held c.args.block.now c.args.self.now c.part-s.result.now c.in_ok-start.field-0 c.part-s.ensures c.in_ok-start.ensures in
    omega (arith, w.within)

pub slice_bounds-copy-end : goal.slice_bounds-copy-end
slice_bounds-copy-end c =
    let w = entry_held c.args.block.now c.args.self.now c.part-s.result.now c.in_ok-start.field-0 c.part-s.ensures c.in_ok-start.ensures in
    omega (arith, w.within)

pub overflow_add-self : goal.overflow_add-self
overflow_add-self c =
    let w = entry_held c.args.block.now c.args.self.now c.part-s.result.now c.in_ok-start.field-0 c.part-s.ensures c.in_ok-start.ensures in
    omega (arith, w.behind)

pub overflow_sub-self : goal.overflow_sub-self
overflow_sub-self c =
    let w = entry_held c.args.block.now c.args.self.now c.part-s.result.now c.in_ok-start.field-0 c.part-s.ensures c.in_ok-start.ensures in
    omega (arith, w.left)

pub returns-clause-took : goal.returns-clause-took
returns-clause-took c =
    let w = entry_held c.args.block.now c.args.self.now c.part-s.result.now c.in_ok-start.field-0 c.part-s.ensures c.in_ok-start.ensures in
    let k = c.in_ok-start.field-0.start in
    let m = c.in_ok-start.field-0.len in
    let n : k + m - k ≡ m = omega arith in
    let rest = rest_of_part c.args.block.now c.args.self.now.start c.args.self.now.len (k + m) w.left w.part in
    (k, w.front, c.copy.ensures ∙ rw (n, c.part-s.ensures), rest)
