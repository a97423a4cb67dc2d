-- What is unread lies in the block, and is the same where it was moved to the front.
use Rattle.std.proofs.Common.{ℕ, ◌+◌, ◌-◌, ◌≡◌, sym, ap, ◌∙◌, false, List, length, take, drop, arith}
use Rattle.capture.specs.Entry.{front_of}
use Rattle.capture_input.specs.Entries.{unread_in, waits_at}
use Rattle.capture_input.proofs.Laws.{held, moved}
use Rattle.capture_input.proofs.Unread.fill.Goals as goal

pub overflow_add-start : goal.overflow_add-start
overflow_add-start g c =
    let w = held c.args.block.now c.args.self c.part-len.result.now c.part-len.ensures (omega arith) in
    omega (arith, w.inside)

pub slice_bounds-waits-end : goal.slice_bounds-waits-end
slice_bounds-waits-end g c =
    let w = held c.args.block.now c.args.self c.part-len.result.now c.part-len.ensures (omega arith) in
    omega (arith, w.inside)

pub returns-then-waits-clause-more : goal.returns-then-waits-clause-more
returns-then-waits-clause-more g c =
    let w = held c.args.block.now c.args.self c.part-len.result.now c.part-len.ensures (omega arith) in
    let b = c.args.block.now in
    let front = moved b c.copy_within.new.self c.args.self.start c.args.self.len (length c.part-len.result.now) w.part w.size c.copy_within.ensures.after in
    rw (← front) c.read_entry-then-waits.ensures.more

pub returns-clause-enough : goal.returns-clause-enough
returns-clause-enough g c =
    let w = held c.args.block.now c.args.self c.part-len.result.now c.part-len.ensures (omega arith) in
    let b = c.args.block.now in
    let u = c.args.self in
    let k = length c.part-len.result.now in
    let n : u.start + k - u.start ≡ u.len = omega (arith, w.size) in
    let v : waits_at (front_of (take (u.start + k - u.start) (drop u.start b))) ≡ false = sym c.waits.ensures ∙ c.if-waits.false in
    let rests : waits_at (front_of (unread_in b u)) ≡ false = ap (λ (l : List ℕ). waits_at (front_of l)) w.part.part ∙ rw n at v in
    rw c.quiet.ensures rests
