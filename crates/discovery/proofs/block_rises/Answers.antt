use Rattle.std.proofs.Common.{◌∙◌, arith}
use Rattle.discovery.proofs.Laws.{checked_next}
use Rattle.discovery.proofs.block_rises.Goals as goal

pub loop-i-preserved : goal.loop-i-preserved
loop-i-preserved c = λ e.
    let t = c.still_rising-rising.ensures e in
    c.loop-i.invariant t.0 ∙ checked_next c.args.universes.now c.loop-i.i (omega arith) (omega (arith, t.1))
