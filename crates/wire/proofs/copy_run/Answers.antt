use Rattle.std.proofs.Common.{refl, zero-add, arith}
use Rattle.wire.proofs.Laws.{sets_more}
use Rattle.wire.proofs.copy_run.Goals as goal

pub loop-i-init : goal.loop-i-init
loop-i-init c = refl

pub loop-i-preserved : goal.loop-i-preserved
loop-i-preserved c = let a = c.args in
    rw (sets_more a.src.now a.buf.now 0 c.loop-i.i (omega arith), zero-add c.loop-i.i, c.loop-i.invariant)
