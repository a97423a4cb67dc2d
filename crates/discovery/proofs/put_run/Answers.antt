use Rattle.std.proofs.Common.{refl, arith}
use Rattle.discovery.specs.Universes.{universe_bytes}
use Rattle.discovery.proofs.Laws.{bytes_next}
use Rattle.discovery.proofs.put_run.Goals as goal

pub loop-i-init : goal.loop-i-init
unfolding universe_bytes
loop-i-init c = refl

pub loop-i-preserved : goal.loop-i-preserved
loop-i-preserved c = rw (c.to_be_bytes.ensures, c.loop-i.invariant) (bytes_next c.args.universes.now c.args.buf.now c.loop-i.i (omega arith))
