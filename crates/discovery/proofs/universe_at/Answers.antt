use Rattle.std.proofs.Common.{arith}
use Rattle.wire.specs.Fields.{u16_at}
use Rattle.discovery.proofs.universe_at.Goals as goal

pub returns : goal.returns
unfolding u16_at
returns c = omega (arith, c.from_be_bytes.ensures)
