-- What the read answered lies in the block, behind its first bytes.
use Rattle.std.proofs.Common.{length, arith}
use Rattle.standard_io.proofs.Laws.{arrived}
use Rattle.standard_io.proofs.ask.Goals as goal

pub returns-clause-arrived : goal.returns-clause-arrived
returns-clause-arrived g c = rw c.answered.ensures (arrived c.read.result c.args.len (length c.args.block.now) c.read.new.buf c.read.ensures.bound (omega arith) (omega arith))
