use Rattle.std.proofs.Common.{refl, arith}
use Rattle.refusal.proofs.Tests.{chosen, passed_over}
use Rattle.text.proofs.hex_digit.Goals as goal

pub returns-then-x-lt10 : goal.returns-then-x-lt10
returns-then-x-lt10 c = (chosen _ _ _ (omega arith) refl, omega arith)

pub returns-else-x-lt10 : goal.returns-else-x-lt10
returns-else-x-lt10 c = (passed_over _ _ _ (omega arith) (omega arith), omega arith)
