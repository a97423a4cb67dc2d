use Rattle.std.proofs.Common.{arith}
use Rattle.name_pattern.proofs.Steps.{all_taken}
use Rattle.name_pattern.proofs.used_up.Goals as goal

pub returns-in-empty : goal.returns-in-empty
returns-in-empty c = all_taken c.args.name.now (omega arith)
