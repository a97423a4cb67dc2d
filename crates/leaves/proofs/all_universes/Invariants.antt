use Rattle.std.proofs.Common.{◌<◌}
use Rattle.leaves.proofs.all_universes.Given as goal

abbrev pub invariant-loop-universe : goal.invariant-loop-universe
invariant-loop-universe g l = l.sum < 4294967291
