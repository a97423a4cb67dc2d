-- The measure: the bytes left of pattern and name together, twice, so that `star` and `rest` may hand both on to `literal` as they are.
-- Assumes nothing.
use Rattle.std.proofs.Common.{length, ◌+◌, ◌*◌}
use Rattle.name_pattern.proofs.Steps as steps
use Rattle.name_pattern.proofs.+literal_rest_star.Given as goal

abbrev pub decreases-literal : goal.decreases-literal
decreases-literal l = 2 * (length l.pattern.now + length l.name.now)

abbrev pub decreases-rest : goal.decreases-rest
decreases-rest l = 2 * (length l.pattern.now + length l.name.now) + 1

abbrev pub decreases-star : goal.decreases-star
decreases-star l = 2 * (length l.pattern.now + length l.name.now) + 1

abbrev pub invariant-star-loop-from : goal.invariant-star-loop-from
invariant-star-loop-from l = steps.FromHere l.pattern l.name l.from
