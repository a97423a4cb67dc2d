use mathlib.Core.Path.{refl}
use native.Mathlib.Omega.{arith}
use Rattle.refusal.proofs.Tests.{chosen, passed_over}
use Rattle.name.specs.Utf8.{trailed}
use Rattle.name.proofs.utf8.after_trail.Goals as goal

pub returns-then-more-eq0 : goal.returns-then-more-eq0
unfolding trailed
returns-then-more-eq0 c = chosen _ _ _ (omega arith) refl

pub returns-else-more-eq0 : goal.returns-else-more-eq0
unfolding trailed
returns-else-more-eq0 c = passed_over _ _ _ (omega arith) c.trail.ensures
