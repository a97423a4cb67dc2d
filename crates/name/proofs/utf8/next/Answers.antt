use mathlib.Core.Path.{refl}
use native.Mathlib.Omega.{arith}
use Rattle.refusal.proofs.Tests.{chosen, passed_over}
use Rattle.name.proofs.utf8.next.Goals as goal

pub returns-then-b-low : goal.returns-then-b-low
returns-then-b-low c = rw c.in-Trail.is (passed_over _ _ _ (omega arith) refl)

pub returns-then-high-b : goal.returns-then-high-b
returns-then-high-b c = rw c.in-Trail.is (passed_over _ _ _ (omega arith) refl)

pub returns-in-Lead : goal.returns-in-Lead
returns-in-Lead c = rw c.in-Lead.is c.lead.ensures

pub returns-else-high-b : goal.returns-else-high-b
returns-else-high-b c = rw c.in-Trail.is (chosen _ _ _ (omega arith) c.after_trail.ensures)
