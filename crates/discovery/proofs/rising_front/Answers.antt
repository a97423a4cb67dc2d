use mathlib.Core.Path.{refl, ◌∙◌}
use native.Mathlib.Omega.{arith}
use Rattle.discovery.proofs.rising_front.Goals as goal

pub loop-at-init : goal.loop-at-init
loop-at-init c = (omega arith, refl)

pub loop-at-preserved : goal.loop-at-preserved
loop-at-preserved c = (omega arith, c.loop-at.invariant.1 ∙ c.block_rises.ensures c.if-block_rises.true)

pub returns-else-block_rises : goal.returns-else-block_rises
returns-else-block_rises c = record { within = omega arith; front = c.loop-at.invariant.1 }

pub returns : goal.returns
returns c = record { within = omega arith; front = c.loop-at.invariant.1 }
