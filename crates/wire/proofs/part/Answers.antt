use Prim.Native.Nat.{◌+◌, ◌-◌}
use mathlib.Core.Path.{◌≡◌, refl}
use native.Mathlib.Omega.{arith}
use Rattle.refusal.proofs.Tests.{chosen, passed_over}
use Rattle.wire.specs.Fields.{part_of}
use Rattle.wire.proofs.part.Goals as goal

pub returns-then-s-start : goal.returns-then-s-start
unfolding part_of
returns-then-s-start c = passed_over _ _ _ (omega arith) refl

pub returns-then-s-start-2 : goal.returns-then-s-start-2
unfolding part_of
returns-then-s-start-2 c = passed_over _ _ _ (omega arith) refl

pub returns : goal.returns
unfolding part_of
returns c = let a = c.args in
    let k : a.start + a.len - a.start ≡ a.len = omega arith in
    chosen _ _ _ (omega arith) (rw k)
