use Prim.Native.Nat.{ℕ}
use mathlib.Core.Path.{◌≡◌}
use native.Mathlib.Omega.{arith}
use Rattle.discovery.proofs.still_rising.Goals as goal

pub returns-then-last-u : goal.returns-then-last-u
returns-then-last-u c = λ e. let z : ◌≡◌ {A = ℕ} 0 1 = cc in absurd (omega arith)

pub returns : goal.returns
returns c = λ e. (e, omega arith)
