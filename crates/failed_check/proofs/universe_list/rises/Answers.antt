use native.Mathlib.Omega.{arith}
use borrow.Author.Tests.{ltb-true, ltb-false}
use Rattle.failed_check.proofs.universe_list.rises.Goals as goal

pub returns : goal.returns
returns c = record { up = λ e. omega (arith, ltb-true); down = λ e. omega (arith, ltb-false) }
