-- Whatever the program tells by, so many turns have told the entries that are behind it.
use Rattle.std.proofs.Common.{ℕ, List, []}
use Rattle.turns.specs.Turn.{Telling}
use Rattle.turns.specs.Run.{SoFar}
use Rattle.turns.proofs.run_program.Given as goal

abbrev pub invariant-loop-n : goal.invariant-loop-n
invariant-loop-n g l =
    (T : Telling) → g.P.Teller.knows T l.fn.program [] →
    (past : List (List ℕ)) × SoFar T l.fn.block l.fn.out l.block l.out l.state l.n past × g.P.Teller.knows T l.program past
