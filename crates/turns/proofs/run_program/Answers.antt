use Rattle.std.proofs.Common.{◌≡◌, true}
use Rattle.turns.proofs.Run.{entries_so_far, turn_more}
use Rattle.turns.proofs.run_program.Goals as goal

pub loop-n-preserved : goal.loop-n-preserved
loop-n-preserved g c =
    let l = c.loop-n in
    let goes : l.state.going ≡ true = cc in
    λ T knows.
    let (past, so_far, behind) = l.invariant T knows in
    let many = entries_so_far T c.args.block.now c.args.out.now l.block l.out l.state l.n past so_far goes in
    let (grew, (turn, is), then) = c.turn.ensures T past behind many in
    (grew, rw is at (turn_more T c.args.block.now c.args.out.now l.block l.out c.turn.new.block c.turn.new.out l.state c.turn.new.state l.n past so_far goes turn), then)
