use Rattle.std.proofs.Common.{arith}
use Rattle.turns.proofs.Laws.{entry_told, end_told, failure_told}
use Rattle.turns.proofs.turn.Goals as goal

pub returns-in-Ok : goal.returns-in-Ok
returns-in-Ok g c =
    let a = c.args in
    entry_told g.P.Teller.knows a.n a.state.now c.take-next.new.self c.go_on.new.self c.take-next.result a.block.now _ a.entry.now _ c.take-next.ensures
    a.program.now c.put_line.new.self c.in-Ok.len _ a.out.now c.put_line.new.out c.go_on.new.out c.requires.1 c.in-Ok.is c.part.ensures c.put_line.ensures c.go_on.ensures

pub returns-in-Err-Ended : goal.returns-in-Err-Ended
returns-in-Err-Ended g c =
    let a = c.args in
    end_told g.P.Teller.knows a.n a.state.now c.take-next.new.self c.finish.new.self c.take-next.result a.block.now _ a.entry.now _ c.take-next.ensures
    a.program.now c.in-Err-Ended.field-0 c.in-Err-Ended.field-0-0 a.out.now c.put_end.new.out c.finish.new.out (omega (arith, c.requires.0)) c.in-Err-Ended.is (rw c.in-Err-Ended.is at c.in-Err-Ended.field-0-is) c.put_end.ensures c.finish.ensures

pub returns-in-Err-Failed : goal.returns-in-Err-Failed
returns-in-Err-Failed g c =
    let a = c.args in
    let finish = c.finish-in-Err-Failed in
    failure_told g.P.Teller.knows a.n a.state.now c.take-next.new.self finish.new.self c.take-next.result a.block.now _ a.entry.now _ c.take-next.ensures
    a.program.now c.in-Err-Failed.field-0 a.out.now finish.new.out c.in-Err-Failed.is (rw c.in-Err-Failed.is at c.in-Err-Failed.field-0-is) finish.ensures
