use Rattle.std.proofs.Common.{◌-◌, ◌*◌}
use Rattle.wire.specs.Fields.{u16_at}
use Rattle.failed_check.proofs.Order.{AsFrom}
use Rattle.failed_check.proofs.universe_list.find.Given as goal

abbrev pub invariant-loop-i : goal.invariant-loop-i
invariant-loop-i l = AsFrom l.list (u16_at l.list (2 * l.i - 2)) l.i
