use Rattle.std.proofs.Common.{◌≡◌, ◌≤◌, length}
use Rattle.list_times.proofs.read_full.Given as goal

abbrev pub invariant-loop : goal.invariant-loop
invariant-loop g l = (l.done ≤ length l.buf) × (length l.buf ≡ length l.fn.buf)
