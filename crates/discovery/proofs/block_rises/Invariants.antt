use Rattle.std.proofs.Common.{true, ◌≡◌}
use Rattle.discovery.specs.Universes.{checked_from}
use Rattle.discovery.proofs.block_rises.Given as goal

abbrev pub invariant-loop-i : goal.invariant-loop-i
invariant-loop-i l = l.rising ≡ true → checked_from l.at l.universes ≡ checked_from l.i l.universes
