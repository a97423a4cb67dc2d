use Rattle.std.proofs.Common.{◌-◌, true, ◌≡◌, drop, get_or}
use Rattle.refusal.specs.Check.{checked_of}
use Rattle.discovery.specs.Universes.{pairs_from, rises, order_checks}
use Rattle.discovery.proofs.all_rise.Given as goal

abbrev pub invariant-loop-i : goal.invariant-loop-i
invariant-loop-i l = (l.rising ≡ true → checked_of (pairs_from rises (get_or l.universes (l.i - 1) 0) (drop l.i l.universes)) ≡ checked_of (order_checks l.universes))
