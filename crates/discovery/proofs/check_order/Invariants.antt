use Rattle.std.proofs.Common.{◌+◌, ◌≡◌, drop}
use Rattle.refusal.specs.Check.{checked_of}
use Rattle.discovery.specs.Universes.{pairs_from, rises, order_checks}
use Rattle.discovery.proofs.check_order.Given as goal

abbrev pub invariant-loop-u : goal.invariant-loop-u
invariant-loop-u l = checked_of (pairs_from rises l.last (drop (l.front + 1 + l.u-index) l.universes)) ≡ checked_of (order_checks l.universes)
