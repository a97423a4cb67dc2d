use Rattle.std.proofs.Common.{◌≤◌, ◌*◌, ◌≡◌, length, drop}
use Rattle.refusal.specs.Check.{checked_of}
use Rattle.discovery.specs.Universes.{universes, pairs_from, ascends, list_checks}
use Rattle.discovery.proofs.parse_universe_list.Given as goal

abbrev pub invariant-loop-i : goal.invariant-loop-i
invariant-loop-i l = (2 * l.count ≤ length l.p) × (checked_of (pairs_from ascends l.last (drop l.i (universes l.count l.p))) ≡ checked_of (list_checks l.p l.count))
