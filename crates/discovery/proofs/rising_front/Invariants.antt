use Prim.Native.Nat.{◌-◌, ◌<◌}
use mathlib.Core.Path.{◌≡◌}
use lib.ListN.{length}
use Rattle.discovery.specs.Universes.{checked_from}
use Rattle.discovery.proofs.rising_front.Given as goal

abbrev pub invariant-loop-at : goal.invariant-loop-at
invariant-loop-at l = (l.at < length l.universes) × (checked_from 0 l.universes ≡ checked_from l.at l.universes)

abbrev pub decreases-loop-at : goal.decreases-loop-at
decreases-loop-at l = length l.universes - l.at
