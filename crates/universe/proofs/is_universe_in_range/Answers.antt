use Rattle.std.proofs.Common.{refl, arith}
use Rattle.refusal.proofs.Laws.{stop, pass}
use Rattle.refusal.specs.Check.{checked_of}
use Rattle.universe.proofs.is_universe_in_range.Goals as goal

pub returns-then-universe-eq-E131_DISCOVERY_UNIVERSE : goal.returns-then-universe-eq-E131_DISCOVERY_UNIVERSE
unfolding checked_of
returns-then-universe-eq-E131_DISCOVERY_UNIVERSE c = pass _ _ _ (omega arith) refl

pub returns-then-universe-lt-E131_MIN_MULTICAST_UNIVERSE : goal.returns-then-universe-lt-E131_MIN_MULTICAST_UNIVERSE
unfolding checked_of
returns-then-universe-lt-E131_MIN_MULTICAST_UNIVERSE c = stop 0 _ _ _ (omega arith) c.refuse.ensures

pub returns : goal.returns
unfolding checked_of
returns c = pass _ _ _ (omega arith) refl
