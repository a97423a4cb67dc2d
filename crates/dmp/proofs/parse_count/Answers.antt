use mathlib.Core.Path.{ap}
use native.Mathlib.Omega.{arith}
use Rattle.refusal.proofs.Laws.{stop, stop_value, pass}
use Rattle.dmp.specs.Layer.{counted_of}
use Rattle.std.specs.Prelude.{Ok}
use Rattle.dmp.proofs.parse_count.Goals as goal

pub returns-then-p-lt-PROPERTY_VALUES_FIELD_INDEX : goal.returns-then-p-lt-PROPERTY_VALUES_FIELD_INDEX
unfolding counted_of
returns-then-p-lt-PROPERTY_VALUES_FIELD_INDEX c = stop 0 _ _ _ (omega arith) c.refuse.ensures

pub returns-then-count-length : goal.returns-then-count-length
unfolding counted_of
returns-then-count-length c = stop_value 1 _ _ _ (omega arith) c.refuse-then-count-length.ensures c.u16_at-count.ensures

pub returns-then-count-eq0 : goal.returns-then-count-eq0
unfolding counted_of
returns-then-count-eq0 c = stop 2 _ _ _ (omega arith) c.refuse-then-count-eq0.ensures

pub returns-then-count-gt-UNIVERSE_CHANNEL_CAPACITY : goal.returns-then-count-gt-UNIVERSE_CHANNEL_CAPACITY
unfolding counted_of
returns-then-count-gt-UNIVERSE_CHANNEL_CAPACITY c = stop 3 _ _ _ (omega arith) c.refuse-then-count-gt-UNIVERSE_CHANNEL_CAPACITY.ensures

pub returns : goal.returns
unfolding counted_of
returns c = pass _ _ _ (omega arith) (ap Ok c.u16_at-count.ensures)
