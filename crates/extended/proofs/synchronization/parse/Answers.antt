use Rattle.std.specs.Prelude.{ℕ, Result, Ok}
use mathlib.Core.Path.{ap₂}
use native.Mathlib.Omega.{arith}
use Rattle.refusal.proofs.Laws.{stop, stop_value, pass}
use Rattle.extended.specs.Synchronization.{synchronization_of}
use Rattle.refusal.specs.declared.Refusal.{Refusal}
use Rattle.extended.specs.declared.synchronization.SynchronizationFields.{SynchronizationFields}
use Rattle.extended.proofs.synchronization.parse.Goals as goal

-- a layer by its two fields
abbrev layer : ℕ → ℕ → Result SynchronizationFields Refusal
layer sequence address = Ok (record { sequence_number = sequence; synchronization_address = address })

pub returns-then-p-length : goal.returns-then-p-length
unfolding synchronization_of
returns-then-p-length c = stop 0 _ _ _ (omega arith) c.refuse.ensures

pub returns-then-length-ne-E131_UNIVERSE_SYNC_PACKET_FRAMING_LAYER_LENGTH : goal.returns-then-length-ne-E131_UNIVERSE_SYNC_PACKET_FRAMING_LAYER_LENGTH
unfolding synchronization_of
returns-then-length-ne-E131_UNIVERSE_SYNC_PACKET_FRAMING_LAYER_LENGTH c = stop 1 _ _ _ (omega arith) c.refuse-then-length-ne-E131_UNIVERSE_SYNC_PACKET_FRAMING_LAYER_LENGTH.ensures

pub returns-then-synchronization_address-lt-E131_MIN_MULTICAST_UNIVERSE : goal.returns-then-synchronization_address-lt-E131_MIN_MULTICAST_UNIVERSE
unfolding synchronization_of
returns-then-synchronization_address-lt-E131_MIN_MULTICAST_UNIVERSE c = stop_value 2 _ _ _ (omega arith) c.refuse-then-synchronization_address-lt-E131_MIN_MULTICAST_UNIVERSE.ensures c.u16_at-synchronization_address.ensures

pub returns-then-synchronization_address-gt-E131_MAX_MULTICAST_UNIVERSE : goal.returns-then-synchronization_address-gt-E131_MAX_MULTICAST_UNIVERSE
unfolding synchronization_of
returns-then-synchronization_address-gt-E131_MAX_MULTICAST_UNIVERSE c = stop_value 2 _ _ _ (omega arith) c.refuse-then-synchronization_address-gt-E131_MAX_MULTICAST_UNIVERSE.ensures c.u16_at-synchronization_address.ensures

pub returns : goal.returns
unfolding synchronization_of
returns c = pass _ _ _ (omega arith) (ap₂ layer c.byte_at.ensures c.u16_at-synchronization_address.ensures)
