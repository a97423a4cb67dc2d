use mathlib.Core.Path.{refl}
use native.Mathlib.Omega.{arith}
use Rattle.refusal.specs.Check.{checked_of}
use Rattle.refusal.proofs.Laws.{stop, pass}
use Rattle.root.proofs.check_preamble.Goals as goal

pub returns-then-datagram-lt-PREAMBLE_LENGTH : goal.returns-then-datagram-lt-PREAMBLE_LENGTH
unfolding checked_of
returns-then-datagram-lt-PREAMBLE_LENGTH c = stop 0 _ _ _ (omega arith) c.refuse_preamble.ensures

pub returns-then-u16_at-ne-E131_PREAMBLE_SIZE : goal.returns-then-u16_at-ne-E131_PREAMBLE_SIZE
unfolding checked_of
returns-then-u16_at-ne-E131_PREAMBLE_SIZE c = stop 1 _ _ _ (omega arith) c.refuse_preamble-then-u16_at-ne-E131_PREAMBLE_SIZE.ensures

pub returns-then-u16_at-ne-E131_POSTAMBLE_SIZE : goal.returns-then-u16_at-ne-E131_POSTAMBLE_SIZE
unfolding checked_of
returns-then-u16_at-ne-E131_POSTAMBLE_SIZE c = stop 2 _ _ _ (omega arith) c.refuse_preamble-then-u16_at-ne-E131_POSTAMBLE_SIZE.ensures

pub returns-then-u32_at-ne-ACN_PACKET_IDENTIFIER_START : goal.returns-then-u32_at-ne-ACN_PACKET_IDENTIFIER_START
unfolding checked_of
returns-then-u32_at-ne-ACN_PACKET_IDENTIFIER_START c = stop 3 _ _ _ (omega arith) c.refuse_preamble-then-u32_at-ne-ACN_PACKET_IDENTIFIER_START.ensures

pub returns-then-u32_at-ne-ACN_PACKET_IDENTIFIER_MIDDLE : goal.returns-then-u32_at-ne-ACN_PACKET_IDENTIFIER_MIDDLE
unfolding checked_of
returns-then-u32_at-ne-ACN_PACKET_IDENTIFIER_MIDDLE c = stop 3 _ _ _ (omega arith) c.refuse_preamble-then-u32_at-ne-ACN_PACKET_IDENTIFIER_MIDDLE.ensures

pub returns-then-u32_at-ne-ACN_PACKET_IDENTIFIER_END : goal.returns-then-u32_at-ne-ACN_PACKET_IDENTIFIER_END
unfolding checked_of
returns-then-u32_at-ne-ACN_PACKET_IDENTIFIER_END c = stop 3 _ _ _ (omega arith) c.refuse_preamble-then-u32_at-ne-ACN_PACKET_IDENTIFIER_END.ensures

pub returns : goal.returns
unfolding checked_of
returns c = pass _ _ _ (omega arith) refl
