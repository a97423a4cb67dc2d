use native.Mathlib.Omega.{arith}
use Rattle.refusal.proofs.Laws.{stop, pass}
use Rattle.pdu.specs.Head.{info_of}
use Rattle.pdu.proofs.Head.{size_small}
use Rattle.pdu.proofs.pdu_info.Goals as goal

pub overflow_add-size_of : goal.overflow_add-size_of
overflow_add-size_of c = omega (arith, size_small c.args.n, c.size_of.ensures)

pub returns-then-p-size_of : goal.returns-then-p-size_of
unfolding info_of
returns-then-p-size_of c = stop 0 _ _ _ (omega arith) c.refuse.ensures

pub returns-then-flags-ne-E131_PDU_FLAGS : goal.returns-then-flags-ne-E131_PDU_FLAGS
unfolding info_of
returns-then-flags-ne-E131_PDU_FLAGS c = stop 1 _ _ _ (omega arith) (cc)

pub returns : goal.returns
unfolding info_of
returns c = pass _ _ _ (omega arith) (cc)
