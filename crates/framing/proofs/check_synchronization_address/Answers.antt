use mathlib.Core.Path.{refl}
use native.Mathlib.Omega.{arith}
use Rattle.refusal.specs.Check.{checked_of}
use Rattle.refusal.proofs.Laws.{by_answer, stop, stop_value, pass}
use Rattle.pdu.specs.declared.Edition.{Edition}
use Rattle.pdu.specs.declared.Edition.TheVariants.{E2018, E2009}
use Rattle.framing.specs.Data.{sync_address_checks}
use Rattle.framing.proofs.check_synchronization_address.Goals as goal

pub returns-then-p-lt-SEQ_NUM_INDEX : goal.returns-then-p-lt-SEQ_NUM_INDEX
unfolding checked_of
returns-then-p-lt-SEQ_NUM_INDEX c = let a = c.args in
    by_answer (λ (e : Edition). checked_of (sync_address_checks e a.p.now)) a.edition E2018 c.in-E2018.is
    (stop 0 _ _ _ (omega arith) c.refuse.ensures)

pub returns-then-address-gt-E131_MAX_MULTICAST_UNIVERSE : goal.returns-then-address-gt-E131_MAX_MULTICAST_UNIVERSE
unfolding checked_of
returns-then-address-gt-E131_MAX_MULTICAST_UNIVERSE c = let a = c.args in
    by_answer (λ (e : Edition). checked_of (sync_address_checks e a.p.now)) a.edition E2018 c.in-E2018.is
    (stop_value 1 _ _ _ (omega arith) c.refuse-then-address-gt-E131_MAX_MULTICAST_UNIVERSE.ensures c.u16_at-address.ensures)

pub returns-in-E2009 : goal.returns-in-E2009
unfolding checked_of
returns-in-E2009 c = let a = c.args in
    by_answer (λ (e : Edition). checked_of (sync_address_checks e a.p.now)) a.edition E2009 c.in-E2009.is (pass _ _ _ tt refl)

pub returns-else-address-gt-E131_MAX_MULTICAST_UNIVERSE : goal.returns-else-address-gt-E131_MAX_MULTICAST_UNIVERSE
unfolding checked_of
returns-else-address-gt-E131_MAX_MULTICAST_UNIVERSE c = let a = c.args in
    by_answer (λ (e : Edition). checked_of (sync_address_checks e a.p.now)) a.edition E2018 c.in-E2018.is (pass _ _ _ (omega arith) refl)
