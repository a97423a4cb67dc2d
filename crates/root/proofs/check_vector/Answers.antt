use Prim.Native.Nat.{ℕ}
use mathlib.Core.Path.{◌≡◌, refl, ap}
use native.Mathlib.Omega.{arith}
use Rattle.refusal.specs.Check.{checked_of}
use Rattle.std.specs.Prelude.{Ok}
use Rattle.refusal.proofs.Laws.{stop, pass, by_answer}
use Rattle.pdu.specs.declared.Edition.{Edition}
use Rattle.pdu.specs.declared.Edition.TheVariants.{E2018, E2009}
use Rattle.root.specs.Root.{vector_checks}
use Rattle.root.proofs.check_vector.Goals as goal

-- 4 is a vector of both editions
any-edition : (edition : Edition) (vec : ℕ) → vec ≡ 4 → Ok tt ≡ checked_of (vector_checks edition vec)
unfolding checked_of
any-edition E2018 vec e = pass _ _ _ (omega arith) refl
any-edition E2009 vec e = pass _ _ _ (omega arith) refl

pub returns-then-vector-eq-VECTOR_ROOT_E131_DATA : goal.returns-then-vector-eq-VECTOR_ROOT_E131_DATA
returns-then-vector-eq-VECTOR_ROOT_E131_DATA c = any-edition c.args.edition c.args.vector c.if-vector-eq-VECTOR_ROOT_E131_DATA.true

pub returns-then-vector-eq-VECTOR_ROOT_E131_EXTENDED : goal.returns-then-vector-eq-VECTOR_ROOT_E131_EXTENDED
unfolding checked_of
returns-then-vector-eq-VECTOR_ROOT_E131_EXTENDED c = let a = c.args in
    by_answer (λ (e : Edition). checked_of (vector_checks e a.vector)) a.edition E2018 c.in-E2018.is (pass _ _ _ (omega arith) refl)

pub returns-in-E2009 : goal.returns-in-E2009
unfolding checked_of
returns-in-E2009 c = let a = c.args in
    by_answer (λ (e : Edition). checked_of (vector_checks e a.vector)) a.edition E2009 c.in-E2009.is
    (stop 0 _ _ _ (omega arith) c.refuse-refused.ensures)

pub returns-else-vector-eq-VECTOR_ROOT_E131_EXTENDED : goal.returns-else-vector-eq-VECTOR_ROOT_E131_EXTENDED
unfolding checked_of
returns-else-vector-eq-VECTOR_ROOT_E131_EXTENDED c = let a = c.args in
    by_answer (λ (e : Edition). checked_of (vector_checks e a.vector)) a.edition E2018 c.in-E2018.is
    (stop 0 _ _ _ (omega arith) c.refuse-refused.ensures)
