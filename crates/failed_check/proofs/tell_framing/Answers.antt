use Prim.Native.Nat.{ℕ}
use mathlib.Core.List.{List}
use mathlib.Core.Path.{◌≡◌, refl, sym, ap, ◌∙◌}
use Rattle.refusal.specs.Check.{◌=?◌}
use Rattle.refusal.proofs.Tests.{Holds, Fails, chosen, passed_over}
use Rattle.framing.specs.Data.{data_checks}
use Rattle.extended.specs.Extended.{extended_checks}
use Rattle.pdu.specs.declared.Edition.{Edition}
use Rattle.pdu.specs.declared.Edition.TheVariants.{E2018, E2009}
use Rattle.failed_check.specs.Tell.{told_by, framed_checks}
use Rattle.failed_check.proofs.tell_framing.Goals as goal

module _ (vector whole : ℕ) (p : List ℕ) where
  of-data : Holds (vector =? 4) → told_by (data_checks E2018 p) ≡ told_by (framed_checks E2018 vector whole p)
  of-data h = ap told_by (chosen (vector =? 4) (data_checks E2018 p) (extended_checks whole p) h refl)

  of-extended : Fails (vector =? 4) → told_by (extended_checks whole p) ≡ told_by (framed_checks E2018 vector whole p)
  of-extended h = ap told_by (passed_over (vector =? 4) (data_checks E2018 p) (extended_checks whole p) h refl)

  -- of an edition that is known
  of-edition : (edition known : Edition) → edition ≡ known → told_by (framed_checks known vector whole p) ≡ told_by (framed_checks edition vector whole p)
  of-edition edition known e = ap (λ (k : Edition). told_by (framed_checks k vector whole p)) (sym e)

pub returns-in-E2009 : goal.returns-in-E2009
returns-in-E2009 c = c.tell_data.ensures ∙ of-edition c.args.vector c.args.whole c.args.p.now c.args.edition E2009 c.in-E2009.is

pub returns-then-vector-eq-VECTOR_ROOT_E131_DATA : goal.returns-then-vector-eq-VECTOR_ROOT_E131_DATA
returns-then-vector-eq-VECTOR_ROOT_E131_DATA c =
    c.tell_data-then-vector-eq-VECTOR_ROOT_E131_DATA.ensures
    ∙ of-data c.args.vector c.args.whole c.args.p.now c.if-vector-eq-VECTOR_ROOT_E131_DATA.true
    ∙ of-edition c.args.vector c.args.whole c.args.p.now c.args.edition E2018 c.in-E2018.is

pub returns-else-vector-eq-VECTOR_ROOT_E131_DATA : goal.returns-else-vector-eq-VECTOR_ROOT_E131_DATA
returns-else-vector-eq-VECTOR_ROOT_E131_DATA c =
    c.tell_extended.ensures
    ∙ of-extended c.args.vector c.args.whole c.args.p.now c.if-vector-eq-VECTOR_ROOT_E131_DATA.false
    ∙ of-edition c.args.vector c.args.whole c.args.p.now c.args.edition E2018 c.in-E2018.is
