use native.Mathlib.Omega.{arith}
use Rattle.refusal.specs.Check.{dmp}
use Rattle.dmp.specs.Layer.{dmp_checks}
use Rattle.failed_check.proofs.Laws.{by_last, by_test}
use Rattle.failed_check.proofs.dmp_layer.missing.Goals as goal

pub returns-then-q-lt-FIRST_PROPERTY_FIELD_INDEX : goal.returns-then-q-lt-FIRST_PROPERTY_FIELD_INDEX
returns-then-q-lt-FIRST_PROPERTY_FIELD_INDEX c = by_test 13 dmp (dmp_checks c.args.q.now) c.args.refusal _ c.requires.0 c.requires.1 c.requires.2 0 (omega arith) c.at.ensures

pub returns-then-q-lt-ADDRESS_INCREMENT_FIELD_INDEX : goal.returns-then-q-lt-ADDRESS_INCREMENT_FIELD_INDEX
returns-then-q-lt-ADDRESS_INCREMENT_FIELD_INDEX c = by_test 13 dmp (dmp_checks c.args.q.now) c.args.refusal _ c.requires.0 c.requires.1 c.requires.2 1 (omega arith) c.at-then-q-lt-ADDRESS_INCREMENT_FIELD_INDEX.ensures

pub returns-then-q-lt-PROPERTY_VALUE_COUNT_FIELD_INDEX : goal.returns-then-q-lt-PROPERTY_VALUE_COUNT_FIELD_INDEX
returns-then-q-lt-PROPERTY_VALUE_COUNT_FIELD_INDEX c = by_test 13 dmp (dmp_checks c.args.q.now) c.args.refusal _ c.requires.0 c.requires.1 c.requires.2 2 (omega arith) c.at-then-q-lt-PROPERTY_VALUE_COUNT_FIELD_INDEX.ensures

pub returns : goal.returns
returns c =
    by_last 13 dmp (dmp_checks c.args.q.now) c.args.refusal _ c.requires.0 c.requires.1 c.requires.2
    (omega arith, (omega arith, (omega arith, c.at-2.ensures)))
