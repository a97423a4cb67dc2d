use mathlib.Core.Path.{refl}
use native.Mathlib.Omega.{arith}
use Rattle.refusal.proofs.Laws.{stop, pass}
use Rattle.refusal.specs.Check.{checked_of}
use Rattle.name.proofs.Pass.{Tells, told, told_all}
use Rattle.name.proofs.check_source_name.Goals as goal

pub returns-then-name-ge-E131_SOURCE_NAME_FIELD_LENGTH : goal.returns-then-name-ge-E131_SOURCE_NAME_FIELD_LENGTH
unfolding checked_of
returns-then-name-ge-E131_SOURCE_NAME_FIELD_LENGTH c = stop 0 _ _ _ (omega arith) c.refuse.ensures

pub returns-then-text-name : goal.returns-then-text-name
unfolding checked_of
returns-then-text-name c = let known : Tells c.args.name.now c.walk-text.result = told c.args.name.now c.walk-text.result c.walk-text.ensures in
    stop 1 _ _ _ (omega (arith, known)) c.refuse-then-text-name.ensures

pub malformed-requires : goal.malformed-requires
malformed-requires c = let known : Tells c.args.name.now c.walk-text.result = told c.args.name.now c.walk-text.result c.walk-text.ensures in
    omega (arith, known)

pub returns-then-text : goal.returns-then-text
unfolding checked_of
returns-then-text c = let known : Tells c.args.name.now c.walk-text.result = told c.args.name.now c.walk-text.result c.walk-text.ensures in
    let whole = told_all c.args.name.now c.walk-text.result c.walk-text.ensures (omega arith) in
    stop 2 _ _ _ (omega (arith, known, whole)) (rw (c.malformed.ensures, whole))

pub returns : goal.returns
unfolding checked_of
returns c = let known : Tells c.args.name.now c.walk-text.result = told c.args.name.now c.walk-text.result c.walk-text.ensures in
    let whole = told_all c.args.name.now c.walk-text.result c.walk-text.ensures (omega arith) in
    pass _ _ _ (omega (arith, known, whole)) refl
