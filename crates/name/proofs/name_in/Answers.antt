use native.Mathlib.Omega.{arith}
use Rattle.refusal.proofs.Laws.{stop, pass}
use Rattle.name.specs.Name.{source_name_of}
use Rattle.name.proofs.Pass.{Tells, told}
use Rattle.name.proofs.name_in.Goals as goal

pub returns-then-field-text : goal.returns-then-field-text
unfolding source_name_of
returns-then-field-text c = let known : Tells c.args.field.now c.walk-text.result = told c.args.field.now c.walk-text.result c.walk-text.ensures in
    stop 0 _ _ _ (omega (arith, known)) c.refuse.ensures

pub malformed-requires : goal.malformed-requires
malformed-requires c = let known : Tells c.args.field.now c.walk-text.result = told c.args.field.now c.walk-text.result c.walk-text.ensures in
    omega (arith, known)

pub returns-then-text : goal.returns-then-text
unfolding source_name_of
returns-then-text c = let known : Tells c.args.field.now c.walk-text.result = told c.args.field.now c.walk-text.result c.walk-text.ensures in
    let t = known in
    stop 1 _ _ _ (omega (arith, t)) (rw (c.malformed.ensures, t.good))

pub returns : goal.returns
unfolding source_name_of
returns c = let known : Tells c.args.field.now c.walk-text.result = told c.args.field.now c.walk-text.result c.walk-text.ensures in
    let t = known in
    pass _ _ _ (omega (arith, t)) (rw t.ends)
