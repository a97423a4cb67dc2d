use Rattle.std.proofs.Common.{sym, drop, arith}
use Rattle.name_pattern.proofs.Steps as steps
use Rattle.name_pattern.proofs.+literal_rest_star.Goals as goal

pub literal-returns-then-c-eq-STAR : goal.literal-returns-then-c-eq-STAR
literal-returns-then-c-eq-STAR t c =
    let p = c.args.pattern.now in
    let n = c.args.name.now in
    steps.says c.verdict.result p n (sym c.verdict.ensures) (steps.star_says c.star.result p n (omega arith) (omega arith) (rw (steps.tail_part p) at c.star.ensures))

pub literal-returns-then-c-eq-QUESTION : goal.literal-returns-then-c-eq-QUESTION
literal-returns-then-c-eq-QUESTION t c =
    let p = c.args.pattern.now in
    let n = c.args.name.now in
    steps.question_says c.rest.result p n (omega arith) (omega arith) (omega arith) c.if-inside.ensures
    (rw (steps.tail_part p, steps.tail_part n) at c.rest.ensures)

pub literal-returns : goal.literal-returns
literal-returns t c =
    let p = c.args.pattern.now in
    let n = c.args.name.now in
    steps.byte_says c.literal.result p n (omega arith) (omega arith) (omega arith) (omega arith)
    (rw (steps.tail_part p, steps.tail_part n) at c.literal.ensures)

pub rest-returns-then-inside : goal.rest-returns-then-inside
rest-returns-then-inside t c =
    let n = c.args.name.now in
    rw (steps.beyond_on n c.if-inside.ensures) (rw (steps.tail_part n) at c.rest.ensures)

pub rest-returns : goal.rest-returns
rest-returns t c = rw (steps.beyond_here c.args.name.now c.if-inside.ensures) c.literal.ensures

pub star-returns-in-Taken : goal.star-returns-in-Taken
star-returns-in-Taken t c =
    let p = c.args.pattern.now in
    let n = c.args.name.now in
    let from = c.loop-from.from in
    let said = rw (steps.part_from from n) at c.in-Taken.ensures in
    steps.star_from p n from (steps.star_here p (drop from n) said)

pub star-loop-from-preserved : goal.star-loop-from-preserved
star-loop-from-preserved t c =
    let p = c.args.pattern.now in
    let n = c.args.name.now in
    let from = c.loop-from.from in
    let said = rw (steps.part_from from n) at c.in-NotHere.ensures in
    steps.not_from_here p n from said c.loop-from.invariant
