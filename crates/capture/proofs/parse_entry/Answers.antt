use Rattle.std.proofs.Common.{refl, sym, arith, Ok}
use Rattle.std.proofs.lemmas.Result.{err_from_is_err_and}
use Rattle.refusal.proofs.Tests.{chosen, passed_over}
use Rattle.refusal.proofs.Laws.{by_answer}
use Rattle.capture.specs.Length.{length_of}
use Rattle.capture.specs.Entry.{after_length, front_of}
use Rattle.capture.proofs.Laws.{only_form}
use Rattle.capture.proofs.parse_entry.Goals as goal

pub returns-in_err-len : goal.returns-in_err-len
unfolding front_of
returns-in_err-len c = let p = err_from_is_err_and c.from_residual.result c.from_residual.ensures.1 in
    rw (p.1, p.2) (by_answer (after_length c.args.s.now) (length_of c.args.s.now) _ (sym c.in_err-len.ensures) refl)

pub overflow_sub-s : goal.overflow_sub-s
overflow_sub-s c = let x = c.in_ok-len.field-0 in
    omega (arith, only_form c.args.s.now x.len x.used (sym c.in_ok-len.ensures))

pub returns-then-s-used : goal.returns-then-s-used
unfolding front_of
returns-then-s-used c = let x = c.in_ok-len.field-0 in
    by_answer (after_length c.args.s.now) (length_of c.args.s.now) (Ok x) (sym c.in_ok-len.ensures) (passed_over _ _ _ (omega arith) refl)

pub returns : goal.returns
unfolding front_of
returns c = let x = c.in_ok-len.field-0 in
    let w = only_form c.args.s.now x.len x.used (sym c.in_ok-len.ensures) in
    by_answer (after_length c.args.s.now) (length_of c.args.s.now) (Ok x) (sym c.in_ok-len.ensures) (chosen _ _ _ (omega arith) refl)
