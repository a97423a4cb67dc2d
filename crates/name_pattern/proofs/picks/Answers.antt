use Rattle.std.proofs.Common.{sym, ◌∙◌, arith}
use Rattle.name_pattern.specs.declared.Outcome.TheVariants.{Taken}
use Rattle.name_pattern.proofs.Steps.{says, not_taken}
use Rattle.name_pattern.proofs.Answers.{not_asked, refused, allowed, picked, not_picked}
use Rattle.name_pattern.proofs.picks.Goals.{then-is_err-via-then-is_err, then-is_err-via-else-is_err+then-whole_characters-name}
use Rattle.name_pattern.proofs.picks.Goals as goal

pub returns-in-Taken : goal.returns-in-Taken
returns-in-Taken c =
    let h = allowed _ c.check_pattern.ensures (sym c.is_err.ensures.value ∙ c.if-is_err.false) in
    picked _ _ (h.0, (h.1.0, omega arith)) (says Taken _ _ c.in-Taken.is c.literal.ensures)

pub returns-in_default : goal.returns-in_default
returns-in_default c =
    let h = allowed _ c.check_pattern.ensures (sym c.is_err.ensures.value ∙ c.if-is_err.false) in
    not_picked _ _ (h.0, (h.1.0, omega arith)) (not_taken c.literal.result _ _ c.in_default.not-Taken c.literal.ensures)

pub returns-then-is_err : goal.returns-then-is_err
returns-then-is_err c = elim c.then-is_err.branch [
  | then-is_err-via-then-is_err w ↦ refused _ _ c.check_pattern.ensures (sym c.is_err.ensures.value ∙ w.if-is_err.true)
  | then-is_err-via-else-is_err+then-whole_characters-name w ↦ not_asked _ _ (omega arith)
]
