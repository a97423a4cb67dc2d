use mathlib.Core.Path.{sym, ap, ◌∙◌}
use Rattle.failed_check.specs.Tell.{missed_behind_priority}
use Rattle.failed_check.proofs.data_framing.behind_priority.Goals as goal

pub returns-in-E2018 : goal.returns-in-E2018
returns-in-E2018 c = c.at.ensures ∙ sym (ap missed_behind_priority c.in-E2018.is)

pub returns-in-E2009 : goal.returns-in-E2009
returns-in-E2009 c = c.at-in-E2009.ensures ∙ sym (ap missed_behind_priority c.in-E2009.is)
