use mathlib.Core.Path.{refl}
use native.Mathlib.Omega.{arith}
use Rattle.refusal.specs.Check.{◌≤?◌}
use Rattle.refusal.proofs.Tests.{decide}
use Rattle.name.proofs.Choices.{first}
use Rattle.name.proofs.Laws.{lead_table}
use Rattle.name.proofs.utf8.lead.Goals as goal

pub returns-in-224 : goal.returns-in-224
unfolding lead_table
returns-in-224 c = first 2 (lead_table _) (omega arith) c.trail.ensures

pub returns-in-237 : goal.returns-in-237
unfolding lead_table
returns-in-237 c = first 5 (lead_table _) (omega arith) c.trail-in-237.ensures

pub returns-in-240 : goal.returns-in-240
unfolding lead_table
returns-in-240 c = first 6 (lead_table _) (omega arith) c.trail-in-240.ensures

pub returns-in-244 : goal.returns-in-244
unfolding lead_table
returns-in-244 c = first 8 (lead_table _) (omega arith) c.trail-in-244.ensures

pub returns-in-0-to-127 : goal.returns-in-0-to-127
unfolding lead_table
returns-in-0-to-127 c = first 0 (lead_table _) (omega arith) refl

pub returns-in-194-to-223 : goal.returns-in-194-to-223
unfolding lead_table
returns-in-194-to-223 c = first 1 (lead_table _) (omega arith) c.trail-in-194-to-223.ensures

pub returns-in-225-to-236 : goal.returns-in-225-to-236
unfolding lead_table
returns-in-225-to-236 c =
    decide (c.args.b ≤? 0xec)
    (λ h. first 3 (lead_table _) (omega arith) c.trail-in-225-to-236.ensures)
    (λ f. first 4 (lead_table _) (omega arith) c.trail-in-225-to-236.ensures)

pub returns-in-241-to-243 : goal.returns-in-241-to-243
unfolding lead_table
returns-in-241-to-243 c = first 7 (lead_table _) (omega arith) c.trail-in-241-to-243.ensures

pub returns-in_default : goal.returns-in_default
unfolding lead_table
returns-in_default c = first 9 (lead_table _) (omega arith) refl

pub returns-in_default-2 : goal.returns-in_default-2
unfolding lead_table
returns-in_default-2 c = first 9 (lead_table _) (omega arith) refl
