use mathlib.Core.Path.{refl, ◌∙◌}
use native.Mathlib.Omega.{arith}
use Rattle.refusal.proofs.Laws.{stop, pass}
use Rattle.parts.proofs.copy_listed.Goals as goal

pub returns-then-out-count : goal.returns-then-out-count
returns-then-out-count c = rw c.refuse_copy.ensures (record { answer = stop 0 _ _ _ (omega arith) refl; filled = refl })

pub returns : goal.returns
returns c = record { answer = pass _ _ _ (omega arith) refl; filled = c.copy_universes.ensures ∙ rw c.shown.ensures }
