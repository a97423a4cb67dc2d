use mathlib.Core.Path.{refl}
use native.Mathlib.Omega.{arith}
use Rattle.refusal.proofs.Laws.{stop, pass}
use Rattle.refusal.specs.Check.{checked_of}
use Rattle.name_pattern.proofs.check_pattern.Goals as goal

pub returns-then-pattern-gt-LONGEST_PATTERN : goal.returns-then-pattern-gt-LONGEST_PATTERN
unfolding checked_of
returns-then-pattern-gt-LONGEST_PATTERN c = stop 0 _ _ _ (omega arith) (cc)

pub returns-then-whole_characters-pattern : goal.returns-then-whole_characters-pattern
unfolding checked_of
returns-then-whole_characters-pattern c = stop 1 _ _ _ (omega arith) (cc)

pub returns : goal.returns
unfolding checked_of
returns c = pass _ _ _ (omega arith) refl
