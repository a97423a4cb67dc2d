use Rattle.std.proofs.Common.{◌+◌, ◌-◌, ◌≤◌, ◌≡◌, take, drop}
use Rattle.name.specs.Words.{word_of}
use Rattle.name.proofs.Pass.{Stands}
use Rattle.name.proofs.walk.walk.Given as goal

-- the word has what is left of the eight bytes that were taken
abbrev pub invariant-loop-word : goal.invariant-loop-word
invariant-loop-word l = Stands l.s l.expect l.whole l.end × (l.end ≤ l.at + 8) × (l.word ≡ word_of (take (l.at + 8 - l.end) (drop l.end l.s)))

abbrev pub decreases-loop-word : goal.decreases-loop-word
decreases-loop-word l = l.word

abbrev pub invariant-loop-at : goal.invariant-loop-at
invariant-loop-at l = Stands l.s l.expect l.whole l.at
