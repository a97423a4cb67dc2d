use Rattle.std.proofs.Common.{◌≡◌, drop}
use Rattle.name.specs.Utf8.{reach, whole_chars}
use Rattle.name.proofs.utf8.whole_characters.Given as goal

abbrev pub invariant-loop-i : goal.invariant-loop-i
invariant-loop-i l = reach l.expect l.whole l.i (drop l.i l.s) ≡ whole_chars l.s
