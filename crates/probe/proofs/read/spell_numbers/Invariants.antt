use Rattle.std.proofs.Common.{◌≡◌, take}
use Rattle.std.proofs.lemmas.List.Edits.{sets}
use Rattle.discovery.specs.Universes.{universe_bytes}
use Rattle.probe.proofs.read.spell_numbers.Given as goal

abbrev pub invariant-loop-i : goal.invariant-loop-i
invariant-loop-i l = l.bytes ≡ sets l.initial.bytes 0 (universe_bytes (take l.i l.numbers))
