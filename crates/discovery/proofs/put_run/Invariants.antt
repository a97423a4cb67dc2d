use Rattle.std.proofs.Common.{◌≡◌, take}
use Rattle.std.proofs.lemmas.List.Edits.{sets}
use Rattle.discovery.specs.Universes.{universe_bytes}
use Rattle.discovery.proofs.put_run.Given as goal

abbrev pub invariant-loop-i : goal.invariant-loop-i
invariant-loop-i l = l.buf ≡ sets l.initial.buf 0 (universe_bytes (take l.i l.universes))
