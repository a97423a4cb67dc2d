use Rattle.std.proofs.Common.{◌≡◌, take}
use Rattle.std.proofs.lemmas.List.Edits.{sets}
use Rattle.text.specs.Digits.{hex_bytes}
use Rattle.text.proofs.Text.put_hex.Given as goal

abbrev pub invariant-loop-i : goal.invariant-loop-i
invariant-loop-i l = l.self ≡ record l.initial.self { bytes = record l.initial.self.bytes { now = sets l.initial.self.bytes.now l.initial.self.len (hex_bytes (take l.i l.s)) } }
