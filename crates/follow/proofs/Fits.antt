-- How long the program's lines can be. Assumes nothing.
use Rattle.std.proofs.Common.{ℕ, ◌+◌, ◌≤◌, ◌<◌, List, length, length-append, arith}
use Rattle.text.specs.Digits.{decimal}
use Rattle.text.proofs.Decimals.{digits}
use Rattle.follow_rules.specs.declared.Totals.{Totals}
use Rattle.follow.specs.Lines.{word_line, totals_line}

pub word_fits : (n : ℕ) (word : List ℕ) → n < 0x1_0000_0000_0000_0000 → length (word_line n word) ≤ 20 + length word
word_fits n word h = omega (arith, digits n h, length-append (decimal n) word)

pub totals_fit : (t : Totals) → t.accepted < 0x1_0000_0000_0000_0000 → t.discarded < 0x1_0000_0000_0000_0000 → t.room_refused < 0x1_0000_0000_0000_0000 →
    length (totals_line t) ≤ 200
unfolding totals_line
totals_fit t a d r = simp length-append (omega (arith, digits t.accepted a, digits t.discarded d, digits t.room_refused r))
