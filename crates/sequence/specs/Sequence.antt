-- Sequence numbers of eight bits: their difference, and which number is late after another (E1.31-2018, section 6.7.2).
use Rattle.std.specs.Prelude.{ℕ, ◌+◌, ◌-◌, ◌%◌, Bool, false, ℤ, pos, negsuc, int_le, int_lt, nat_lt}
use Rattle.refusal.specs.Check.{pick}

-- the new number minus the last, in eight bits, wrapping
abbrev pub difference_of : ℕ → ℕ → ℕ
difference_of new last = (new + (256 - last)) % 256

-- eight bits, read as signed: below 128 as they are, and from there on 255 is -1 and 128 is -128
abbrev pub signed_of : ℕ → ℤ
signed_of b = pick (nat_lt b 128) (pos b) (negsuc (255 - b))

-- at most 0, and above -20
abbrev pub late_by : ℤ → Bool
late_by z = pick (int_le z (pos 0)) (int_lt (negsuc 19) z) false

unfoldable pub late_of : ℕ → ℕ → Bool
late_of new last = late_by (signed_of (difference_of new last))
