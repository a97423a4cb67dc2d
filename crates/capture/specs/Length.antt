-- The length in front of an entry: groups of seven bits, lowest first, top bit set when another follows; shortest form, at most two
-- groups, at most 8192.
use Rattle.std.specs.Prelude.{ℕ, ◌+◌, ◌*◌, ◌/◌, ◌%◌, List, [], ◌∷◌, length, Result, Ok, Err}
use Rattle.refusal.specs.Check.{Test, ◌≤?◌, ◌=?◌, ◌and◌, choose}
use Rattle.wire.specs.Fields.{byte_at}
use Rattle.capture.specs.declared.Length.{Length}
use Rattle.capture.specs.declared.Ending.{Ending}
use Rattle.capture.specs.declared.Ending.TheVariants.{End, Cut, Bad}

-- the bytes by which a capture writes a length
abbrev pub length_bytes : ℕ → List ℕ
length_bytes n = choose (n ≤? 0x7f) (n ∷ []) ((0x80 + n % 0x80) ∷ n / 0x80 ∷ [])

-- a length of two groups: a byte's top bit is no part of its group
abbrev pub two_groups : ℕ → ℕ → ℕ
two_groups low high = high % 0x80 * 0x80 + low % 0x80

-- a second group of zero is not the shortest form, and one with its top bit set asks for a third
abbrev pub Allowed : ℕ → ℕ → Test
Allowed low high = 1 ≤? high and high ≤? 0x7f and two_groups low high ≤? 8192

-- a length n that takes up k bytes
abbrev pub whole : ℕ → ℕ → Result Length Ending
whole n k = Ok (record { len = n; used = k })

abbrev pub second_group : ℕ → ℕ → Result Length Ending
second_group low high = choose (Allowed low high) (whole (two_groups low high) 2) (Err Bad)

unfoldable pub length_of : List ℕ → Result Length Ending
length_of s =
    choose (length s =? 0) (Err End)
    (choose (byte_at s 0 ≤? 0x7f) (whole (byte_at s 0) 1)
    (choose (length s =? 1) (Err Cut)
    (second_group (byte_at s 0) (byte_at s 1))))
