-- Numbers and runs of bytes at a place of a list of bytes. A byte past the end counts as zero.
use Rattle.std.specs.Prelude.{ℕ, ◌+◌, ◌*◌, ◌/◌, ◌%◌, List, [], ◌∷◌, ◌++◌, get_or, length, take, drop}
use Rattle.refusal.specs.Check.{choose, ◌≤?◌}

abbrev pub byte_at : List ℕ → ℕ → ℕ
byte_at s at = get_or s at 0

-- big-endian: the high byte, or half, comes first
unfoldable pub u16_at : List ℕ → ℕ → ℕ
u16_at s at = byte_at s at * 0x100 + byte_at s (at + 1)

unfoldable pub u32_at : List ℕ → ℕ → ℕ
u32_at s at = u16_at s at * 0x10000 + u16_at s (at + 2)

-- the len bytes from start on, or no bytes where they run past the end
unfoldable pub part_of : List ℕ → ℕ → ℕ → List ℕ
part_of s start len = choose (start + len ≤? length s) (take len (drop start s)) []

-- a number's bytes
abbrev pub be16 : ℕ → List ℕ
be16 n = n / 0x100 % 0x100 ∷ n % 0x100 ∷ []

abbrev pub be32 : ℕ → List ℕ
be32 n = be16 (n / 0x10000) ++ be16 (n % 0x10000)

-- segments, one after the other
abbrev pub join : List (List ℕ) → List ℕ
join [] = []
join (s ∷ ss) = s ++ join ss
