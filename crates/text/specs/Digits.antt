-- Words, numbers and bytes as text, in ASCII.
use Rattle.std.specs.Prelude.{ℕ, zero, suc, ◌+◌, ◌/◌, ◌%◌, List, [], ◌∷◌, ◌++◌}
use Prim.Native.Char.{code}
use Prim.Native.String.{String, [] as ended, ◌∷◌ as ◌then◌}
use Rattle.refusal.specs.Check.{◌≤?◌, choose}

abbrev pub ascii : String → List ℕ
ascii ended = []
ascii (c then s) = code c ∷ ascii s

-- the last digits of a number, at most k
unfoldable pub last_digits : ℕ → ℕ → List ℕ
last_digits zero n = []
last_digits (suc k) n = choose (n ≤? 9) ((0x30 + n) ∷ []) (last_digits k (n / 10) ++ ((0x30 + n % 10) ∷ []))

-- all digits, the most significant first: a number has at most as many as itself and one more
unfoldable pub decimal : ℕ → List ℕ
decimal n = last_digits (suc n) n

-- `0` to `9`, then `a` to `f`
abbrev pub hex_digit : ℕ → ℕ
hex_digit d = choose (d ≤? 9) (0x30 + d) (0x57 + d)

abbrev pub hex_byte : ℕ → List ℕ
hex_byte b = hex_digit (b / 16) ∷ hex_digit (b % 16) ∷ []

unfoldable pub hex_bytes : List ℕ → List ℕ
hex_bytes [] = []
hex_bytes (b ∷ bs) = hex_byte b ++ hex_bytes bs

-- `-` where there are no bytes
unfoldable pub hex : List ℕ → List ℕ
hex [] = ascii "-"
hex (b ∷ bs) = hex_bytes (b ∷ bs)
