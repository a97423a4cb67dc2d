-- Eight bytes as one number, the first byte lowest. No answer is defined by it: it says what a loop has taken, and how far it may skip.
use Rattle.std.specs.Prelude.{ℕ, zero, suc, ◌+◌, ◌*◌, ◌/◌, ◌%◌, ◌≤◌, List, [], ◌∷◌}
use Rattle.refusal.specs.Check.{◌=?◌, choose}

-- the bytes of a list in one number
unfoldable pub word_of : List ℕ → ℕ
word_of [] = 0
word_of (b ∷ s) = word_of s * 0x100 + b

-- the n lowest bytes of a word are at most 7f each
unfoldable pub Ascii : ℕ → ℕ → Type 0
Ascii zero word = Unit {0}
Ascii (suc n) word = (word % 0x100 ≤ 0x7f) × Ascii n (word / 0x100)

-- how many of them stand before the first zero, or all
unfoldable pub zero_in : ℕ → ℕ → ℕ
zero_in zero word = 0
zero_in (suc n) word = choose (word % 0x100 =? 0) 0 (suc (zero_in n (word / 0x100)))
