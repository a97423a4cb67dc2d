-- Lists whose elements are bytes, or numbers of 16 bits.
use Rattle.std.specs.Prelude.{ℕ, ◌<◌, List, get_or}

abbrev pub Bytes : List ℕ → Type 0
Bytes l = (i : ℕ) → get_or l i 0 < 0x100

abbrev pub Words : List ℕ → Type 0
Words l = (i : ℕ) → get_or l i 0 < 0x10000
