-- What is taken from a list of bytes, or of numbers of 16 bits: its parts are such lists, and its fields are as small as their bytes make them.
-- Assumes nothing.
use Prim.Native.Nat.{ℕ, zero, suc, ◌+◌, ◌<◌}
use mathlib.Core.List.{List, [], ◌∷◌}
use native.Mathlib.Omega.{arith}
use lib.ListN.{take, drop, get_or}
use lib.Seq.{get_or-drop}
use Rattle.wire.specs.Fields.{u16_at, u32_at}
use Rattle.wire.specs.Bytes.{Bytes, Words}

-- numbers below a bound: the rest of them, and their front
below_drop : (bound n : ℕ) (l : List ℕ) → ((i : ℕ) → get_or l i 0 < bound) → (i : ℕ) → get_or (drop n l) i 0 < bound
below_drop bound n l b i = rw get_or-drop (b (n + i))

below_take : (bound n : ℕ) (l : List ℕ) → 0 < bound → ((i : ℕ) → get_or l i 0 < bound) → (i : ℕ) → get_or (take n l) i 0 < bound
below_take bound zero l h b i = omega arith
below_take bound (suc n) [] h b i = omega arith
below_take bound (suc n) (x ∷ l) h b zero = b 0
below_take bound (suc n) (x ∷ l) h b (suc i) = below_take bound n l h (λ j. b (suc j)) i

-- of bytes
pub bytes_drop : (n : ℕ) (l : List ℕ) → Bytes l → Bytes (drop n l)
bytes_drop n l b = below_drop 0x100 n l b

pub bytes_take : (n : ℕ) (l : List ℕ) → Bytes l → Bytes (take n l)
bytes_take n l b = below_take 0x100 n l (omega arith) b

-- of numbers of 16 bits
pub words_drop : (n : ℕ) (l : List ℕ) → Words l → Words (drop n l)
words_drop n l w = below_drop 0x10000 n l w

pub words_take : (n : ℕ) (l : List ℕ) → Words l → Words (take n l)
words_take n l w = below_take 0x10000 n l (omega arith) w

-- a field of two bytes has 16 bits
pub u16_small : (s : List ℕ) (at : ℕ) → Bytes s → u16_at s at < 0x10000
unfolding u16_at
u16_small s at b = omega (arith, b at, b (at + 1))

-- a field of four bytes has 32 bits
pub u32_small : (s : List ℕ) (at : ℕ) → Bytes s → u32_at s at < 0x1_0000_0000
unfolding u32_at
u32_small s at b = omega (arith, u16_small s at b, u16_small s (at + 2) b)
