-- Option bits. Assumes nothing.
use Prim.Native.Nat.{ℕ, ◌≤◌}
use mathlib.Core.Bool.{Bool, true, false}
use native.Mathlib.Omega.{arith}
use Rattle.framing.specs.Bytes.{bit_of}

-- an option's bit is no larger than its mask
pub bit_le : (set : Bool) (mask : ℕ) → bit_of set mask ≤ mask
bit_le true mask = omega arith
bit_le false mask = omega arith
