-- What the system answers: the values that this crate alone can make, each from the one before it, and what each says.
use Rattle.std.specs.Prelude.{ℕ, ◌+◌, ◌-◌, ◌%◌, ◌<◌, ◌≤◌, Bool, true, false, Result, Ok, Err}
use Rattle.refusal.specs.Check.{◌=?◌, choose}
use Rattle.standard_io.specs.declared.Said.{Said}
use Rattle.standard_io.specs.declared.Said.TheVariants.{Nothing, Bytes, End, Error}
use Rattle.standard_io.specs.declared.Heard.{Heard}
use Rattle.standard_io.specs.declared.Wrote.{Wrote}

-- a count of bytes and more of them, in the 64 bits that the code has for it
abbrev pub counted : ℕ → ℕ → ℕ
counted total more = (total + more) % 0x1_0000_0000_0000_0000

-- how many bytes of the block are there, of which n were before the read
abbrev pub reached_by : Said → ℕ → ℕ
reached_by Nothing n = n
reached_by (Bytes m) n = m
reached_by End n = n
reached_by Error n = n

abbrev pub is_error : Said → Bool
is_error Nothing = false
is_error (Bytes m) = false
is_error End = false
is_error Error = true

-- before any read; where none is made; after one behind the first n bytes
abbrev pub nothing_heard : Heard
nothing_heard = record { said = Nothing; total = 0 }

abbrev pub quiet_after : Heard → Heard
quiet_after h = record { said = Nothing; total = counted h.total 0 }

abbrev pub heard_after : Heard → Said → ℕ → Heard
heard_after h said n = record { said = said; total = counted h.total (reached_by said n - n) }

-- before any text; where it stays in its buffer
abbrev pub nothing_written : Wrote
nothing_written = record { all = true; total = 0 }

abbrev pub kept_after : Wrote → Wrote
kept_after w = record { all = w.all; total = counted w.total 0 }

-- what a read's answer says, where it moved `count` bytes behind the first n: no bytes are the end
abbrev pub said_of : {E : Type 0} → Result ℕ E → ℕ → Said
said_of (Ok count) n = choose (count =? 0) End (Bytes (n + count))
said_of (Err e) n = Error

-- one read: some bytes behind the first n, within the block; or the end, where a byte was asked for
abbrev pub Arrived : ℕ → ℕ → Said → Type 0
Arrived n room Nothing = ⊥
Arrived n room (Bytes m) = (n < m) × (m ≤ room)
Arrived n room End = n < room
Arrived n room Error = Unit {0}
