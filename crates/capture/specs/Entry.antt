-- The entry at the front of a capture. Input that stops inside the length or inside the bytes cuts it.
use Rattle.std.specs.Prelude.{ℕ, ◌+◌, List, length, Result, Ok, Err}
use Rattle.refusal.specs.Check.{◌≤?◌, choose}
use Rattle.capture.specs.Length.{length_of}
use Rattle.capture.specs.declared.Length.{Length}
use Rattle.capture.specs.declared.Entry.{Entry}
use Rattle.capture.specs.declared.Ending.{Ending}
use Rattle.capture.specs.declared.Ending.TheVariants.{Cut}

-- an entry of n bytes from k on
abbrev pub entry_at : ℕ → ℕ → Result Entry Ending
entry_at k n = Ok (record { start = k; len = n })

abbrev pub after_length : List ℕ → Result Length Ending → Result Entry Ending
after_length s (Ok x) = choose (x.used + x.len ≤? length s) (entry_at x.used x.len) (Err Cut)
after_length s (Err e) = Err e

unfoldable pub front_of : List ℕ → Result Entry Ending
front_of s = after_length s (length_of s)
