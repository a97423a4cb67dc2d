-- Entries taken from input that arrives in pieces: which bytes arrive is the system's, and all else is said of any that do.
use Rattle.std.specs.Prelude.{ℕ, ◌+◌, ◌≡◌, Bool, true, false, List, [], ◌++◌, length, take, drop, Result, Ok, Err}
use Rattle.std.proofs.lemmas.List.Edits.{sets}
use Rattle.wire.specs.Fields.{part_of}
use Rattle.capture.specs.Entry.{entry_at, front_of}
use Rattle.capture.specs.declared.Entry.{Entry}
use Rattle.capture.specs.declared.Ending.{Ending}
use Rattle.capture.specs.declared.Ending.TheVariants.{End, Cut, Bad}
use Rattle.standard_io.specs.System.{counted, nothing_heard}
use Rattle.standard_io.specs.declared.Said.{Said}
use Rattle.standard_io.specs.declared.Said.TheVariants as system
use Rattle.standard_io.specs.declared.Heard.{Heard}
use Rattle.capture_input.specs.declared.Unread.{Unread}
use Rattle.capture_input.specs.declared.Stop.{Stop}
use Rattle.capture_input.specs.declared.Stop.TheVariants.{Ended, Failed}

-- before any read
abbrev pub nothing_read : Unread
nothing_read = record { start = 0; len = 0; heard = nothing_heard }

-- the bytes of a block that no entry was made of yet
abbrev pub unread_in : List ℕ → Unread → List ℕ
unread_in block u = part_of block u.start u.len

-- a front that more input can change
abbrev pub waits_at : Result Entry Ending → Bool
waits_at (Ok x) = false
waits_at (Err Bad) = false
waits_at (Err Cut) = true
waits_at (Err End) = true

-- some bytes arrived behind those that were there, and all are counted; where the front waits for none, nothing is heard of a read
abbrev pub More : List ℕ → List ℕ → Heard → Heard → Type 0
More before after heard heard' =
    (arrived : List ℕ)
    × (after ≡ before ++ arrived)
    × (heard'.total ≡ counted heard.total (length arrived))
    × (waits_at (front_of before) ≡ false → (arrived ≡ []) × (heard'.said ≡ system.Nothing))

-- reading stops where the front waits for no more, or where the system says that the input ends, or an error
abbrev pub Enough : Said → Result Entry Ending → Type 0
Enough system.Nothing x = waits_at x ≡ false
Enough (system.Bytes m) x = waits_at x ≡ false
Enough system.End x = waits_at x ≡ true
Enough system.Error x = waits_at x ≡ true

-- what is answered for the bytes s: the entry at their front, put into the entry's buffer, and the bytes behind it left; or where the capture
-- stops, at its end, inside an entry or its length, at a bad length
abbrev pub Took : List ℕ → Result ℕ Stop → List ℕ → List ℕ → List ℕ → Type 0
Took s (Ok n) left before after =
    (k : ℕ) × (front_of s ≡ entry_at k n) × (after ≡ sets before 0 (take n (drop k s))) × (left ≡ drop (k + n) s)
Took s (Err (Ended e)) left before after = (front_of s ≡ Err e) × (after ≡ before) × (left ≡ s)
Took s (Err Failed) left before after = (waits_at (front_of s) ≡ true) × (after ≡ before) × (left ≡ s)

-- what the system said where that is the answer: a capture that ends or is cut, that the input ends; a read that failed, an error
abbrev pub Because : Result ℕ Stop → Said → Type 0
Because (Ok n) said = Unit {0}
Because (Err (Ended End)) said = said ≡ system.End
Because (Err (Ended Cut)) said = said ≡ system.End
Because (Err (Ended Bad)) said = Unit {0}
Because (Err Failed) said = said ≡ system.Error

-- the same, once more bytes have arrived and were counted, as many as are needed: none, and nothing is heard of a read, where the front waits for
-- none
abbrev pub Taken : List ℕ → Result ℕ Stop → Heard → Heard → List ℕ → List ℕ → List ℕ → Type 0
Taken s next heard heard' left before after =
    (arrived : List ℕ)
    × Took (s ++ arrived) next left before after
    × Enough heard'.said (front_of (s ++ arrived))
    × Because next heard'.said
    × (heard'.total ≡ counted heard.total (length arrived))
    × (waits_at (front_of s) ≡ false → (arrived ≡ []) × (heard'.said ≡ system.Nothing))
