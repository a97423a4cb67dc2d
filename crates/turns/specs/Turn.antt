-- What a turn of a program over a capture does: it takes an entry and puts its text, or puts the last text. Which bytes arrive, and what the
-- system says to a read or a write, is the system's.
use Rattle.std.specs.Prelude.{ℕ, ◌+◌, ◌≤◌, min, ◌≡◌, true, false, List, [], ◌++◌, length, take, drop, Result, Ok, Err}
use Rattle.std.proofs.lemmas.List.Edits.{sets}
use Rattle.refusal.specs.Check.{◌≤?◌, choose}
use Rattle.capture.specs.Entry.{entry_at, front_of}
use Rattle.capture.specs.declared.Ending.{Ending}
use Rattle.text.specs.declared.Text.{Text}
use Rattle.line.specs.Lines.{last_line}
use Rattle.standard_io.specs.System.{counted, nothing_written}
use Rattle.standard_io.specs.declared.Said.TheVariants.{Nothing}
use Rattle.standard_io.specs.declared.Heard.{Heard}
use Rattle.standard_io.specs.declared.Wrote.{Wrote}
use Rattle.capture_input.specs.Entries.{nothing_read, unread_in, waits_at, Taken, Because}
use Rattle.capture_input.specs.declared.Stop.{Stop}
use Rattle.capture_input.specs.declared.Stop.TheVariants.{Ended, Failed}
use Rattle.turns.specs.declared.State.{State}

-- The calls, one by one.

-- nothing was read, nothing is unread
abbrev pub begun : State
begun = record { unread = nothing_read; wrote = nothing_written; going = true }

-- nothing is left to do
abbrev pub over : Heard → Wrote → State
over heard wrote = record { unread = record { start = 0; len = 0; heard = heard }; wrote = wrote; going = false }

-- the last line after n entries; none where a read failed, or where an entry comes next
abbrev pub last_text : Result ℕ Stop → ℕ → List ℕ
last_text (Err (Ended e)) n = last_line e n
last_text (Err Failed) n = []
last_text (Ok m) n = []

-- the next line's place: where the text ends, or the front where it would come too near the buffer's end
abbrev pub room_in : ℕ → ℕ → ℕ
room_in room at = choose (at + 40000 ≤? room) at 0

-- how much text leaves for that
abbrev pub leaving : ℕ → ℕ → ℕ
leaving room at = choose (at + 40000 ≤? room) 0 (min at room)

-- where the text ends once these bytes are put behind it
abbrev pub end_of : Text → List ℕ → ℕ
end_of out text = min (out.len + length text) (length out.bytes.now)

-- the next entry is taken, if there is one, and nothing else of the state moves
abbrev pub TakenFrom : List ℕ → List ℕ → List ℕ → List ℕ → State → Result ℕ Stop → State → Type 0
TakenFrom block block' entry entry' state next r =
    Taken (unread_in block state.unread) next state.unread.heard r.unread.heard (unread_in block' r.unread) entry entry'
    × (r.wrote ≡ state.wrote)
    × (r.going ≡ state.going)

-- after a line: the text is handed over where the next line might not fit, and the program goes on if it was taken
pub record WentOn (out out' : Text) (state r : State) : Type 0 where
  pub unread : r.unread ≡ state.unread
  pub text : out'.bytes ≡ out.bytes
  pub place : out'.len ≡ room_in (length out.bytes.now) out.len
  pub handed : r.wrote.total ≡ counted state.wrote.total (leaving (length out.bytes.now) out.len)
  pub kept : out.len + 40000 ≤ length out.bytes.now → r.wrote.all ≡ state.wrote.all
  pub goes : r.going ≡ r.wrote.all

-- the last line is put, all text is handed over, and the program is over
pub record Finished (out out' : Text) (next : Result ℕ Stop) (n : ℕ) (state r : State) : Type 0 where
  pub text : out'.bytes.now ≡ sets out.bytes.now out.len (last_text next n)
  pub empty : out'.len ≡ 0
  pub same_buffer : out'.bytes.ghost_name ≡ out.bytes.ghost_name
  pub handed : r.wrote.total ≡ counted state.wrote.total (end_of out (last_text next n))
  pub done : r ≡ over state.unread.heard r.wrote

-- A turn.

-- What a program tells: the text of an entry, and the last text, each by the entries before it.
pub record Telling : Type 0 where
  pub line : List (List ℕ) → List ℕ → List ℕ
  pub last : List (List ℕ) → Ending → List ℕ

-- A line is put, whole. Where the next one might not fit behind it all text is handed to the system, and the program goes on if the
-- system took it; `was` is what had been handed over before.
pub record LinePut (line : List ℕ) (before after : Text) (was : Wrote) (state : State) : Type 0 where
  pub short : length line ≤ 40000
  pub text : after.bytes.now ≡ sets before.bytes.now before.len line
  pub place : after.len ≡ room_in (length before.bytes.now) (end_of before line)
  pub handed : state.wrote.total ≡ counted was.total (leaving (length before.bytes.now) (end_of before line))
  pub kept : end_of before line + 40000 ≤ length before.bytes.now → state.wrote.all ≡ was.all
  pub goes : state.going ≡ state.wrote.all

-- The last text is put, whole, all text is handed to the system, and the program is over.
pub record LastPut (last : List ℕ) (before after : Text) (was : Wrote) (state : State) : Type 0 where
  pub short : length last ≤ 40000
  pub text : after.bytes.now ≡ sets before.bytes.now before.len last
  pub empty : after.len ≡ 0
  pub handed : state.wrote.total ≡ counted was.total (end_of before last)
  pub done : state ≡ over state.unread.heard state.wrote

-- After the entries of `past`, of the unread bytes s: what was found, what is left unread, the text before and after, and the state in which
-- that leaves the program.
abbrev pub Turned : Telling → List (List ℕ) → List ℕ → Result ℕ Stop → List ℕ → Text → Text → Wrote → State → Type 0
Turned T past s (Ok m) left before after was state =
    (k : ℕ) × (front_of s ≡ entry_at k m) × (left ≡ drop (k + m) s) × LinePut (T.line past (take m (drop k s))) before after was state
Turned T past s (Err (Ended e)) left before after was state =
    (front_of s ≡ Err e) × Because (Err (Ended e)) state.unread.heard.said × LastPut (T.last past e) before after was state
Turned T past s (Err Failed) left before after was state =
    (waits_at (front_of s) ≡ true) × Because (Err Failed) state.unread.heard.said × LastPut [] before after was state

-- the same of the state before, once more bytes have arrived in the block and were counted: none, and nothing is heard of a read, where none are
-- waited for
abbrev pub Turn : Telling → List (List ℕ) → State → List ℕ → List ℕ → Text → Text → State → Type 0
Turn T past state block block' before after state' =
    (arrived : List ℕ)
    × (next : Result ℕ Stop)
    × Turned T past (unread_in block state.unread ++ arrived) next (unread_in block' state'.unread) before after state.wrote state'
    × (state'.unread.heard.total ≡ counted state.unread.heard.total (length arrived))
    × (waits_at (front_of (unread_in block state.unread)) ≡ false → (arrived ≡ []) × (state'.unread.heard.said ≡ Nothing))
