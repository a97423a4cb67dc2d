-- What the dump has printed when it stops. Assumes nothing.
use Rattle.std.proofs.Common.{ℕ, ◌≤◌, ◌≡◌, false, ◌⊎◌, List, [], ◌++◌, length, take, Err}
use Rattle.capture.specs.declared.Ending.{Ending}
use Rattle.capture_input.specs.Entries.{Because}
use Rattle.capture_input.specs.declared.Stop.TheVariants.{Ended}
use Rattle.text.specs.declared.Text.{Text}
use Rattle.turns.specs.declared.State.{State}
use Rattle.turns.specs.Run.{Moment, beginning, Turns, arrived_in, left_in, text_in, Unseen, Ran, BrokenOff, Accounted}
use Rattle.turns.proofs.Run.{ran}
use Rattle.dump.specs.Dump.{dumping, dump_of}

-- the program ended as the system or the capture had it, and all text that left is the dump of the whole input
abbrev Dumped : (block : List ℕ) (out : Text) (ms : List Moment) → Turns dumping [] (beginning block out) ms → State → Type 0
Dumped block out ms t state =
    (e : Ending)
    × Because (Err (Ended e)) state.unread.heard.said
    × ((rest : List ℕ) → Unseen e rest → left_in dumping [] (beginning block out) ms t ≡ dump_of (arrived_in dumping [] (beginning block out) ms t ++ rest))

-- By the contract of `run`: all text that was put has left, but for what is still in the buffer; the bytes that arrived and that left are as
-- many as the system brought and was handed; and the whole input was dumped, or the program broke off.
pub dumped : (block : List ℕ) (out : Text) (block' : List ℕ) (out' : Text) (state : State) (r : Ran dumping block out block' out' state) →
    40000 ≤ length out.bytes.now → state.going ≡ false →
    let m = beginning block out in
    let ms = r.2.0 in
    let t = r.2.1 in
    (left_in dumping [] m ms t ++ take out'.len out'.bytes.now ≡ text_in dumping [] m ms t)
    × Accounted dumping block out ms t state
    × (Dumped block out ms t state ⊎ BrokenOff state)
dumped = ran dumping
