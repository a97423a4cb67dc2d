-- What the dump tells of a capture: a line for each entry, by its number, and document 01's last line.
use Rattle.std.specs.Prelude.{ℕ, ◌+◌, List, length}
use Rattle.packet.specs.Packet.{reading_of}
use Rattle.line.specs.Lines.{line_of, last_line}
use Rattle.turns.specs.Turn.{Telling}
use Rattle.turns.specs.Run.{text_of}

-- the line of entry n, the datagram d
abbrev pub entry_line : ℕ → List ℕ → List ℕ
entry_line n d = line_of n d (reading_of d)

abbrev pub dumping : Telling
dumping = record { line = λ past d. entry_line (length past + 1) d; last = λ past e. last_line e (length past) }

-- the text of a whole capture
abbrev pub dump_of : List ℕ → List ℕ
dump_of input = text_of dumping input
