-- What `why` tells of a capture: a line for each entry, by its number, with what both readers find, and document 01's last line.
use Rattle.std.specs.Prelude.{ℕ, ◌+◌, List, [], ◌∷◌, ◌++◌, length}
use Rattle.wire.specs.Fields.{join}
use Rattle.pdu.specs.declared.Edition.{Edition}
use Rattle.pdu.specs.declared.Edition.TheVariants.{E2018, E2009}
use Rattle.text.specs.Digits.{ascii, decimal}
use Rattle.line.specs.Lines.{last_line}
use Rattle.failed_check.specs.Tell.{told_of}
use Rattle.finding_text.specs.Findings.{finding_text}
use Rattle.turns.specs.Turn.{Telling}
use Rattle.turns.specs.Run.{text_of}

-- what one reader finds
unfoldable pub reader_text : List ℕ → Edition → List ℕ → List ℕ
reader_text words edition d = words ++ finding_text d (told_of edition d)

-- the line of entry n, the datagram d: `N present reader: ..; 2009 reader: ..`
unfoldable pub entry_line : ℕ → List ℕ → List ℕ
entry_line n d =
    join (decimal n ∷ reader_text (ascii " present reader: ") E2018 d ∷ reader_text (ascii "; 2009 reader: ") E2009 d ∷ ascii "\n" ∷ [])

abbrev pub telling : Telling
telling = record { line = λ past d. entry_line (length past + 1) d; last = λ past e. last_line e (length past) }

-- the text of a whole capture
abbrev pub why_of : List ℕ → List ℕ
why_of input = text_of telling input
