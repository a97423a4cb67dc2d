-- What the program holds between two entries, and what it tells of a whole capture.
use Rattle.std.specs.Prelude.{ℕ, ◌+◌, ◌≡◌, List, ◌++◌, length}
use Rattle.line.specs.Lines.{last_line}
use Rattle.turns.specs.Turn.{Telling}
use Rattle.turns.specs.Run.{text_of}
use Rattle.follow_rules.specs.declared.Entry as entry
use Rattle.follow_rules.specs.Totals.{zero_totals}
use Rattle.follow_rules.specs.Table.{cleared}
use Rattle.follower.specs.Captures.{Held, answer_to, held_after_all}
use Rattle.follow.specs.declared.Follower.{Follower}
use Rattle.follow.specs.Lines.{became_line, totals_line}

-- what the follower holds after the entries of `past`, from a table
abbrev pub held_by : List entry.Entry → List (List ℕ) → Held
held_by t past = held_after_all (record { table = t; totals = zero_totals }) past

abbrev pub following : List entry.Entry → Telling
following t = record {
  line = λ past d. became_line (length past + 1) (answer_to (held_by t past) d);
  last = λ past e. totals_line (held_by t past).totals ++ last_line e (length past);
}

-- that the program tells by a first table, and holds what the entries of `past` make of it
abbrev pub follows : Telling → Follower → List (List ℕ) → Type 0
follows T f past = (t : List entry.Entry) × (T ≡ following t) × (held_by t past ≡ record { table = f.table; totals = f.totals })

-- the text of a whole capture, followed in a cleared table of 1,024 entries
abbrev pub follow_text : List ℕ → List ℕ
follow_text input = text_of (following (cleared 1024)) input
