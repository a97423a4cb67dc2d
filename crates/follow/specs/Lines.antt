-- What the program prints: a line for what became of an entry, and a line of totals.
use Rattle.std.specs.Prelude.{ℕ, List, [], ◌∷◌, ◌++◌}
use Rattle.wire.specs.Fields.{join}
use Rattle.text.specs.Digits.{ascii, decimal}
use Rattle.line.specs.Lines.{refused_line}
use Rattle.follow_rules.specs.declared.Totals.{Totals}
use Rattle.follow_rules.specs.declared.Answer.{Answer}
use Rattle.follow_rules.specs.declared.Answer.TheVariants.{Accepted, Discarded, Refused, NotData, Unreadable}

abbrev pub word_line : ℕ → List ℕ → List ℕ
word_line n word = decimal n ++ word

-- `N accepted`, `N discarded`, `N other`; `N refused R place Q value V`, of the follower and of reading
abbrev pub became_line : ℕ → Answer → List ℕ
became_line n Accepted = word_line n (ascii " accepted\n")
became_line n Discarded = word_line n (ascii " discarded\n")
became_line n (Refused r) = refused_line n r
became_line n NotData = word_line n (ascii " other\n")
became_line n (Unreadable r) = refused_line n r

-- `totals accepted A discarded D room-refused R`
unfoldable pub totals_line : Totals → List ℕ
totals_line t =
    join
    (ascii "totals accepted "
    ∷ decimal t.accepted
    ∷ ascii " discarded "
    ∷ decimal t.discarded
    ∷ ascii " room-refused "
    ∷ decimal t.room_refused
    ∷ ascii "\n"
    ∷ [])
