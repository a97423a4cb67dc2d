-- What a reader finds, in words: `readable`, or `refused at byte B in the LAYER: WRONG: wanted WANTED, found F`.
use Rattle.std.specs.Prelude.{ℕ, List, [], ◌∷◌, ◌++◌, Option, Some, None}
use Rattle.wire.specs.Fields.{join}
use Rattle.text.specs.Digits.{ascii, decimal}
use Rattle.failed_check.specs.declared.Fault.{Fault}
use Rattle.wrong_words.specs.Words.{layer_words, wrong_words}
use Rattle.wanted_words.specs.Words.{wanted_words}
use Rattle.finding_text.specs.Numbers.{shown_of, found, limit}

-- a number and the words before it, or nothing
abbrev pub number_text : List ℕ → Option ℕ → List ℕ
number_text words None = []
number_text words (Some n) = words ++ decimal n

-- where: the byte and the layer
unfoldable pub where_text : ℕ → ℕ → List ℕ
where_text byte place = join (ascii "refused at byte " ∷ decimal byte ∷ ascii " in the " ∷ layer_words place ∷ ascii ": " ∷ [])

-- what is wrong, what was wanted, what was there
unfoldable pub wrong_text : List ℕ → Fault → List ℕ
wrong_text d f =
    let reason = f.check.reason in
    join
    (wrong_words reason
    ∷ ascii ": wanted "
    ∷ wanted_words reason
    ∷ number_text [] (shown_of (limit reason) d f)
    ∷ number_text (ascii ", found ") (shown_of (found reason) d f)
    ∷ [])

abbrev pub finding_text : List ℕ → Option Fault → List ℕ
finding_text d None = ascii "readable"
finding_text d (Some f) = where_text f.check.byte f.refusal.place ++ wrong_text d f
