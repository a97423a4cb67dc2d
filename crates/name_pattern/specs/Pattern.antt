-- Patterns in bytes: which may be asked with, and which names they pick.
use Rattle.std.specs.Prelude.{ℕ, Bool, false, List, [], ◌∷◌, length}
use Rattle.refusal.specs.Check.{Test, ◌≤?◌, ◌and◌, choose, Numbered, numbered, refusal, nowhere}
use Rattle.name.specs.Utf8.{well_formed}
use Rattle.name_pattern.specs.Characters.{characters_of}
use Rattle.name_pattern.specs.Rule.{takes_whole}

-- 45: above 63 bytes; 46: not UTF-8
abbrev pub pattern_checks : List ℕ → List Numbered
pattern_checks pattern =
    numbered (length pattern ≤? 63) (refusal 45 nowhere 0)
    ∷ numbered (well_formed pattern) (refusal 46 nowhere 0)
    ∷ []

-- both may be asked with: the pattern has at most 63 bytes, and it and the name are UTF-8
abbrev pub asked : List ℕ → List ℕ → Test
asked pattern name = length pattern ≤? 63 and well_formed pattern and well_formed name

-- whether a pattern picks a name: its characters take all of the name's; what may not be asked picks nothing
unfoldable pub picks_of : List ℕ → List ℕ → Bool
picks_of pattern name = choose (asked pattern name) (takes_whole (characters_of pattern) (characters_of name)) false
