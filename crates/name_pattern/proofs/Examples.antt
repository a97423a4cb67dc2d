-- Patterns and names, by running the definition. Assumes nothing.
use Prim.Native.Nat.{ℕ}
use mathlib.Core.Path.{◌≡◌, refl}
use mathlib.Core.Bool.{Bool, true, false}
use mathlib.Core.List.{List, [], ◌∷◌, ◌++◌, map}
use Rattle.refusal.specs.Check.{choose}
use Rattle.name.specs.Utf8.{lead_of, trailed, reach, whole_chars}
use Rattle.name_pattern.specs.Characters.{characters_of}
use Rattle.name_pattern.specs.Rule.{star, question, same, after_run, takes_whole}
use Rattle.name_pattern.specs.Pattern.{picks_of}

-- F, O, H; é of two bytes, € of three, 𝄞 of four
abbrev foh : List ℕ
foh = 0x46 ∷ 0x4f ∷ 0x48 ∷ []

abbrev accented : List ℕ
accented = 0xc3 ∷ 0xa9 ∷ []

abbrev euro : List ℕ
euro = 0xe2 ∷ 0x82 ∷ 0xac ∷ []

abbrev clef : List ℕ
clef = 0xf0 ∷ 0x9d ∷ 0x84 ∷ 0x9e ∷ []

-- which of the names a pattern picks
abbrev picked : List ℕ → List (List ℕ) → List Bool
picked pattern names = map (picks_of pattern) names

abbrev names : List (List ℕ)
names = [] ∷ foh ∷ (foh ++ accented) ∷ (euro ++ foh) ∷ accented ∷ clef ∷ (accented ++ euro) ∷ (0x46 ∷ clef ++ 0x48 ∷ []) ∷ (0xc3 ∷ []) ∷ []

-- the request's own patterns: *, the empty one, ?, FOH*, *FOH, F?H, **, é?*, ?*?; and one that may not be asked with
pub examples :
    (picked star names ≡ true ∷ true ∷ true ∷ true ∷ true ∷ true ∷ true ∷ true ∷ false ∷ [])
    × (picked [] names ≡ true ∷ false ∷ false ∷ false ∷ false ∷ false ∷ false ∷ false ∷ false ∷ [])
    × (picked question names ≡ false ∷ false ∷ false ∷ false ∷ true ∷ true ∷ false ∷ false ∷ false ∷ [])
    × (picked (foh ++ star) names ≡ false ∷ true ∷ true ∷ false ∷ false ∷ false ∷ false ∷ false ∷ false ∷ [])
    × (picked (star ++ foh) names ≡ false ∷ true ∷ false ∷ true ∷ false ∷ false ∷ false ∷ false ∷ false ∷ [])
    × (picked (0x46 ∷ question ++ 0x48 ∷ []) names ≡ false ∷ true ∷ false ∷ false ∷ false ∷ false ∷ false ∷ true ∷ false ∷ [])
    × (picked (star ++ star) names ≡ true ∷ true ∷ true ∷ true ∷ true ∷ true ∷ true ∷ true ∷ false ∷ [])
    × (picked (accented ++ question ++ star) names ≡ false ∷ false ∷ false ∷ false ∷ false ∷ false ∷ true ∷ false ∷ false ∷ [])
    × (picked (question ++ star ++ question) names ≡ false ∷ true ∷ true ∷ true ∷ false ∷ false ∷ true ∷ true ∷ false ∷ [])
    × (picked (0xa9 ∷ []) names ≡ false ∷ false ∷ false ∷ false ∷ false ∷ false ∷ false ∷ false ∷ false ∷ [])
unfolding picks_of takes_whole same after_run characters_of whole_chars reach lead_of trailed choose
examples = (refl, refl, refl, refl, refl, refl, refl, refl, refl, refl)
