-- The characters of a text in UTF-8, each by its bytes: one that begins it, and those that go on with it.
use Rattle.std.specs.Prelude.{ℕ, List, [], ◌∷◌, get_or}
use Rattle.refusal.specs.Check.{Test, choose}
use Rattle.name.specs.Utf8.{within}

-- a byte that goes on with a character
abbrev pub goes_on : ℕ → Test
goes_on b = within 0x80 0xbf b

-- a byte before characters: it begins the first of them, where that has no other beginning, or is one of its own
abbrev pub before : ℕ → List (List ℕ) → List (List ℕ)
before b [] = (b ∷ []) ∷ []
before b (c ∷ cs) = choose (goes_on (get_or c 0 0)) ((b ∷ c) ∷ cs) ((b ∷ []) ∷ c ∷ cs)

unfoldable pub characters_of : List ℕ → List (List ℕ)
characters_of [] = []
characters_of (b ∷ s) = before b (characters_of s)
