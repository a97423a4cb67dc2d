-- Which names a pattern takes, over whole characters, each by its bytes: a star takes any run of characters, also none; a question mark takes
-- one character; any other character takes itself; and all of the name is taken.
use Rattle.std.specs.Prelude.{ℕ, ◌≡◌, Bool, true, false, List, [], ◌∷◌, ◌++◌, eqb}
use Rattle.refusal.specs.Check.{pick}

abbrev pub star : List ℕ
star = 0x2a ∷ []

abbrev pub question : List ℕ
question = 0x3f ∷ []

-- The rule: the characters of a pattern, and those of a name that it takes.
pub data Matches : List (List ℕ) → List (List ℕ) → Type 0 where
  ends : Matches [] []
  run : {c : List ℕ} {p n : List (List ℕ)} (s : List (List ℕ)) → c ≡ star → Matches p n → Matches (c ∷ p) (s ++ n)
  one : {c x : List ℕ} {p n : List (List ℕ)} → c ≡ question → Matches p n → Matches (c ∷ p) (x ∷ n)
  itself : {c x : List ℕ} {p n : List (List ℕ)} → (c ≡ star → ⊥) → (c ≡ question → ⊥) → c ≡ x → Matches p n → Matches (c ∷ p) (x ∷ n)

-- The same, to be computed.

-- the same bytes
unfoldable pub same : List ℕ → List ℕ → Bool
same [] [] = true
same [] (b ∷ t) = false
same (a ∷ s) [] = false
same (a ∷ s) (b ∷ t) = pick (eqb a b) (same s t) false

-- behind some run of characters, also none, `rest` takes what is left
unfoldable pub after_run : (List (List ℕ) → Bool) → List (List ℕ) → Bool
after_run rest [] = rest []
after_run rest (x ∷ n) = pick (rest (x ∷ n)) true (after_run rest n)

-- the character c, no star, takes the first one, and `rest` what is left
abbrev pub after_one : List ℕ → (List (List ℕ) → Bool) → List (List ℕ) → Bool
after_one c rest [] = false
after_one c rest (x ∷ n) = pick (pick (same c question) true (same c x)) (rest n) false

unfoldable pub takes_whole : List (List ℕ) → List (List ℕ) → Bool
takes_whole [] [] = true
takes_whole [] (x ∷ n) = false
takes_whole (c ∷ p) n = pick (same c star) (after_run (takes_whole p) n) (after_one c (takes_whole p) n)
