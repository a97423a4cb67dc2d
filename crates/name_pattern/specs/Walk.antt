-- The rule byte by byte, as the matcher walks it. No answer is defined by it.
use Rattle.std.specs.Prelude.{ℕ, ◌≡◌, Bool, true, false, List, [], ◌∷◌}
use Rattle.refusal.specs.Check.{Test, ◌≠?◌, ◌and◌, choose}
use Rattle.refusal.proofs.Tests.{Holds, Fails}
use Rattle.name_pattern.specs.Characters.{goes_on}
use Rattle.name_pattern.specs.declared.Outcome.{Outcome}
use Rattle.name_pattern.specs.declared.Outcome.TheVariants.{Taken, NotHere, Nowhere}

abbrev pub star_byte : ℕ
star_byte = 0x2a

abbrev pub question_byte : ℕ
question_byte = 0x3f

-- a byte that stands for itself
abbrev pub plain : ℕ → Test
plain c = c ≠? star_byte and c ≠? question_byte

-- an answer to whether A is so: true exactly where it is
abbrev pub Tells : Bool → Type 0 → Type 0
Tells true A = A
Tells false A = A → ⊥

-- bytes that begin inside a character
abbrev pub Inside : List ℕ → Type 0
Inside [] = ⊥
Inside (b ∷ s) = Holds (goes_on b)

-- what is left of them behind that character
unfoldable pub beyond : List ℕ → List ℕ
beyond [] = []
beyond (b ∷ s) = choose (goes_on b) (beyond s) (b ∷ s)

-- a star and a plain byte go on a byte at a time, a question mark to the end of a character
pub data Fits : List ℕ → List ℕ → Type 0 where
  ends : Fits [] []
  skip : {c : ℕ} {p n : List ℕ} → c ≡ star_byte → Fits p n → Fits (c ∷ p) n
  eat : {c b : ℕ} {p n : List ℕ} → c ≡ star_byte → Fits (c ∷ p) n → Fits (c ∷ p) (b ∷ n)
  one : {c b : ℕ} {p n : List ℕ} → c ≡ question_byte → Fails (goes_on b) → Fits p (beyond n) → Fits (c ∷ p) (b ∷ n)
  byte : {c b : ℕ} {p n : List ℕ} → Holds (plain c) → c ≡ b → Fits p n → Fits (c ∷ p) (b ∷ n)

-- taken; not from here; and neither from here nor from further on
abbrev pub Says : Outcome → List ℕ → List ℕ → Type 0
Says Taken p n = Fits p n
Says NotHere p n = Fits p n → ⊥
Says Nowhere p n = Fits (star_byte ∷ p) n → ⊥

-- what a star that was reached says
abbrev pub verdict_of : Bool → Outcome
verdict_of true = Taken
verdict_of false = Nowhere
