-- A text in UTF-8 is its characters, one after the other. Assumes nothing.
use Prim.Native.Nat.{ℕ}
use mathlib.Core.Path.{◌≡◌, refl, sym, subst}
use mathlib.Core.List.{List, [], ◌∷◌, ◌++◌}
use native.Mathlib.Omega.{arith}
use lib.ListN.{get_or}
use Rattle.refusal.specs.Check.{◌≤?◌, choose}
use Rattle.refusal.proofs.Tests.{Holds, Fails, clash, chosen, passed_over, choice, decide}
use Rattle.name.specs.CodePoint.{scalar, encode, Encoded}
use Rattle.name.specs.CodePoint as point
use Rattle.name_pattern.specs.Characters.{goes_on, before, characters_of}
use Rattle.name_pattern.specs.Walk.{star_byte, question_byte, plain, Inside}

-- characters, and the bytes of a text
pub data Spelt : List (List ℕ) → List ℕ → Type 0 where
  none : Spelt [] []
  more : (c : ℕ) {cs : List (List ℕ)} {s : List ℕ} → Holds (scalar c) → Spelt cs s → Spelt (encode c ∷ cs) (encode c ++ s)

-- The bytes of a character: one that begins it, and those that go on with it.
abbrev pub Trailing : List ℕ → Type 0
Trailing [] = Unit {0}
Trailing (b ∷ s) = Holds (goes_on b) × Trailing s

abbrev pub Character : List ℕ → Type 0
Character [] = ⊥
Character (b ∷ s) = Fails (goes_on b) × Trailing s

pub character : (c : ℕ) → Character (encode c)
unfolding encode
character c =
    choice Character (c ≤? 0x7f) _ _ (λ h. omega arith)
    (λ f. choice Character (c ≤? 0x7ff) _ _ (λ h. omega arith)
    (λ f. choice Character (c ≤? 0xffff) _ _ (λ h. omega arith) (λ f. omega arith)))

-- none of them is a star or a question mark, unless the character is
abbrev pub Plains : List ℕ → Type 0
Plains [] = Unit {0}
Plains (b ∷ s) = Holds (plain b) × Plains s

pub plains : (c : ℕ) → Holds (plain c) → Plains (encode c)
unfolding encode
plains c p =
    choice Plains (c ≤? 0x7f) _ _ (λ h. omega arith)
    (λ f. choice Plains (c ≤? 0x7ff) _ _ (λ h. omega arith)
    (λ f. choice Plains (c ≤? 0xffff) _ _ (λ h. omega arith) (λ f. omega arith)))

pub encode_star : encode star_byte ≡ star_byte ∷ []
unfolding encode choose
encode_star = refl

pub encode_question : encode question_byte ≡ question_byte ∷ []
unfolding encode choose
encode_question = refl

-- a byte that does not go on with a character
pub begins : (b : ℕ) → (Holds (goes_on b) → ⊥) → Fails (goes_on b)
begins b f = decide (goes_on b) (λ h. absurd (f h)) (λ g. g)

-- a text begins inside no character
outside_front : (l s : List ℕ) → Character l → Inside (l ++ s) → ⊥
outside_front [] s h i = h
outside_front (b ∷ l) s h i = clash (goes_on b) i h.0

pub outside : {cs : List (List ℕ)} {s : List ℕ} → Spelt cs s → Inside s → ⊥
outside none i = i
outside (more c {s = s} h r) i = outside_front (encode c) s (character c) i

-- the first character of bytes begins as they do
first_begins : (b : ℕ) (cs : List (List ℕ)) → (c : List ℕ) × (ds : List (List ℕ)) × (before b cs ≡ (b ∷ c) ∷ ds)
first_begins b [] = ([], [], refl)
first_begins b (c ∷ cs) =
    choice (λ (l : List (List ℕ)). (x : List ℕ) × (ds : List (List ℕ)) × (l ≡ (b ∷ x) ∷ ds)) (goes_on (get_or c 0 0)) ((b ∷ c) ∷ cs) ((b ∷ []) ∷ c ∷ cs)
    (λ h. (c, cs, refl)) (λ f. ([], c ∷ cs, refl))

-- a character of one byte, and one of more
alone : (b : ℕ) (s : List ℕ) → (Inside s → ⊥) → characters_of (b ∷ s) ≡ (b ∷ []) ∷ characters_of s
unfolding characters_of
alone b [] i = refl
alone b (x ∷ s) i =
    let w = first_begins x (characters_of s) in
    rw w.2 (sym (passed_over (goes_on x) ((b ∷ x ∷ w.0) ∷ w.1) ((b ∷ []) ∷ (x ∷ w.0) ∷ w.1) (begins x i) refl))

with_trail : (b : ℕ) (t s : List ℕ) → Trailing t → (Inside s → ⊥) → characters_of (b ∷ (t ++ s)) ≡ (b ∷ t) ∷ characters_of s
unfolding characters_of
with_trail b [] s h i = alone b s i
with_trail b (a ∷ t) s h i =
    rw (with_trail a t s h.1 i)
    (sym (chosen (goes_on a) ((b ∷ a ∷ t) ∷ characters_of s) ((b ∷ []) ∷ (a ∷ t) ∷ characters_of s) h.0 refl))

first_character : (l s : List ℕ) → Character l → (Inside s → ⊥) → characters_of (l ++ s) ≡ l ∷ characters_of s
first_character [] s h i = absurd h
first_character (b ∷ t) s h i = with_trail b t s h.1 i

-- The characters of well-formed UTF-8 spell it.
pub spelt : {s : List ℕ} → Encoded s → Spelt (characters_of s) s
unfolding characters_of
spelt point.none = none
spelt (point.more c {s} h r) =
    let later = spelt r in
    subst (λ (cs : List (List ℕ)). Spelt cs (encode c ++ s)) (sym (first_character (encode c) s (character c) (outside later))) (more c h later)
