-- How document 01 defines an answer: an ordered list of checks, of which the first that fails refuses.
use Rattle.std.specs.Prelude.{ℕ, ◌+◌, List, [], ◌∷◌, Bool, true, false, not, leb, eqb, length, Result, Ok, Err}
use Rattle.refusal.specs.declared.Refusal.{Refusal}
use Rattle.refusal.specs.declared.Reason.{Reason}
use Rattle.refusal.specs.declared.Reason.TheVariants as why
use Rattle.refusal.specs.declared.Room.TheVariants as room_in
use Rattle.refusal.specs.declared.Field.{Field}
use Rattle.refusal.specs.declared.Identity.{Identity}

infix 15 ◌≤?◌
infix 15 ◌=?◌
infix 15 ◌≠?◌
infixr 14 ◌and◌
infixr 13 ◌or◌
-- what is asked of numbers: at most, equal, different; both of two, one of two
pub data Test : Type 0 where
  ◌≤?◌ : ℕ → ℕ → Test
  ◌=?◌ : ℕ → ℕ → Test
  ◌≠?◌ : ℕ → ℕ → Test
  ◌and◌ : Test → Test → Test
  ◌or◌ : Test → Test → Test

abbrev pub pick : {A : Type 0} → Bool → A → A → A
pick true a b = a
pick false a b = b

abbrev pub outcome : Test → Bool
outcome (a ≤? b) = leb a b
outcome (a =? b) = eqb a b
outcome (a ≠? b) = not (eqb a b)
outcome (s and t) = pick (outcome s) (outcome t) false
outcome (s or t) = pick (outcome s) true (outcome t)

-- the first of two where the test holds, and else the second
unfoldable pub choose : {A : Type 0} → Test → A → A → A
choose t a b = pick (outcome t) a b

-- a test, the refusal where it fails, and what else names the check
pub record CheckOf (I : Type 0) : Type 0 where
  pub test : Test
  pub otherwise : Refusal
  pub identity : I

-- a number of document 01's table, a place, a value
abbrev pub refusal : ℕ → ℕ → ℕ → Refusal
refusal n p v = record { number = n; place = p; value = v }

-- the places
abbrev pub nowhere : ℕ
nowhere = 0

abbrev pub preamble : ℕ
preamble = 1

abbrev pub root : ℕ
root = 2

abbrev pub framing : ℕ
framing = 3

abbrev pub dmp : ℕ
dmp = 4

abbrev pub discovery : ℕ
discovery = 5

abbrev pub universe_list : ℕ
universe_list = 6

-- the byte of a datagram at which a place starts
abbrev pub start_of : ℕ → ℕ
start_of place =
    pick (eqb place root) 16
    (pick (eqb place framing) 38
    (pick (eqb place dmp) 115 (pick (eqb place discovery) 112 (pick (eqb place universe_list) 120 0))))

-- A check that its number names: of what is written, copied or joined, and of two neighbours before it is said where they stand.
abbrev pub Numbered : Type 0
Numbered = CheckOf (Unit {0})

abbrev pub numbered : Test → Refusal → Numbered
numbered t r = record { test = t; otherwise = r; identity = tt }

-- A check of a datagram. Several may have one number, so each has a reason of its own, and a byte, which is said from the first one of its place.
abbrev pub Check : Type 0
Check = CheckOf Identity

abbrev pub check : Test → Refusal → Reason → ℕ → Check
check t r reason i = record { test = t; otherwise = r; identity = record { reason = reason; byte = start_of r.place + i } }

-- a field that has to end at byte n of a part: 13 where the part ends before
abbrev pub reaches : ℕ → ℕ → List ℕ → Field → Check
reaches n place p field = check (n ≤? length p) (refusal 13 place 0) (why.Missing field) 0

-- a layer's length, which has to lie within its part: 14 where it is beyond, and the length is told
abbrev pub fits : ℕ → ℕ → ℕ → Check
fits len place room = check (len ≤? room) (refusal 14 place len) (why.Beyond room_in.Part) 0

-- the answer of a list of checks: the refusal of the first that fails, or `next` where none does
unfoldable pub reading : {I A : Type 0} → (Refusal → A) → List (CheckOf I) → A → A
reading refused [] next = next
reading refused (c ∷ cs) next = pick (outcome c.test) (reading refused cs next) (refused c.otherwise)

-- what a test of something answers where there is nothing to hand back
abbrev pub Checked : Type 0
Checked = Result (Unit {0}) Refusal

unfoldable pub checked_of : {I : Type 0} → List (CheckOf I) → Checked
checked_of cs = reading Err cs (Ok tt)
