-- A list of universes: its numbers, their order at reading and at writing, its bytes.
use Rattle.std.specs.Prelude.{ℕ, zero, suc, ◌+◌, ◌*◌, ◌/◌, List, [], ◌∷◌, ◌++◌, length, drop, get_or}
use Rattle.wire.specs.Fields.{u16_at, be16}
use Rattle.refusal.specs.Check.{Check, check, Numbered, numbered, refusal, universe_list, nowhere, ◌≤?◌, ◌≠?◌, Checked, checked_of}
use Rattle.refusal.specs.declared.Reason.TheVariants as why
use Rattle.refusal.specs.declared.Start.TheVariants as start_in

-- the first n numbers of two bytes
unfoldable pub universes : ℕ → List ℕ → List ℕ
universes zero p = []
universes (suc n) p = u16_at p 0 ∷ universes n (drop 2 p)

-- as many as there are; an odd last byte is ignored
abbrev pub all_universes : List ℕ → List ℕ
all_universes p = universes (length p / 2) p

-- the checks of each two neighbours, in turn: u stands before the list
abbrev pub pairs_from : (ℕ → ℕ → List Numbered) → ℕ → List ℕ → List Numbered
pairs_from f u [] = []
pairs_from f u (v ∷ vs) = f u v ++ pairs_from f v vs

abbrev pub pairs : (ℕ → ℕ → List Numbered) → List ℕ → List Numbered
pairs f [] = []
pairs f (u ∷ us) = pairs_from f u us

-- at reading, 12: a universe that is not above the one before it
abbrev pub ascends : ℕ → ℕ → List Numbered
ascends u v = numbered (u + 1 ≤? v) (refusal 12 universe_list v) ∷ []

-- each of them is told at the second of its two universes, which is two bytes behind that of the check before
abbrev pub told_from : ℕ → List Numbered → List Check
told_from i [] = []
told_from i (c ∷ cs) = check c.test c.otherwise why.Order i ∷ told_from (i + 2) cs

-- 1 if the part is shorter than its count needs; 12
abbrev pub list_checks : List ℕ → ℕ → List Check
list_checks p count =
    check (2 * count ≤? length p) (refusal 1 universe_list 0) (why.TooShort start_in.Universes) 0
    ∷ told_from 2 (pairs ascends (universes count p))

-- at writing, 25: equal neighbours; 26: falling ones
abbrev pub rises : ℕ → ℕ → List Numbered
rises u v = numbered (u ≠? v) (refusal 25 nowhere 0) ∷ numbered (u ≤? v) (refusal 26 nowhere 0) ∷ []

abbrev pub order_checks : List ℕ → List Numbered
order_checks us = pairs rises us

-- what is answered for the neighbours from the place k on
abbrev pub checked_from : ℕ → List ℕ → Checked
checked_from k us = checked_of (pairs_from rises (get_or us k 0) (drop (k + 1) us))

unfoldable pub universe_bytes : List ℕ → List ℕ
universe_bytes [] = []
universe_bytes (u ∷ us) = be16 u ++ universe_bytes us
