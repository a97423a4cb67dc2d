-- Writing refuses only as document 01's table says, each kind with the numbers of its own checks. Assumes nothing.
use Rattle.std.proofs.Common.{◌≡◌, ℕ, true, false, leb, List, [], ◌∷◌, ◌++◌, length, get_or, Ok, Err, refl}
use Rattle.refusal.specs.declared.Refusal.{Refusal}
use Rattle.refusal.specs.Check.{Test, Numbered, outcome, pick, refusal, nowhere}
use Rattle.refusal.proofs.Tests.{Holds, holds, bounded}
use Rattle.refusal.proofs.Laws.{Every, always, every_++, computed}
use Rattle.name.specs.Name.{written_name_checks}
use Rattle.name.proofs.Good.{every_written}
use Rattle.discovery.specs.Universes.{rises, order_checks}
use Rattle.discovery.proofs.Laws.{every_pairs}
use Rattle.pack.specs.Writing.{room_check, values_check, count_check, data_length, synchronization_length, discovery_length, data_write_checks, synchronization_write_checks, discovery_write_checks, Packed, packed_of}
use Rattle.pack.specs.Table.{data_allowed, synchronization_allowed, discovery_allowed}

-- what every check of a write tells is so of what it refuses with
module _ (P : Refusal → Type 0) where
  abbrev Told : Packed → Type 0
  Told (Ok n) = Unit {0}
  Told (Err r) = P r

  pub refused_with : (cs : List Numbered) (len : ℕ) (r : Refusal) → Every P cs → packed_of cs len ≡ Err r → P r
  unfolding packed_of
  refused_with cs len r all e =
      let answer : Told (packed_of cs len) = always Err Told cs (Ok len) all tt in
      rw e at answer

  -- a write with a name has the check of its room, those of the name, and others
  pub each_write : (len room : ℕ) (name : List ℕ) (rest : List Numbered) →
      P (refusal 20 nowhere 0) → Every P (written_name_checks name) → Every P rest → Every P (room_check len room ∷ (written_name_checks name ++ rest))
  each_write len room name rest short names others = (λ f. short, λ h. every_++ P (written_name_checks name) rest names (λ a. others))

-- of a write with a name 20 to 23 are told, whatever the others tell; a table has to allow them
module _ (may : Refusal → Test) where
  abbrev Allowed : Refusal → Type 0
  Allowed r = Holds (may r)

  named : outcome (may (refusal 20 nowhere 0)) ≡ true → outcome (may (refusal 21 nowhere 0)) ≡ true → outcome (may (refusal 22 nowhere 0)) ≡ true →
      ((n : ℕ) → outcome (may (refusal 23 nowhere n)) ≡ pick (leb n 62) true false) →
      (len room : ℕ) (name : List ℕ) (rest : List Numbered) → Every Allowed rest → Every Allowed (room_check len room ∷ (written_name_checks name ++ rest))
  named short long zero bad len room name rest others =
      each_write Allowed len room name rest (holds (may (refusal 20 nowhere 0)) short)
      (every_written Allowed name (holds (may (refusal 21 nowhere 0)) long) (holds (may (refusal 22 nowhere 0)) zero)
      (λ n few g. bounded (may (refusal 23 nowhere n)) n 62 (bad n) few))
      others

-- A data packet's write tells 20 to 24, and 27.
pub data_refusals : (room : ℕ) (name values : List ℕ) (r : Refusal) →
    packed_of (data_write_checks room name values) (data_length values) ≡ Err r → Holds (data_allowed r)
data_refusals room name values r e =
    let counted = values_check (length values) ∷ count_check 513 (length values) ∷ [] in
    refused_with (Allowed data_allowed) (data_write_checks room name values) (data_length values) r
    (named data_allowed refl refl refl (λ n. refl) (data_length values) room name counted (computed data_allowed counted refl)) e

-- A sync packet's write tells 20.
pub synchronization_refusals : (room : ℕ) (r : Refusal) →
    packed_of (synchronization_write_checks room) synchronization_length ≡ Err r → Holds (synchronization_allowed r)
synchronization_refusals room r e =
    let cs = synchronization_write_checks room in
    refused_with (Allowed synchronization_allowed) cs synchronization_length r (computed synchronization_allowed cs refl) e

-- A discovery packet's write tells 20 to 26.
pub discovery_refusals : (room : ℕ) (name us : List ℕ) (r : Refusal) →
    packed_of (discovery_write_checks room name us) (discovery_length us) ≡ Err r → Holds (discovery_allowed r)
discovery_refusals room name us r e =
    let counted = count_check 512 (length us) ∷ [] in
    let order = every_pairs rises (Allowed discovery_allowed) us (λ u i. computed discovery_allowed (rises u (get_or us i 0)) refl) in
    let rest = every_++ (Allowed discovery_allowed) counted (order_checks us) (computed discovery_allowed counted refl) (λ a. order) in
    refused_with (Allowed discovery_allowed) (discovery_write_checks room name us) (discovery_length us) r
    (named discovery_allowed refl refl refl (λ n. refl) (discovery_length us) room name (counted ++ order_checks us) rest) e
