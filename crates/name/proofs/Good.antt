-- What 7 and 23 tell of a name: how many of its leading bytes are good. Assumes nothing.
use Prim.Native.Nat.{ℕ, ◌≤◌}
use mathlib.Core.Path.{◌≡◌}
use mathlib.Core.List.{List}
use native.Mathlib.Omega.{arith}
use lib.ListN.{take, drop, length-take}
use Rattle.refusal.specs.declared.Refusal.{Refusal}
use Rattle.refusal.specs.Check.{refusal, framing, nowhere}
use Rattle.refusal.proofs.Tests.{Fails}
use Rattle.refusal.proofs.Laws.{Every}
use Rattle.name.specs.Utf8.{whole_chars, well_formed}
use Rattle.name.specs.CodePoint.{LongestFront, GoodBytes}
use Rattle.name.specs.Name.{name_field, text_of, source_name_checks, written_name_checks}
use Rattle.name.proofs.Laws.{text_length}
use Rattle.name.proofs.Longest.{whole_within, whole_is_well_formed, whole_is_longest}
use Rattle.name.proofs.Points.{encoded→well_formed, well_formed→encoded}

-- `whole_chars` is the length of the longest front that is a run of encoded code points, and no other number is.
pub longest_front : (s : List ℕ) → LongestFront s (whole_chars s)
longest_front s = record {
  within = whole_within s;
  whole = well_formed→encoded (take (whole_chars s) s) (whole_is_well_formed s);
  longest = λ k h e. whole_is_longest s k h (encoded→well_formed e);
}

pub one_front : (s : List ℕ) (m n : ℕ) → LongestFront s m → LongestFront s n → m ≡ n
one_front s m n f g = omega (arith, f.longest n g.within g.whole, g.longest m f.within f.whole)

-- It is below the length of a name that is not well formed.
pub good_bytes : (s : List ℕ) → Fails (well_formed s) → GoodBytes s (whole_chars s)
good_bytes s f = (longest_front s, omega (arith, f, whole_within s))

-- What every check of a name tells, in its field and at writing.
module _ (P : Refusal → Type 0) where
  pub every_named : (p : List ℕ) → P (refusal 6 framing 0) →
      ((n : ℕ) → n ≤ 62 → GoodBytes (text_of (name_field p)) n → P (refusal 7 framing n)) → Every P (source_name_checks (name_field p))
  every_named p six seven =
      let field = name_field p in
      let text = text_of field in
      let long = text_length field in
      let room = length-take 64 (drop 6 p) in (
        λ f. six,
        λ t. (λ f. let g = good_bytes text f in seven (whole_chars text) (omega (arith, g.1, t, long, room)) g, λ h. tt),
      )

  pub every_written : (name : List ℕ) → P (refusal 21 nowhere 0) → P (refusal 22 nowhere 0) →
      ((n : ℕ) → n ≤ 62 → GoodBytes name n → P (refusal 23 nowhere n)) → Every P (written_name_checks name)
  every_written name long zero malformed = (
    λ f. long,
    λ short. (
      λ f. zero,
      λ t. (λ f. let g = good_bytes name f in malformed (whole_chars name) (omega (arith, g.1, short)) g, λ h. tt),
    ),
  )
