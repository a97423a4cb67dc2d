-- Document example (j), each range of the table at both ends, one byte inside and one outside, and what 7 and 23 tell, by computation.
-- Assumes nothing.
use Prim.Native.Nat.{ℕ}
use mathlib.Core.Path.{◌≡◌, refl}
use mathlib.Core.List.{List, [], ◌∷◌, ◌++◌, map}
use mathlib.Core.Bool.{true, false}
use lib.ListN.{length, take, replicate}
use Rattle.refusal.specs.Check.{outcome, choose, refusal, framing, nowhere, reading, checked_of}
use Rattle.std.specs.Prelude.{Err}
use Rattle.name.specs.Utf8.{lead_of, trailed, reach, whole_chars, well_formed}
use Rattle.name.specs.Name.{zero_at, name_bytes, source_name_of, written_name_checks}

abbrev pub well : List (List ℕ)
well =
    -- nothing, and one byte
    []
    ∷ (0x00 ∷ [])
    ∷ (0x7f ∷ [])
    -- two
    ∷ (0xc2 ∷ 0x80 ∷ [])
    ∷ (0xc3 ∷ 0xa9 ∷ [])
    ∷ (0xdf ∷ 0xbf ∷ [])
    -- three
    ∷ (0xe0 ∷ 0xa0 ∷ 0x80 ∷ [])
    ∷ (0xe0 ∷ 0xbf ∷ 0xbf ∷ [])
    ∷ (0xe1 ∷ 0x80 ∷ 0x80 ∷ [])
    ∷ (0xec ∷ 0xbf ∷ 0xbf ∷ [])
    ∷ (0xed ∷ 0x80 ∷ 0x80 ∷ [])
    ∷ (0xed ∷ 0x9f ∷ 0xbf ∷ [])
    ∷ (0xee ∷ 0x80 ∷ 0x80 ∷ [])
    ∷ (0xef ∷ 0xbf ∷ 0xbf ∷ [])
    -- four
    ∷ (0xf0 ∷ 0x90 ∷ 0x80 ∷ 0x80 ∷ [])
    ∷ (0xf0 ∷ 0xbf ∷ 0xbf ∷ 0xbf ∷ [])
    ∷ (0xf1 ∷ 0x80 ∷ 0x80 ∷ 0x80 ∷ [])
    ∷ (0xf3 ∷ 0xbf ∷ 0xbf ∷ 0xbf ∷ [])
    ∷ (0xf4 ∷ 0x80 ∷ 0x80 ∷ 0x80 ∷ [])
    ∷ (0xf4 ∷ 0x8f ∷ 0xbf ∷ 0xbf ∷ [])
    -- one after the other
    ∷ (0xf4 ∷ 0x8f ∷ 0xbf ∷ 0xbf ∷ 0x41 ∷ 0xc3 ∷ 0xa9 ∷ 0xe1 ∷ 0x80 ∷ 0x80 ∷ [])
    ∷ []

abbrev pub malformed : List (List ℕ)
malformed =
    -- the first byte
    (0x80 ∷ [])
    ∷ (0xbf ∷ [])
    ∷ (0xc0 ∷ 0x80 ∷ [])
    ∷ (0xc1 ∷ 0xbf ∷ [])
    ∷ (0xf5 ∷ 0x80 ∷ 0x80 ∷ 0x80 ∷ [])
    ∷ (0xff ∷ [])
    -- the second of two
    ∷ (0xc2 ∷ 0x7f ∷ [])
    ∷ (0xdf ∷ 0xc0 ∷ [])
    -- of three
    ∷ (0xe0 ∷ 0x9f ∷ 0xbf ∷ [])
    ∷ (0xe0 ∷ 0xc0 ∷ 0x80 ∷ [])
    ∷ (0xe1 ∷ 0x7f ∷ 0x80 ∷ [])
    ∷ (0xec ∷ 0xc0 ∷ 0x80 ∷ [])
    ∷ (0xed ∷ 0x7f ∷ 0x80 ∷ [])
    ∷ (0xed ∷ 0xa0 ∷ 0x80 ∷ [])
    ∷ (0xee ∷ 0x7f ∷ 0x80 ∷ [])
    ∷ (0xef ∷ 0xc0 ∷ 0x80 ∷ [])
    -- of four
    ∷ (0xf0 ∷ 0x8f ∷ 0xbf ∷ 0xbf ∷ [])
    ∷ (0xf0 ∷ 0xc0 ∷ 0x80 ∷ 0x80 ∷ [])
    ∷ (0xf1 ∷ 0x7f ∷ 0x80 ∷ 0x80 ∷ [])
    ∷ (0xf3 ∷ 0xc0 ∷ 0x80 ∷ 0x80 ∷ [])
    ∷ (0xf4 ∷ 0x7f ∷ 0x80 ∷ 0x80 ∷ [])
    ∷ (0xf4 ∷ 0x90 ∷ 0x80 ∷ 0x80 ∷ [])
    -- the third and the fourth
    ∷ (0xe1 ∷ 0x80 ∷ 0x7f ∷ [])
    ∷ (0xe1 ∷ 0x80 ∷ 0xc0 ∷ [])
    ∷ (0xf1 ∷ 0x80 ∷ 0x7f ∷ 0x80 ∷ [])
    ∷ (0xf1 ∷ 0x80 ∷ 0xc0 ∷ 0x80 ∷ [])
    ∷ (0xf1 ∷ 0x80 ∷ 0x80 ∷ 0x7f ∷ [])
    ∷ (0xf1 ∷ 0x80 ∷ 0x80 ∷ 0xc0 ∷ [])
    -- cut, by the end and by another character
    ∷ (0xc2 ∷ [])
    ∷ (0xe1 ∷ [])
    ∷ (0xe1 ∷ 0x80 ∷ [])
    ∷ (0xf1 ∷ [])
    ∷ (0xf1 ∷ 0x80 ∷ [])
    ∷ (0xf1 ∷ 0x80 ∷ 0x80 ∷ [])
    ∷ (0x41 ∷ 0xe1 ∷ 0x80 ∷ 0x41 ∷ [])
    ∷ []

pub examples :
    map (λ (s : List ℕ). outcome (well_formed s)) (well ++ malformed)
    ≡ replicate (length well) true ++ replicate (length malformed) false
unfolding lead_of trailed reach whole_chars choose
examples = refl

-- names that are refused, each with how many of its bytes are good
pub record Bad : Type 0 where
  pub name : List ℕ
  pub good : ℕ

abbrev bad : List ℕ → ℕ → Bad
bad name good = record { name = name; good = good }

abbrev pub vectors : List Bad
vectors =
    bad (0xc3 ∷ 0x28 ∷ []) 0
    ∷ bad (0x61 ∷ 0xc3 ∷ []) 1
    ∷ bad (0x61 ∷ 0x62 ∷ 0xed ∷ 0xa0 ∷ 0x80 ∷ []) 2
    ∷ bad (0xe2 ∷ 0x82 ∷ 0xac ∷ 0xc0 ∷ []) 3
    ∷ bad (0xf0 ∷ 0x9f ∷ 0x92 ∷ []) 0
    ∷ bad (replicate 62 0x6e ++ 0xff ∷ []) 62
    ∷ []

pub read : map (λ (b : Bad). source_name_of (name_bytes b.name)) vectors ≡ map (λ (b : Bad). Err (refusal 7 framing b.good)) vectors
unfolding lead_of trailed reach whole_chars choose zero_at name_bytes source_name_of reading
read = refl

pub written : map (λ (b : Bad). checked_of (written_name_checks b.name)) vectors ≡ map (λ (b : Bad). Err (refusal 23 nowhere b.good)) vectors
unfolding lead_of trailed reach whole_chars choose zero_at checked_of reading
written = refl

-- rubbish behind the zero: 80, which goes on with a character if the zero is left out, and bytes that never do
pub rubbish :
    map (λ (b : Bad). source_name_of (take 64 (b.name ++ 0 ∷ 0x80 ∷ replicate 64 0xff))) vectors
    ≡ map (λ (b : Bad). Err (refusal 7 framing b.good)) vectors
unfolding lead_of trailed reach whole_chars choose zero_at source_name_of reading
rubbish = refl
