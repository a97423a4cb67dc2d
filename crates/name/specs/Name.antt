-- Names in a field, and names that may be written.
use Rattle.std.specs.Prelude.{ℕ, suc, ◌+◌, ◌<◌, ◌≡◌, List, [], ◌∷◌, ◌++◌, length, take, drop, replicate, Result, Ok, Err}
use Rattle.refusal.specs.Check.{Check, check, Numbered, numbered, refusal, framing, nowhere, ◌≤?◌, ◌=?◌, choose, reading}
use Rattle.refusal.specs.declared.Refusal.{Refusal}
use Rattle.refusal.specs.declared.Reason.TheVariants as why
use Rattle.name.specs.Utf8.{whole_chars, well_formed}
use Rattle.name.specs.declared.walk.Walked.{Walked}

-- the field of a name, bytes 6..69 of the part of each framing layer that has one
abbrev pub name_field : List ℕ → List ℕ
name_field p = take 64 (drop 6 p)

-- how many bytes stand before the first zero, or all of them
unfoldable pub zero_at : List ℕ → ℕ
zero_at [] = 0
zero_at (b ∷ bs) = choose (b =? 0) 0 (suc (zero_at bs))

-- a name ends before its first zero
abbrev pub text_of : List ℕ → List ℕ
text_of field = take (zero_at field) field

-- a field that has a zero, and one that is the same up to it
pub record Alike (field other : List ℕ) : Type 0 where
  pub ended : zero_at field < length field
  pub front : take (zero_at field + 1) field ≡ take (zero_at field + 1) other

-- what one pass over a field tells: where the name ends, and how many of its leading bytes form whole characters
abbrev pub walked_of : List ℕ → Walked
walked_of field = record { len = zero_at field; whole = whole_chars (text_of field) }

-- 6: no zero; 7: not UTF-8, and how many leading bytes of the name form whole characters
abbrev pub source_name_checks : List ℕ → List Check
source_name_checks field =
    check (zero_at field + 1 ≤? length field) (refusal 6 framing 0) why.NameNotEnded 6
    ∷ check (well_formed (text_of field)) (refusal 7 framing (whole_chars (text_of field))) why.NameNotUtf8 6
    ∷ []

-- how many bytes it has
unfoldable pub source_name_of : List ℕ → Result ℕ Refusal
source_name_of field = reading Err (source_name_checks field) (Ok (zero_at field))

-- 21: above 63 bytes; 22: has a zero; 23: not UTF-8, and how many of its leading bytes form whole characters
abbrev pub written_name_checks : List ℕ → List Numbered
written_name_checks name =
    numbered (length name ≤? 63) (refusal 21 nowhere 0)
    ∷ numbered (length name ≤? zero_at name) (refusal 22 nowhere 0)
    ∷ numbered (well_formed name) (refusal 23 nowhere (whole_chars name))
    ∷ []

-- a name as it is written: zeros follow it up to the field's 64 bytes
unfoldable pub name_bytes : List ℕ → List ℕ
name_bytes name = take 64 (name ++ replicate 64 0)
