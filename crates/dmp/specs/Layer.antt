-- The DMP layer of a data packet. Offsets count from the layer's first byte, in its part p.
use Rattle.std.specs.Prelude.{ℕ, ◌+◌, List, [], ◌∷◌, ◌++◌, length, Result, Ok, Err}
use Rattle.wire.specs.Fields.{byte_at, u16_at, be16, join}
use Rattle.refusal.specs.Check.{Check, check, refusal, dmp, reaches, fits, ◌≤?◌, ◌=?◌, reading}
use Rattle.refusal.specs.declared.Refusal.{Refusal}
use Rattle.refusal.specs.declared.Reason.TheVariants as why
use Rattle.refusal.specs.declared.Field.TheVariants as field_of
use Rattle.refusal.specs.declared.Value.TheVariants as value_in
use Rattle.refusal.specs.declared.VectorIn.TheVariants as vector-in
use Rattle.pdu.specs.Head.{head_checks, length_of, vector_of, flags_and_length}
use Rattle.pdu.specs.declared.VectorLength.TheVariants.{One}

abbrev pub count_of : List ℕ → ℕ
count_of p = u16_at p 8

-- 14 if its length exceeds its part; 4; 2 for address type, first address, increment in turn
abbrev pub start_checks : List ℕ → ℕ → ℕ → List Check
start_checks p len vec =
    fits len dmp (length p)
    ∷ check (vec =? 2) (refusal 4 dmp vec) (why.Vector vector-in.Dmp) 2
    ∷ reaches 4 dmp p field_of.AddressType
    ∷ check (byte_at p 3 =? 0xa1) (refusal 2 dmp 0) (why.NotAllowed value_in.AddressType) 3
    ∷ reaches 6 dmp p field_of.FirstAddress
    ∷ check (u16_at p 4 =? 0) (refusal 2 dmp 0) (why.NotAllowed value_in.FirstAddress) 4
    ∷ reaches 8 dmp p field_of.Increment
    ∷ check (u16_at p 6 =? 1) (refusal 2 dmp 0) (why.NotAllowed value_in.Increment) 6
    ∷ []

-- 15 if count + 10 differs from length; 17 if count is 0, for the start code comes first; 2 if count is above 513
abbrev pub count_checks : List ℕ → ℕ → List Check
count_checks p len =
    reaches 10 dmp p field_of.Count
    ∷ check (count_of p + 10 =? len) (refusal 15 dmp (count_of p)) why.CountDiffers 8
    ∷ check (1 ≤? count_of p) (refusal 17 dmp 0) why.NoStartCode 8
    ∷ check (count_of p ≤? 513) (refusal 2 dmp 0) (why.NotAllowed value_in.Count) 8
    ∷ []

abbrev pub body_checks : List ℕ → ℕ → ℕ → List Check
body_checks p len vec = start_checks p len vec ++ count_checks p len

abbrev pub dmp_checks : List ℕ → List Check
dmp_checks p = head_checks One dmp p ++ body_checks p (length_of p) (vector_of One p)

-- how many values a layer has
unfoldable pub dmp_of : List ℕ → Result ℕ Refusal
dmp_of p = reading Err (dmp_checks p) (Ok (count_of p))

-- the answer from a place of the list on: after the layer's start, at the count
unfoldable pub body_of : List ℕ → ℕ → ℕ → Result ℕ Refusal
body_of p len vec = reading Err (body_checks p len vec) (Ok (count_of p))

unfoldable pub counted_of : List ℕ → ℕ → Result ℕ Refusal
counted_of p len = reading Err (count_checks p len) (Ok (count_of p))

-- flags and length, vector, address type, first address, increment, count; then the values
abbrev pub dmp_head : ℕ → List ℕ
dmp_head count = join (flags_and_length (10 + count) ∷ (2 ∷ []) ∷ (0xa1 ∷ []) ∷ be16 0 ∷ be16 1 ∷ be16 count ∷ [])

unfoldable pub dmp_bytes : List ℕ → List ℕ
dmp_bytes values = dmp_head (length values) ++ values
