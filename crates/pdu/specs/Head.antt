-- How every layer's part starts. Its first two bytes are four bits of flags and twelve of length; a vector of one byte or four follows.
use Rattle.std.specs.Prelude.{ℕ, ◌+◌, ◌*◌, ◌/◌, ◌%◌, List, [], ◌∷◌, length, Result, Ok, Err}
use Rattle.wire.specs.Fields.{byte_at, u16_at, u32_at, be16, be32, join}
use Rattle.refusal.specs.Check.{Check, check, refusal, ◌≤?◌, ◌=?◌, reading}
use Rattle.refusal.specs.declared.Refusal.{Refusal}
use Rattle.refusal.specs.declared.Reason.TheVariants as why
use Rattle.refusal.specs.declared.Start.TheVariants as start_in
use Rattle.pdu.specs.declared.PduInfo.{PduInfo}
use Rattle.pdu.specs.declared.VectorLength.{VectorLength}
use Rattle.pdu.specs.declared.VectorLength.TheVariants.{One, Four}

abbrev pub size_of : VectorLength → ℕ
size_of One = 1
size_of Four = 4

-- the upper four bits of the first byte, as they stand there
abbrev pub flags_of : List ℕ → ℕ
flags_of p = byte_at p 0 / 0x10 * 0x10

abbrev pub length_of : List ℕ → ℕ
length_of p = u16_at p 0 % 0x1000

abbrev pub vector_of : VectorLength → List ℕ → ℕ
vector_of One p = byte_at p 2
vector_of Four p = u32_at p 2

-- every layer starts: 1 if its part cannot hold flags and vector; 3
abbrev pub head_checks : VectorLength → ℕ → List ℕ → List Check
head_checks n place p =
    check (2 + size_of n ≤? length p) (refusal 1 place 0) (why.TooShort start_in.Layer) 0
    ∷ check (flags_of p =? 0x70) (refusal 3 place (flags_of p)) why.Flags 0
    ∷ []

unfoldable pub info_of : VectorLength → ℕ → List ℕ → Result PduInfo Refusal
info_of n place p = reading Err (head_checks n place p) (Ok (record { length = length_of p; vector = vector_of n p }))

-- flags and length as they are written: the flags 0x70 above twelve bits of length
abbrev pub flags_field : ℕ → ℕ
flags_field n = 0x7000 + n % 0x1000

abbrev pub flags_and_length : ℕ → List ℕ
flags_and_length n = be16 (flags_field n)

-- the start of a layer as it is written: flags and length, a vector of four bytes
abbrev pub layer_head : ℕ → ℕ → List ℕ
layer_head n vector = join (flags_and_length n ∷ be32 vector ∷ [])
