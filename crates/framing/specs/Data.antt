-- The framing layer of a data packet, in both editions. Offsets count from the layer's first byte, in its part p.
use Rattle.std.specs.Prelude.{ℕ, ◌-◌, ◌/◌, ◌%◌, Bool, List, [], ◌∷◌, ◌++◌, length, take, drop, eqb, Result, Ok, Err}
use Rattle.wire.specs.Fields.{byte_at, u16_at}
use Rattle.refusal.specs.Check.{Check, check, refusal, framing, reaches, fits, ◌≤?◌, ◌=?◌, ◌and◌, reading}
use Rattle.refusal.specs.declared.Refusal.{Refusal}
use Rattle.refusal.specs.declared.Reason.TheVariants as why
use Rattle.refusal.specs.declared.AddressIn.TheVariants as address-in
use Rattle.refusal.specs.declared.Field.TheVariants as field_of
use Rattle.refusal.specs.declared.VectorIn.TheVariants as vector-in
use Rattle.name.specs.Name.{name_field, zero_at, source_name_checks}
use Rattle.pdu.specs.Head.{head_checks, length_of, vector_of}
use Rattle.pdu.specs.declared.VectorLength.TheVariants.{Four}
use Rattle.dmp.specs.Layer.{dmp_checks, count_of}
use Rattle.pdu.specs.declared.Edition.{Edition}
use Rattle.pdu.specs.declared.Edition.TheVariants.{E2018, E2009}
use Rattle.framing.specs.declared.DataFraming.{DataFraming}
use Rattle.framing.specs.declared.DataFields.{DataFields}

-- the DMP layer's part, byte 77 up to the framing length
abbrev pub dmp_part : List ℕ → ℕ → List ℕ
dmp_part p len = take (len - 77) (drop 77 p)

-- 14 if its length exceeds its part; 4; the name's field has to be there
abbrev pub start_checks : List ℕ → ℕ → ℕ → List Check
start_checks p len vec =
    fits len framing (length p)
    ∷ check (vec =? 2) (refusal 4 framing vec) (why.Vector vector-in.Data) 2
    ∷ reaches 70 framing p field_of.Name
    ∷ []

-- priority above 200
abbrev pub priority_checks : List ℕ → List Check
priority_checks p = reaches 71 framing p field_of.Priority ∷ check (byte_at p 70 ≤? 200) (refusal 8 framing (byte_at p 70)) why.Priority 70 ∷ []

-- sync address above 63999: the 2009 edition does not look at it
abbrev pub sync_address_checks : Edition → List ℕ → List Check
sync_address_checks E2018 p = reaches 73 framing p field_of.SyncAddress ∷ check (u16_at p 71 ≤? 63999) (refusal 9 framing (u16_at p 71)) (why.SyncAddress address-in.Data) 71 ∷ []
sync_address_checks E2009 p = []

-- sequence; options; universe outside 1..63999; 13 if the framing length is below 77
abbrev pub universe_checks : List ℕ → ℕ → List Check
universe_checks p len =
    reaches 74 framing p field_of.SequenceNumber
    ∷ reaches 75 framing p field_of.Options
    ∷ reaches 77 framing p field_of.Universe
    ∷ check (1 ≤? u16_at p 75 and u16_at p 75 ≤? 63999) (refusal 10 framing (u16_at p 75)) why.Universe 75
    ∷ check (77 ≤? len) (refusal 13 framing 0) (why.Missing field_of.DmpLayer) 0
    ∷ []

-- these, and then the DMP layer
abbrev pub rest_checks : List ℕ → ℕ → List Check
rest_checks p len = universe_checks p len ++ dmp_checks (dmp_part p len)

abbrev pub field_checks : Edition → List ℕ → ℕ → List Check
field_checks edition p len = priority_checks p ++ (sync_address_checks edition p ++ rest_checks p len)

-- the name (6, 7) comes before the other fields
abbrev pub body_checks : Edition → List ℕ → ℕ → ℕ → List Check
body_checks edition p len vec = start_checks p len vec ++ (source_name_checks (name_field p) ++ field_checks edition p len)

abbrev pub data_checks : Edition → List ℕ → List Check
data_checks edition p = head_checks Four framing p ++ body_checks edition p (length_of p) (vector_of Four p)

-- what is read of the layer: how many bytes its name has, and how many values it carries
abbrev pub layer_named : ℕ → List ℕ → ℕ → DataFraming
layer_named name p len = record { name = name; values = count_of (dmp_part p len) }

abbrev pub layer_of : List ℕ → ℕ → DataFraming
layer_of p len = layer_named (zero_at (name_field p)) p len

unfoldable pub data_of : Edition → List ℕ → Result DataFraming Refusal
data_of edition p = reading Err (data_checks edition p) (Ok (layer_of p (length_of p)))

-- the answer from a place of the list on: after the start, after the name, after the sync address
unfoldable pub body_of : Edition → List ℕ → ℕ → ℕ → Result DataFraming Refusal
body_of edition p len vec = reading Err (body_checks edition p len vec) (Ok (layer_of p len))

unfoldable pub after_name : Edition → ℕ → List ℕ → ℕ → Result DataFraming Refusal
after_name edition name p len = reading Err (field_checks edition p len) (Ok (layer_named name p len))

unfoldable pub after_sync_address : ℕ → List ℕ → ℕ → Result DataFraming Refusal
after_sync_address name p len = reading Err (rest_checks p len) (Ok (layer_named name p len))

-- an option is a bit of its byte: 0x80 preview, 0x40 terminated, 0x20 force synchronization
abbrev pub option : ℕ → ℕ → Bool
option bit options = eqb (options / bit % 2) 1

abbrev pub fields_of : List ℕ → DataFields
fields_of p = record {
  priority = byte_at p 70;
  synchronization_address = u16_at p 71;
  sequence_number = byte_at p 73;
  preview_data = option 0x80 (byte_at p 74);
  stream_terminated = option 0x40 (byte_at p 74);
  force_synchronization = option 0x20 (byte_at p 74);
  universe = u16_at p 75;
}
