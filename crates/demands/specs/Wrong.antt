-- What is wrong with a datagram, by its own numbers: the sentences of `wrong_words` and `wanted_words` as tests. A reason is told for a datagram of
-- which its test holds.
use Rattle.std.specs.Prelude.{ℕ, ◌+◌, ◌-◌, List, length, take, drop}
use Rattle.wire.specs.Fields.{byte_at, u16_at, u32_at}
use Rattle.refusal.specs.Check.{Test, root, ◌≤?◌, ◌=?◌, ◌≠?◌, ◌and◌, ◌or◌}
use Rattle.refusal.specs.declared.Reason.{Reason}
use Rattle.refusal.specs.declared.Reason.TheVariants as why
use Rattle.refusal.specs.declared.Start.{Start}
use Rattle.refusal.specs.declared.Start.TheVariants as start_in
use Rattle.refusal.specs.declared.Value.{Value}
use Rattle.refusal.specs.declared.Value.TheVariants as value_in
use Rattle.refusal.specs.declared.VectorIn.{VectorIn}
use Rattle.refusal.specs.declared.VectorIn.TheVariants as vector-in
use Rattle.refusal.specs.declared.LengthIn.{LengthIn}
use Rattle.refusal.specs.declared.LengthIn.TheVariants as length-in
use Rattle.refusal.specs.declared.AddressIn.{AddressIn}
use Rattle.refusal.specs.declared.AddressIn.TheVariants as address-in
use Rattle.refusal.specs.declared.Field.{Field}
use Rattle.refusal.specs.declared.Field.TheVariants as field_of
use Rattle.refusal.specs.declared.Room.{Room}
use Rattle.refusal.specs.declared.Room.TheVariants as room_in
use Rattle.name.specs.Name.{zero_at}
use Rattle.finding_text.specs.Numbers.{length_at, room_at, head_at}

-- too few bytes for the start of something; a list of universes always has them
abbrev pub no_start : Start → List ℕ → ℕ → Test
no_start start_in.Preamble d place = length d ≤? 15
no_start start_in.Layer d place = room_at d place + 1 ≤? head_at place
no_start start_in.Universes d place = 1 ≤? 0

abbrev pub wrong_value : Value → List ℕ → Test
wrong_value value_in.PreambleSize d = u16_at d 0 ≠? 16
wrong_value value_in.PostambleSize d = u16_at d 2 ≠? 0
wrong_value value_in.Identifier d = u32_at d 4 ≠? 0x4153432d or u32_at d 8 ≠? 0x45312e31 or u32_at d 12 ≠? 0x37000000
wrong_value value_in.AddressType d = byte_at d 118 ≠? 161
wrong_value value_in.FirstAddress d = u16_at d 119 ≠? 0
wrong_value value_in.Increment d = u16_at d 121 ≠? 1
wrong_value value_in.Count d = 514 ≤? u16_at d 123

abbrev pub wrong_vector : VectorIn → ℕ → Test
wrong_vector vector-in.Root v = v ≠? 4 and v ≠? 8
wrong_vector vector-in.Root2009 v = v ≠? 4
wrong_vector vector-in.Data v = v ≠? 2
wrong_vector vector-in.Extended v = v ≠? 1 and v ≠? 2
wrong_vector vector-in.Dmp v = v ≠? 2
wrong_vector vector-in.Discovery v = v ≠? 1

abbrev pub wrong_length : LengthIn → ℕ → Test
wrong_length length-in.Synchronization n = n ≠? 11
wrong_length length-in.DiscoveryFraming n = n ≤? 81
wrong_length length-in.Discovery n = 1033 ≤? n

abbrev pub wrong_address : AddressIn → ℕ → Test
wrong_address address-in.Data a = 64000 ≤? a
wrong_address address-in.Synchronization a = a =? 0 or 64000 ≤? a

-- how many bytes a layer has is told by the length of the one around it; the CID and the DMP layer are missed by the layer's own length
abbrev pub missing : Field → List ℕ → ℕ → Test
missing field_of.Cid d place = length_at d 16 ≤? 21
missing field_of.Name d place = room_at d place ≤? 69
missing field_of.Priority d place = room_at d place =? 70
missing field_of.SyncAddress d place = 71 ≤? room_at d place and room_at d place ≤? 72
missing field_of.SequenceNumber d place = 71 ≤? room_at d place and room_at d place ≤? 73
missing field_of.Options d place = room_at d place =? 74
missing field_of.Universe d place = 75 ≤? room_at d place and room_at d place ≤? 76
missing field_of.DmpLayer d place = length_at d 38 ≤? 76
missing field_of.AddressType d place = room_at d place ≤? 3
missing field_of.FirstAddress d place = 4 ≤? room_at d place and room_at d place ≤? 5
missing field_of.Increment d place = 6 ≤? room_at d place and room_at d place ≤? 7
missing field_of.Count d place = 8 ≤? room_at d place and room_at d place ≤? 9

abbrev pub beyond : Room → List ℕ → ℕ → ℕ → Test
beyond room_in.Part d place n = room_at d place + 1 ≤? n
beyond room_in.Root d place n = room_at d root + 1 ≤? n

-- of a refusal at this place and byte, with this value
abbrev pub wrong : Reason → List ℕ → ℕ → ℕ → ℕ → Test
wrong (why.TooShort s) d place byte value = no_start s d place
wrong (why.NotAllowed v) d place byte value = wrong_value v d
wrong why.Flags d place byte value = value ≠? 112
wrong (why.Vector v) d place byte value = wrong_vector v value
wrong (why.Length l) d place byte value = wrong_length l value
wrong why.NameNotEnded d place byte value = 64 ≤? zero_at (take 64 (drop 44 d))
wrong why.NameNotUtf8 d place byte value = value + 1 ≤? zero_at (take 64 (drop 44 d))
wrong why.Priority d place byte value = 201 ≤? value
wrong (why.SyncAddress a) d place byte value = wrong_address a value
wrong why.Universe d place byte value = value =? 0 or 64000 ≤? value
wrong why.Page d place byte value = byte_at d 119 + 1 ≤? byte_at d 118
wrong why.Order d place byte value = value ≤? u16_at d (byte - 2)
wrong (why.Missing f) d place byte value = missing f d place
wrong (why.Beyond r) d place byte value = beyond r d place value
wrong why.CountDiffers d place byte value = value + 10 ≠? length_at d 115
wrong why.LengthDiffers d place byte value = value ≠? room_at d place
wrong why.NoStartCode d place byte value = u16_at d 123 =? 0
