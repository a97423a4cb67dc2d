-- What was wanted of a datagram, in words: by them the checks of one number differ.
use Rattle.std.specs.Prelude.{ℕ, List}
use Rattle.refusal.specs.declared.Reason.{Reason}
use Rattle.refusal.specs.declared.Reason.TheVariants as why
use Rattle.refusal.specs.declared.Start.{Start}
use Rattle.refusal.specs.declared.Start.TheVariants as start_in
use Rattle.refusal.specs.declared.Value.{Value}
use Rattle.refusal.specs.declared.Value.TheVariants as value_in
use Rattle.refusal.specs.declared.VectorIn.{VectorIn}
use Rattle.refusal.specs.declared.VectorIn.TheVariants as vector-in
use Rattle.refusal.specs.declared.LengthIn.{LengthIn}
use Rattle.refusal.specs.declared.LengthIn.TheVariants as length-in
use Rattle.refusal.specs.declared.AddressIn.{AddressIn}
use Rattle.refusal.specs.declared.AddressIn.TheVariants as address-in
use Rattle.refusal.specs.declared.Field.{Field}
use Rattle.refusal.specs.declared.Field.TheVariants as field_of
use Rattle.refusal.specs.declared.Room.{Room}
use Rattle.refusal.specs.declared.Room.TheVariants as room_in
use Rattle.text.specs.Digits.{ascii}

-- what was wanted, and for what
unfoldable pub start_words : Start → List ℕ
start_words start_in.Preamble = ascii "16 for the preamble"
start_words start_in.Layer = ascii "for flags, length and vector "
start_words start_in.Universes = ascii "the universes"

unfoldable pub value_words : Value → List ℕ
value_words value_in.PreambleSize = ascii "preamble size 16"
value_words value_in.PostambleSize = ascii "postamble size 0"
value_words value_in.Identifier = ascii "ASC-E1.17 and three zeros"
value_words value_in.AddressType = ascii "address type 161, which is 0xa1"
value_words value_in.FirstAddress = ascii "first address 0"
value_words value_in.Increment = ascii "address increment 1"
value_words value_in.Count = ascii "a count of at most 513"

unfoldable pub vector_words : VectorIn → List ℕ
vector_words vector-in.Root = ascii "4 for data or 8 for the other packets"
vector_words vector-in.Root2009 = ascii "4 for data, all that 2009 knows"
vector_words vector-in.Data = ascii "2 for data"
vector_words vector-in.Extended = ascii "1 for synchronization or 2 for discovery"
vector_words vector-in.Dmp = ascii "2 for values"
vector_words vector-in.Discovery = ascii "1 for a universe list"

unfoldable pub length_words : LengthIn → List ℕ
length_words length-in.Synchronization = ascii "11 for synchronization"
length_words length-in.DiscoveryFraming = ascii "82 or more for discovery"
length_words length-in.Discovery = ascii "8 to 1032 for a universe list"

unfoldable pub address_words : AddressIn → List ℕ
address_words address-in.Data = ascii "0 to 63999"
address_words address-in.Synchronization = ascii "1 to 63999"

unfoldable pub field_words : Field → List ℕ
field_words field_of.Cid = ascii "length 22, up to the CID"
field_words field_of.Name = ascii "70 bytes, up to the name"
field_words field_of.Priority = ascii "71 bytes, up to the priority"
field_words field_of.SyncAddress = ascii "73 bytes, up to the synchronization address"
field_words field_of.SequenceNumber = ascii "74 bytes, up to the sequence number"
field_words field_of.Options = ascii "75 bytes, up to the options"
field_words field_of.Universe = ascii "77 bytes, up to the universe"
field_words field_of.DmpLayer = ascii "length 77, up to the DMP layer"
field_words field_of.AddressType = ascii "4 bytes, up to the address type"
field_words field_of.FirstAddress = ascii "6 bytes, up to the first address"
field_words field_of.Increment = ascii "8 bytes, up to the address increment"
field_words field_of.Count = ascii "10 bytes, up to the count"

unfoldable pub room_words : Room → List ℕ
room_words room_in.Part = ascii "at most "
room_words room_in.Root = ascii "at most all bytes from byte 16 on, "

-- where a number is wanted that only the datagram has, it stands behind these words (finding_text/specs/Numbers.antt)
unfoldable pub wanted_words : Reason → List ℕ
wanted_words (why.TooShort s) = start_words s
wanted_words (why.NotAllowed v) = value_words v
wanted_words why.Flags = ascii "112, which is 0x70"
wanted_words (why.Vector v) = vector_words v
wanted_words (why.Length l) = length_words l
wanted_words why.NameNotEnded = ascii "one in its 64 bytes"
wanted_words why.NameNotUtf8 = ascii "as many good bytes as the name has"
wanted_words why.Priority = ascii "at most 200"
wanted_words (why.SyncAddress a) = address_words a
wanted_words why.Universe = ascii "1 to 63999"
wanted_words why.Page = ascii "at most the last page, "
wanted_words why.Order = ascii "above "
wanted_words (why.Missing f) = field_words f
wanted_words (why.Beyond r) = room_words r
wanted_words why.CountDiffers = ascii "10 less than the layer's length, which is "
wanted_words why.LengthDiffers = ascii "exactly "
wanted_words why.NoStartCode = ascii "1 to 513"
