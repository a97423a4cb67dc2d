-- The numbers that are told beside the words: what was there, and what was wanted where only the datagram has it.
use Rattle.std.specs.Prelude.{ℕ, ◌+◌, ◌-◌, ◌%◌, List, eqb, length, Option, Some, None}
use Rattle.wire.specs.Fields.{byte_at, u16_at}
use Rattle.refusal.specs.Check.{pick, start_of, preamble, root, framing, dmp}
use Rattle.refusal.specs.declared.Reason.{Reason}
use Rattle.refusal.specs.declared.Reason.TheVariants as why
use Rattle.refusal.specs.declared.Start.{Start}
use Rattle.refusal.specs.declared.Start.TheVariants as start_in
use Rattle.refusal.specs.declared.Value.{Value}
use Rattle.refusal.specs.declared.Value.TheVariants as value_in
use Rattle.refusal.specs.declared.Field.{Field}
use Rattle.refusal.specs.declared.Field.TheVariants as field_of
use Rattle.refusal.specs.declared.Room.{Room}
use Rattle.refusal.specs.declared.Room.TheVariants as room_in
use Rattle.failed_check.specs.declared.Fault.{Fault}
use Rattle.finding_text.specs.declared.numbers.Source.{Source}
use Rattle.finding_text.specs.declared.numbers.Source.TheVariants as source

-- the twelve bits of a layer's length, by the layer's first byte
abbrev pub length_at : List ℕ → ℕ → ℕ
length_at d at = u16_at d at % 0x1000

-- how many bytes there are for a place, once all before it was found good
abbrev pub room_at : List ℕ → ℕ → ℕ
room_at d place =
    pick (eqb place preamble) (length d)
    (pick (eqb place root) (length d - 16)
    (pick (eqb place framing) (length_at d 16 - 22) (pick (eqb place dmp) (length_at d 38 - 77) (length_at d 38 - 74))))

-- flags, length and vector, which has one byte in DMP and four elsewhere
abbrev pub head_at : ℕ → ℕ
head_at place = pick (eqb place dmp) 3 6

-- what a number is, by where it comes from
unfoldable pub shown_of : Source → List ℕ → Fault → Option ℕ
shown_of source.Nowhere d f = None
shown_of source.Value d f = Some f.refusal.value
shown_of source.Byte d f = Some (byte_at d f.check.byte)
shown_of source.Word d f = Some (u16_at d f.check.byte)
shown_of source.NextByte d f = Some (byte_at d (f.check.byte + 1))
shown_of source.WordBefore d f = Some (u16_at d (f.check.byte - 2))
shown_of source.Length d f = Some (length_at d (start_of f.refusal.place))
shown_of source.Room d f = Some (room_at d f.refusal.place)
shown_of source.RootRoom d f = Some (room_at d root)
shown_of source.Head d f = Some (head_at f.refusal.place)

-- what was there
abbrev pub found_start : Start → Source
found_start start_in.Preamble = source.Room
found_start start_in.Layer = source.Room
found_start start_in.Universes = source.Nowhere

abbrev pub found_value : Value → Source
found_value value_in.PreambleSize = source.Word
found_value value_in.PostambleSize = source.Word
found_value value_in.Identifier = source.Nowhere
found_value value_in.AddressType = source.Byte
found_value value_in.FirstAddress = source.Word
found_value value_in.Increment = source.Word
found_value value_in.Count = source.Word

abbrev pub found_field : Field → Source
found_field field_of.Cid = source.Length
found_field field_of.Name = source.Room
found_field field_of.Priority = source.Room
found_field field_of.SyncAddress = source.Room
found_field field_of.SequenceNumber = source.Room
found_field field_of.Options = source.Room
found_field field_of.Universe = source.Room
found_field field_of.DmpLayer = source.Length
found_field field_of.AddressType = source.Room
found_field field_of.FirstAddress = source.Room
found_field field_of.Increment = source.Room
found_field field_of.Count = source.Room

abbrev pub found : Reason → Source
found (why.TooShort s) = found_start s
found (why.NotAllowed v) = found_value v
found why.Flags = source.Value
found (why.Vector v) = source.Value
found (why.Length l) = source.Value
found why.NameNotEnded = source.Nowhere
found why.NameNotUtf8 = source.Value
found why.Priority = source.Value
found (why.SyncAddress a) = source.Value
found why.Universe = source.Value
found why.Page = source.Byte
found why.Order = source.Value
found (why.Missing f) = found_field f
found (why.Beyond r) = source.Value
found why.CountDiffers = source.Value
found why.LengthDiffers = source.Value
found why.NoStartCode = source.Word

-- what was wanted, where the words leave it open
abbrev pub limit_start : Start → Source
limit_start start_in.Preamble = source.Nowhere
limit_start start_in.Layer = source.Head
limit_start start_in.Universes = source.Nowhere

abbrev pub limit_room : Room → Source
limit_room room_in.Part = source.Room
limit_room room_in.Root = source.RootRoom

abbrev pub limit : Reason → Source
limit (why.TooShort s) = limit_start s
limit (why.NotAllowed v) = source.Nowhere
limit why.Flags = source.Nowhere
limit (why.Vector v) = source.Nowhere
limit (why.Length l) = source.Nowhere
limit why.NameNotEnded = source.Nowhere
limit why.NameNotUtf8 = source.Nowhere
limit why.Priority = source.Nowhere
limit (why.SyncAddress a) = source.Nowhere
limit why.Universe = source.Nowhere
limit why.Page = source.NextByte
limit why.Order = source.WordBefore
limit (why.Missing f) = source.Nowhere
limit (why.Beyond r) = limit_room r
limit why.CountDiffers = source.Length
limit why.LengthDiffers = source.Room
limit why.NoStartCode = source.Nowhere
