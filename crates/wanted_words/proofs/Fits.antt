-- How long the words can be. Assumes nothing.
use Rattle.std.proofs.Common.{◌≤◌, length, arith}
use Rattle.refusal.specs.declared.Reason.{Reason}
use Rattle.refusal.specs.declared.Reason.TheVariants as why
use Rattle.refusal.specs.declared.Start.{Start}
use Rattle.refusal.specs.declared.Start.TheVariants as start_in
use Rattle.refusal.specs.declared.Value.{Value}
use Rattle.refusal.specs.declared.Value.TheVariants as value_in
use Rattle.refusal.specs.declared.VectorIn.{VectorIn}
use Rattle.refusal.specs.declared.VectorIn.TheVariants as vector-in
use Rattle.refusal.specs.declared.LengthIn.{LengthIn}
use Rattle.refusal.specs.declared.LengthIn.TheVariants as length-in
use Rattle.refusal.specs.declared.AddressIn.{AddressIn}
use Rattle.refusal.specs.declared.AddressIn.TheVariants as address-in
use Rattle.refusal.specs.declared.Field.{Field}
use Rattle.refusal.specs.declared.Field.TheVariants as field_of
use Rattle.refusal.specs.declared.Room.{Room}
use Rattle.refusal.specs.declared.Room.TheVariants as room_in
use Rattle.wanted_words.specs.Words.{start_words, value_words, vector_words, length_words, address_words, field_words, room_words, wanted_words}

starts_fit : (x : Start) → length (start_words x) ≤ 50
unfolding start_words
starts_fit start_in.Preamble = omega arith
starts_fit start_in.Layer = omega arith
starts_fit start_in.Universes = omega arith

values_fit : (x : Value) → length (value_words x) ≤ 50
unfolding value_words
values_fit value_in.PreambleSize = omega arith
values_fit value_in.PostambleSize = omega arith
values_fit value_in.Identifier = omega arith
values_fit value_in.AddressType = omega arith
values_fit value_in.FirstAddress = omega arith
values_fit value_in.Increment = omega arith
values_fit value_in.Count = omega arith

vectors_fit : (x : VectorIn) → length (vector_words x) ≤ 50
unfolding vector_words
vectors_fit vector-in.Root = omega arith
vectors_fit vector-in.Root2009 = omega arith
vectors_fit vector-in.Data = omega arith
vectors_fit vector-in.Extended = omega arith
vectors_fit vector-in.Dmp = omega arith
vectors_fit vector-in.Discovery = omega arith

lengths_fit : (x : LengthIn) → length (length_words x) ≤ 50
unfolding length_words
lengths_fit length-in.Synchronization = omega arith
lengths_fit length-in.DiscoveryFraming = omega arith
lengths_fit length-in.Discovery = omega arith

addresses_fit : (x : AddressIn) → length (address_words x) ≤ 50
unfolding address_words
addresses_fit address-in.Data = omega arith
addresses_fit address-in.Synchronization = omega arith

fields_fit : (x : Field) → length (field_words x) ≤ 50
unfolding field_words
fields_fit field_of.Cid = omega arith
fields_fit field_of.Name = omega arith
fields_fit field_of.Priority = omega arith
fields_fit field_of.SyncAddress = omega arith
fields_fit field_of.SequenceNumber = omega arith
fields_fit field_of.Options = omega arith
fields_fit field_of.Universe = omega arith
fields_fit field_of.DmpLayer = omega arith
fields_fit field_of.AddressType = omega arith
fields_fit field_of.FirstAddress = omega arith
fields_fit field_of.Increment = omega arith
fields_fit field_of.Count = omega arith

rooms_fit : (x : Room) → length (room_words x) ≤ 50
unfolding room_words
rooms_fit room_in.Part = omega arith
rooms_fit room_in.Root = omega arith

pub wanted_fits : (r : Reason) → length (wanted_words r) ≤ 50
unfolding wanted_words
wanted_fits (why.TooShort x) = starts_fit x
wanted_fits (why.NotAllowed x) = values_fit x
wanted_fits why.Flags = omega arith
wanted_fits (why.Vector x) = vectors_fit x
wanted_fits (why.Length x) = lengths_fit x
wanted_fits why.NameNotEnded = omega arith
wanted_fits why.NameNotUtf8 = omega arith
wanted_fits why.Priority = omega arith
wanted_fits (why.SyncAddress x) = addresses_fit x
wanted_fits why.Universe = omega arith
wanted_fits why.Page = omega arith
wanted_fits why.Order = omega arith
wanted_fits (why.Missing x) = fields_fit x
wanted_fits (why.Beyond x) = rooms_fit x
wanted_fits why.CountDiffers = omega arith
wanted_fits why.LengthDiffers = omega arith
wanted_fits why.NoStartCode = omega arith
