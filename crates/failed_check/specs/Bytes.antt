-- Where the told byte lies, in request 06's words and document 01's offsets. The lists of checks do not use it.
use Rattle.std.specs.Prelude.{ℕ, ◌+◌, eqb}
use Rattle.refusal.specs.Check.{Test, pick, ◌≤?◌, ◌=?◌}
use Rattle.refusal.specs.declared.Reason.{Reason}
use Rattle.refusal.specs.declared.Reason.TheVariants as why
use Rattle.refusal.specs.declared.Value.{Value}
use Rattle.refusal.specs.declared.Value.TheVariants as value_in
use Rattle.refusal.specs.declared.AddressIn.{AddressIn}
use Rattle.refusal.specs.declared.AddressIn.TheVariants as address-in

-- the first byte of each layer, by its place
abbrev pub first_byte : ℕ → ℕ
first_byte place =
    pick (eqb place 1) 0 (pick (eqb place 2) 16 (pick (eqb place 3) 38 (pick (eqb place 4) 115 (pick (eqb place 5) 112 120))))

-- the offsets of the fields that have to have a certain value, and of the two synchronization addresses
abbrev pub value_at : Value → ℕ
value_at value_in.PreambleSize = 0
value_at value_in.PostambleSize = 2
value_at value_in.Identifier = 4
value_at value_in.AddressType = 118
value_at value_in.FirstAddress = 119
value_at value_in.Increment = 121
value_at value_in.Count = 123

abbrev pub address_at : AddressIn → ℕ
address_at address-in.Data = 109
address_at address-in.Synchronization = 45

-- For 1, 5, 13, 14 and 16 the layer's first byte, 0 for the preamble; flags are a layer's first byte, a vector's byte is its own; otherwise the
-- first byte of the field, for 11 of the page. Of 12 it is that of a universe behind the first (that it is the offending one: `what_is_there`, in `demands`).
abbrev pub lies : Reason → ℕ → ℕ → Test
lies (why.TooShort s) place byte = byte =? first_byte place
lies (why.NotAllowed v) place byte = byte =? value_at v
lies why.Flags place byte = byte =? first_byte place
lies (why.Vector v) place byte = byte =? first_byte place + 2
lies (why.Length l) place byte = byte =? first_byte place
lies why.NameNotEnded place byte = byte =? 44
lies why.NameNotUtf8 place byte = byte =? 44
lies why.Priority place byte = byte =? 108
lies (why.SyncAddress a) place byte = byte =? address_at a
lies why.Universe place byte = byte =? 113
lies why.Page place byte = byte =? 118
lies why.Order place byte = 122 ≤? byte
lies (why.Missing f) place byte = byte =? first_byte place
lies (why.Beyond r) place byte = byte =? first_byte place
lies why.CountDiffers place byte = byte =? 123
lies why.LengthDiffers place byte = byte =? first_byte place
lies why.NoStartCode place byte = byte =? 123

-- the number that a reason is told with
abbrev pub number_of : Reason → ℕ
number_of (why.TooShort s) = 1
number_of (why.NotAllowed v) = 2
number_of why.Flags = 3
number_of (why.Vector v) = 4
number_of (why.Length l) = 5
number_of why.NameNotEnded = 6
number_of why.NameNotUtf8 = 7
number_of why.Priority = 8
number_of (why.SyncAddress a) = 9
number_of why.Universe = 10
number_of why.Page = 11
number_of why.Order = 12
number_of (why.Missing f) = 13
number_of (why.Beyond r) = 14
number_of why.CountDiffers = 15
number_of why.LengthDiffers = 16
number_of why.NoStartCode = 17
