-- What stands at the byte that is told with a refusal: the field, in the datagram, whose number the refusal has as its value.
use Rattle.std.specs.Prelude.{ℕ, ◌-◌, ◌*◌, ◌/◌, ◌%◌, List}
use Rattle.wire.specs.Fields.{byte_at, u16_at, u32_at}
use Rattle.refusal.specs.Check.{Test, ◌≤?◌, ◌=?◌, ◌and◌}
use Rattle.refusal.specs.declared.Reason.{Reason}
use Rattle.refusal.specs.declared.Reason.TheVariants as why
use Rattle.refusal.specs.declared.VectorIn.{VectorIn}
use Rattle.refusal.specs.declared.VectorIn.TheVariants as vector-in

-- a vector has four bytes, and one in DMP
abbrev pub vector_at : VectorIn → List ℕ → ℕ → ℕ
vector_at vector-in.Root d byte = u32_at d byte
vector_at vector-in.Root2009 d byte = u32_at d byte
vector_at vector-in.Data d byte = u32_at d byte
vector_at vector-in.Extended d byte = u32_at d byte
vector_at vector-in.Dmp d byte = byte_at d byte
vector_at vector-in.Discovery d byte = u32_at d byte

-- a refusal for this reason, with this value, is told at this byte of d: where the value is that of a field, the field stands there. A universe
-- that is out of order is not above the one before it.
abbrev pub there : Reason → List ℕ → ℕ → ℕ → Test
there (why.TooShort s) d byte value = value =? 0
there (why.NotAllowed v) d byte value = value =? 0
there why.Flags d byte value = value =? byte_at d byte / 0x10 * 0x10
there (why.Vector v) d byte value = value =? vector_at v d byte
there (why.Length l) d byte value = value =? u16_at d byte % 0x1000
there why.NameNotEnded d byte value = value =? 0
there why.NameNotUtf8 d byte value = value ≤? 62
there why.Priority d byte value = value =? byte_at d byte
there (why.SyncAddress a) d byte value = value =? u16_at d byte
there why.Universe d byte value = value =? u16_at d byte
there why.Page d byte value = value =? 0
there why.Order d byte value = value =? u16_at d byte and value ≤? u16_at d (byte - 2)
there (why.Missing f) d byte value = value =? 0
there (why.Beyond r) d byte value = value =? u16_at d byte % 0x1000
there why.CountDiffers d byte value = value =? u16_at d byte
there why.LengthDiffers d byte value = value =? u16_at d byte % 0x1000
there why.NoStartCode d byte value = value =? u16_at d byte
