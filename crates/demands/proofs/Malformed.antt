-- Names that are not UTF-8, through the definition of each call that tells it: 7 and 23 do occur, and with these values. By computation; assumes
-- nothing.
use Rattle.std.specs.Prelude.{Err}
use Prim.Native.Nat.{ℕ}
use mathlib.Core.Path.{◌≡◌, refl}
use mathlib.Core.Bool.{false}
use mathlib.Core.List.{List, [], ◌∷◌, map}
use lib.ListN.{replicate}
use Rattle.wire.specs.Fields.{u16_at, u32_at}
use Rattle.refusal.specs.Check.{refusal, framing, nowhere, choose, reading}
use Rattle.name.specs.Name.{zero_at, name_bytes}
use Rattle.name.specs.Utf8.{whole_chars, reach, lead_of, trailed}
use Rattle.name.proofs.Examples.{Bad, vectors}
use Rattle.discovery.specs.declared.DiscoveryFields.{DiscoveryFields}
use Rattle.dmp.specs.Layer.{dmp_bytes}
use Rattle.discovery.specs.Layer as discoveryLayer
use Rattle.discovery.specs.Universes.{universe_bytes}
use Rattle.framing.specs.Bytes.{data_framing_bytes}
use Rattle.framing.specs.declared.DataFields.{DataFields}
use Rattle.extended.specs.Bytes.{discovery_framing_bytes}
use Rattle.packet.specs.Packet.{packet_of, reading_of}
use Rattle.packet.specs.declared.Packet.TheVariants.{Refused}
use Rattle.edition2009.specs.Packet.{packet2009_of, reading2009_of}
use Rattle.edition2009.specs.declared.Packet2009.TheVariants as old
use Rattle.pack.specs.Writing.{data_bytes, discovery_bytes, data_length, discovery_length, data_write_checks, discovery_write_checks, packed_of}

-- packets with each name, which no writer would write
abbrev pub cid : List ℕ
cid = replicate 16 0x11

abbrev values : List ℕ
values = 0 ∷ []

abbrev universes : List ℕ
universes = 1 ∷ []

abbrev pub plain : DataFields
plain = record {
  priority = 100;
  synchronization_address = 0;
  sequence_number = 1;
  preview_data = false;
  stream_terminated = false;
  force_synchronization = false;
  universe = 1;
}

abbrev page : DiscoveryFields
page = record { page = 0; last_page = 0 }

abbrev data_named : Bad → List ℕ
data_named b = data_bytes cid plain b.name values

abbrev discovery_named : Bad → List ℕ
discovery_named b = discovery_bytes cid page b.name universes

pub data_read : map (λ (b : Bad). (reading_of (data_named b)).packet) vectors ≡ map (λ (b : Bad). Refused (refusal 7 framing b.good)) vectors
unfolding reading_of packet_of reading choose u16_at u32_at zero_at whole_chars reach lead_of trailed data_bytes data_framing_bytes dmp_bytes name_bytes
data_read = refl

pub data_read_2009 :
    map (λ (b : Bad). (reading2009_of (data_named b)).packet) vectors ≡ map (λ (b : Bad). old.Refused (refusal 7 framing b.good)) vectors
unfolding reading2009_of packet2009_of reading choose u16_at u32_at zero_at whole_chars reach lead_of trailed data_bytes data_framing_bytes dmp_bytes name_bytes
data_read_2009 = refl

pub discovery_read :
    map (λ (b : Bad). (reading_of (discovery_named b)).packet) vectors ≡ map (λ (b : Bad). Refused (refusal 7 framing b.good)) vectors
unfolding reading_of packet_of reading choose u16_at u32_at zero_at whole_chars reach lead_of trailed discovery_bytes discovery_framing_bytes discoveryLayer.discovery_bytes universe_bytes name_bytes
discovery_read = refl

-- each into a buffer with room for it
pub data_written :
    map (λ (b : Bad). packed_of (data_write_checks 638 b.name values) (data_length values)) vectors
    ≡ map (λ (b : Bad). Err (refusal 23 nowhere b.good)) vectors
unfolding packed_of reading choose zero_at whole_chars reach lead_of trailed
data_written = refl

pub discovery_written :
    map (λ (b : Bad). packed_of (discovery_write_checks 638 b.name universes) (discovery_length universes)) vectors
    ≡ map (λ (b : Bad). Err (refusal 23 nowhere b.good)) vectors
unfolding packed_of reading choose zero_at whole_chars reach lead_of trailed
discovery_written = refl
