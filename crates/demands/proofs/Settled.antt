-- Demand 1 for the calls that read and write packets: two results that satisfy a call's contract are equal, of a returned part its bytes, and so are
-- two buffers at exit. Each line names the call, and its contract is what the kit made of the call's own `ensures`. `SettledText`, `SettledEdge` and
-- `SettledSystem` have the other libraries' calls. Assumes nothing.
use denote.RattleType.{RattleType}
use denote.Param.Laws.{Laws}
use lib.ListN.{take}
use Rattle.name.specs.Name.{Alike}
use Rattle.name.proofs.Decided.{alike}
use Rattle.refusal.proofs as Refusal
use Rattle.wire.proofs as Wire
use Rattle.universe.proofs as Universe
use Rattle.name.proofs as Name
use Rattle.pdu.proofs as Pdu
use Rattle.dmp.proofs as Dmp
use Rattle.discovery.proofs as Discovery
use Rattle.framing.proofs as Framing
use Rattle.extended.proofs as Extended
use Rattle.root.proofs as Root
use Rattle.packet.proofs as Packet
use Rattle.parts.proofs as Parts
use Rattle.pack.proofs as Pack
use Rattle.edition2009.proofs as Edition2009
use Rattle.failed_check.proofs as FailedCheck
use Rattle.demands.proofs.Contracts.{Settled, settled, SettledAlike, settled_alike, SettledAs, settled_as, SettledWith, settled_with}

-- refusal
pub new : Settled Refusal.Refusal.new.Reads.Learnt
new = settled (λ k a r e p. p)

-- for whatever it would have handed back
pub refuse : (T : RattleType) (l : Laws T) → Settled (Refusal.refuse.Reads.Learnt T l)
refuse T l = settled (λ k a r e p. p)

-- wire
pub byte_at : Settled Wire.byte_at.Reads.Learnt
byte_at = settled (λ k a r e p. p)

pub u16_at : Settled Wire.u16_at.Reads.Learnt
u16_at = settled (λ k a r e p. p)

pub u32_at : Settled Wire.u32_at.Reads.Learnt
u32_at = settled (λ k a r e p. p)

pub part : SettledAs Wire.part.Reads.Learnt (λ k r e. r.now)
part = settled_as (λ k a r e p. p)

pub least : Settled Wire.least.Reads.Learnt
least = settled (λ k a r e p. p)

pub copy : SettledAs Wire.copy.Reads.Learnt (λ k r e. e.0.now)
copy = settled_as (λ k a r e p. p)

pub put_u16 : SettledAs Wire.put_u16.Reads.Learnt (λ k r e. e.0.now)
put_u16 = settled_as (λ k a r e p. p)

pub put_u32 : SettledAs Wire.put_u32.Reads.Learnt (λ k r e. e.0.now)
put_u32 = settled_as (λ k a r e p. p)

-- universe
pub is_universe_in_range : Settled Universe.is_universe_in_range.Reads.Learnt
is_universe_in_range = settled (λ k a r e p. p)

pub universe_to_ipv4_multicast_addr : Settled Universe.universe_to_ipv4_multicast_addr.Reads.Learnt
universe_to_ipv4_multicast_addr = settled (λ k a r e p. p)

-- name
pub whole_characters : Settled Name.whole_characters.Reads.Learnt
whole_characters = settled (λ k a r e p. p)

pub parse_source_name_str : Settled Name.parse_source_name_str.Reads.Learnt
parse_source_name_str = settled (λ k a r e p. p)

-- and so for two fields that are the same up to the zero: nothing behind the byte that decides is needed
pub alike_source_name : SettledAlike Name.parse_source_name_str.Reads.Learnt (λ k a b. Alike (take 64 a.0.now) (take 64 b.0.now))
alike_source_name = settled_alike (λ k a r e p. p) (λ k a b h. alike (take 64 a.0.now) (take 64 b.0.now) h)

pub check_source_name : Settled Name.check_source_name.Reads.Learnt
check_source_name = settled (λ k a r e p. p)

pub pack_source_name : SettledAs Name.pack_source_name.Reads.Learnt (λ k r e. e.0.now)
pack_source_name = settled_as (λ k a r e p. p)

-- pdu
pub pdu_info : Settled Pdu.pdu_info.Reads.Learnt
pdu_info = settled (λ k a r e p. p)

pub flags_and_length : Settled Pdu.flags_and_length.Reads.Learnt
flags_and_length = settled (λ k a r e p. p)

pub put_head : SettledAs Pdu.put_head.Reads.Learnt (λ k r e. e.0.now)
put_head = settled_as (λ k a r e p. p)

-- dmp
pub dmp_parse : Settled Dmp.parse.Reads.Learnt
dmp_parse = settled (λ k a r e p. p)

pub dmp_pack : SettledAs Dmp.pack.Reads.Learnt (λ k r e. e.0.now)
dmp_pack = settled_as (λ k a r e p. p)

-- discovery
pub discovery_parse : Settled Discovery.parse.Reads.Learnt
discovery_parse = settled (λ k a r e p. p)

pub discovery_copy_universes : SettledAs Discovery.copy_universes.Reads.Learnt (λ k r e. e.1.0.now)
discovery_copy_universes = settled_as (λ k a r e p. p)

pub discovery_check_order : Settled Discovery.check_order.Reads.Learnt
discovery_check_order = settled (λ k a r e p. p)

pub discovery_pack : SettledAs Discovery.pack.Reads.Learnt (λ k r e. e.0.now)
discovery_pack = settled_as (λ k a r e p. p)

-- framing
pub framing_parse : Settled Framing.parse.Reads.Learnt
framing_parse = settled (λ k a r e p. p)

pub framing_fields : Settled Framing.fields.Reads.Learnt
framing_fields = settled (λ k a r e p. p)

pub framing_pack : SettledAs Framing.pack.Reads.Learnt (λ k r e. e.0.now)
framing_pack = settled_as (λ k a r e p. p)

-- extended
pub synchronization_parse : Settled Extended.synchronization.parse.Reads.Learnt
synchronization_parse = settled (λ k a r e p. p)

pub synchronization_pack : SettledAs Extended.synchronization.pack.Reads.Learnt (λ k r e. e.0.now)
synchronization_pack = settled_as (λ k a r e p. p)

pub universe_discovery_parse : Settled Extended.universe_discovery.parse.Reads.Learnt
universe_discovery_parse = settled (λ k a r e p. p)

pub universe_discovery_pack : SettledAs Extended.universe_discovery.pack.Reads.Learnt (λ k r e. e.0.now)
universe_discovery_pack = settled_as (λ k a r e p. p)

pub extended_parse : Settled Extended.parse.Reads.Learnt
extended_parse = settled (λ k a r e p. p)

-- root
pub root_parse : Settled Root.parse.Reads.Learnt
root_parse = settled (λ k a r e p. p)

-- packet
pub parse_packet : Settled Packet.parse_packet.Reads.Learnt
parse_packet = settled (λ k a r e p. p)

pub cid : Settled Packet.cid.Reads.Learnt
cid = settled (λ k a r e p. p)

pub parse : Settled Packet.parse.Reads.Learnt
parse = settled (λ k a r e p. p)

-- parts
pub shown : SettledAs Parts.shown.Reads.Learnt (λ k r e. r.now)
shown = settled_as (λ k a r e p. p)

pub spans_in : Settled Parts.spans_in.Reads.Learnt
spans_in = settled (λ k a r e p. p)

pub name : SettledAs Parts.name.Reads.Learnt (λ k r e. r.now)
name = settled_as (λ k a r e p. p)

pub values : SettledAs Parts.values.Reads.Learnt (λ k r e. r.now)
values = settled_as (λ k a r e p. p)

pub copy_universes : SettledWith Parts.copy_universes.Reads.Learnt (λ k e. e.1.0.now)
copy_universes = settled_with (λ k a r e p. p)

-- pack
pub pack_data : SettledWith Pack.pack_data.Reads.Learnt (λ k e. e.0.now)
pack_data = settled_with (λ k a r e p. p)

pub pack_synchronization : SettledWith Pack.pack_synchronization.Reads.Learnt (λ k e. e.0.now)
pack_synchronization = settled_with (λ k a r e p. p)

pub pack_discovery : SettledWith Pack.pack_discovery.Reads.Learnt (λ k e. e.0.now)
pack_discovery = settled_with (λ k a r e p. p)

-- edition2009
pub parse_2009 : Settled Edition2009.parse.Reads.Learnt
parse_2009 = settled (λ k a r e p. p)

pub name_2009 : SettledAs Edition2009.name.Reads.Learnt (λ k r e. r.now)
name_2009 = settled_as (λ k a r e p. p)

pub values_2009 : SettledAs Edition2009.values.Reads.Learnt (λ k r e. r.now)
values_2009 = settled_as (λ k a r e p. p)

-- failed_check
pub tell : Settled FailedCheck.tell.Reads.Learnt
tell = settled (λ k a r e p. p)
