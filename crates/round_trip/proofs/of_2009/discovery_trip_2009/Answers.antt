use Rattle.pack.specs.Writing.{discovery_bytes}
use Rattle.demands.proofs.Discovery.{return_discovery}
use Rattle.demands.proofs.Edition2009.{return_discovery_2009}
use Rattle.round_trip.specs.Trip.{discovery_packed, read_after2009}
use Rattle.round_trip.proofs.Laws.{trip}
use Rattle.round_trip.proofs.of_2009.discovery_trip_2009.Goals as goal

pub returns : goal.returns
returns c = let buf = c.args.buf.now in
    let n = c.args.name.now in
    let us = c.args.universes.now in
    let w = c.pack_discovery-packed in
    let t =
    trip {packed = discovery_packed buf n us} read_after2009 (λ d r. r) (discovery_bytes c.args.cid c.args.fields n us) buf
    w.ensures.answer w.ensures.bytes c.read_after_2009.ensures
    (λ h k. ((return_discovery c.args.cid c.args.fields n us buf h k).0, return_discovery_2009 c.args.cid c.args.fields n us buf h k)) in
    record { answer = t.0; bytes = t.1; returned = t.2 }
