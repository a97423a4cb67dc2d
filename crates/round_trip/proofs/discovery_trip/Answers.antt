use Rattle.pack.specs.Writing.{discovery_bytes}
use Rattle.demands.specs.Content.{content_of}
use Rattle.demands.proofs.Discovery.{return_discovery}
use Rattle.round_trip.specs.Trip.{discovery_packed, read_after}
use Rattle.round_trip.proofs.Laws.{trip}
use Rattle.round_trip.proofs.discovery_trip.Goals as goal

pub returns : goal.returns
returns c = let buf = c.args.buf.now in
    let n = c.args.name.now in
    let us = c.args.universes.now in
    let w = c.pack_discovery-packed in
    let t =
    trip {packed = discovery_packed buf n us} read_after content_of (discovery_bytes c.args.cid c.args.fields n us) buf
    w.ensures.answer w.ensures.bytes c.read_after.ensures (return_discovery c.args.cid c.args.fields n us buf) in
    record { answer = t.0; bytes = t.1; returned = t.2 }
