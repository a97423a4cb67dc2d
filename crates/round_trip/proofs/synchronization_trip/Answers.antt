use Rattle.pack.specs.Writing.{synchronization_bytes}
use Rattle.demands.specs.Content.{content_of}
use Rattle.demands.proofs.Synchronization.{return_synchronization}
use Rattle.round_trip.specs.Trip.{synchronization_packed, read_after}
use Rattle.round_trip.proofs.Laws.{trip}
use Rattle.round_trip.proofs.synchronization_trip.Goals as goal

pub returns : goal.returns
returns c = let buf = c.args.buf.now in
    let w = c.pack_synchronization-packed in
    let t =
    trip {packed = synchronization_packed buf} read_after content_of (synchronization_bytes c.args.cid c.args.fields) buf
    w.ensures.answer w.ensures.bytes c.read_after.ensures (return_synchronization c.args.cid c.args.fields buf) in
    record { answer = t.0; bytes = t.1; returned = t.2 }
