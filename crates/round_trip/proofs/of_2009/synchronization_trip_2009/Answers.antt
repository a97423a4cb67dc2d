use Rattle.pack.specs.Writing.{synchronization_bytes}
use Rattle.demands.proofs.Synchronization.{return_synchronization}
use Rattle.demands.proofs.Edition2009.{return_synchronization_2009}
use Rattle.round_trip.specs.Trip.{synchronization_packed, read_after2009}
use Rattle.round_trip.proofs.Laws.{trip}
use Rattle.round_trip.proofs.of_2009.synchronization_trip_2009.Goals as goal

pub returns : goal.returns
returns c = let buf = c.args.buf.now in
    let w = c.pack_synchronization-packed in
    let t =
    trip {packed = synchronization_packed buf} read_after2009 (λ d r. r) (synchronization_bytes c.args.cid c.args.fields) buf
    w.ensures.answer w.ensures.bytes c.read_after_2009.ensures
    (λ h k. ((return_synchronization c.args.cid c.args.fields buf h k).0, return_synchronization_2009 c.args.cid c.args.fields buf h k)) in
    record { answer = t.0; bytes = t.1; returned = t.2 }
