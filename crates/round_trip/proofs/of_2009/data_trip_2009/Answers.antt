use Rattle.pack.specs.Writing.{data_bytes}
use Rattle.demands.specs.Content2009.{content_with2009}
use Rattle.demands.proofs.Data.{return_data}
use Rattle.demands.proofs.Edition2009.{return_data_2009}
use Rattle.round_trip.specs.Trip.{data_packed, read_after2009}
use Rattle.round_trip.proofs.Laws.{trip}
use Rattle.round_trip.proofs.of_2009.data_trip_2009.Goals as goal

pub returns : goal.returns
returns c = let buf = c.args.buf.now in
    let n = c.args.name.now in
    let v = c.args.values.now in
    let w = c.pack_data-packed in
    let t =
    trip {packed = data_packed buf n v} read_after2009 (λ d r. content_with2009 d r.cid r.packet) (data_bytes c.args.cid c.args.fields n v) buf
    w.ensures.answer w.ensures.bytes c.read_after_2009.ensures
    (λ h k. ((return_data c.args.cid c.args.fields n v buf h k).0, return_data_2009 c.args.cid c.args.fields n v buf h k)) in
    record { answer = t.0; bytes = t.1; returned = t.2 }
