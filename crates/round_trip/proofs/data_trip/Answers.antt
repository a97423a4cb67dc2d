use Rattle.pack.specs.Writing.{data_bytes}
use Rattle.demands.specs.Content.{content_of}
use Rattle.demands.proofs.Data.{return_data}
use Rattle.round_trip.specs.Trip.{data_packed, read_after}
use Rattle.round_trip.proofs.Laws.{trip}
use Rattle.round_trip.proofs.data_trip.Goals as goal

pub returns : goal.returns
returns c = let buf = c.args.buf.now in
    let n = c.args.name.now in
    let v = c.args.values.now in
    let w = c.pack_data-packed in
    let t =
    trip {packed = data_packed buf n v} read_after content_of (data_bytes c.args.cid c.args.fields n v) buf
    w.ensures.answer w.ensures.bytes c.read_after.ensures (return_data c.args.cid c.args.fields n v buf) in
    record { answer = t.0; bytes = t.1; returned = t.2 }
