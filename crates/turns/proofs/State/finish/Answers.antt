use Rattle.std.proofs.Common.{◌≡◌, min, refl, ap, ◌∙◌, length, arith}
use Rattle.text.proofs.Puts.{put_long}
use Rattle.standard_io.specs.System.{counted}
use Rattle.turns.specs.Turn.{last_text, end_of}
use Rattle.turns.proofs.State.finish.Goals as goal

pub returns : goal.returns
returns g c =
    let put = c.put_last.ensures in
    let full = c.put_last.new.out in
    let end : min full.len (length full.bytes.now) ≡ end_of c.args.out.now (last_text c.args.next c.args.n) = omega (arith, put.place, put_long put) in
    rw c.flush.ensures.empty
    (record {
      text = put.written;
      empty = refl;
      same_buffer = put.same_buffer;
      handed = c.flush.ensures.handed ∙ ap (counted c.args.self.now.wrote.total) end;
      done = refl;
    })
