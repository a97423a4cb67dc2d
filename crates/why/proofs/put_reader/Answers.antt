use Rattle.std.proofs.Common.{length-append, arith}
use Rattle.text.proofs.Puts.{put_then}
use Rattle.why.specs.Why.{reader_text}
use Rattle.why.proofs.put_reader.Goals as goal

pub returns : goal.returns
unfolding reader_text
returns c = rw (← c.tell-told.ensures)
    (record {
      put = put_then c.put.ensures c.put_finding.ensures.put;
      datagram_in_bounds = simp length-append (omega (arith, c.put_finding.ensures.told_len_bound));
    })
