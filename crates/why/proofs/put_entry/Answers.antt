use Rattle.std.proofs.Common.{length-append, rules, arith}
use Rattle.text.proofs.Decimals.{digits}
use Rattle.text.proofs.Puts.{put_then, put_last}
use Rattle.why.specs.Why.{entry_line}
use Rattle.why.proofs.put_entry.Goals as goal

pub returns : goal.returns
unfolding entry_line
returns c = record {
  put = put_then c.put_decimal.ensures (put_then c.put_reader.ensures.put (put_then c.put_reader-2.ensures.put (put_last c.put.ensures)));
  datagram_len_bound = simp length-append (omega (arith, digits c.args.n (search rules), c.put_reader.ensures.datagram_in_bounds, c.put_reader-2.ensures.datagram_in_bounds));
}
