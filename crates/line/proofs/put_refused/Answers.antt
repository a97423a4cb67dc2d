use Rattle.text.proofs.Puts.{put_then, put_last}
use Rattle.line.specs.Lines.{refused_line}
use Rattle.line.proofs.put_refused.Goals as goal

pub returns : goal.returns
unfolding refused_line
returns c = put_then c.put_decimal.ensures (put_then c.put_refusal.ensures (put_last c.put.ensures))
