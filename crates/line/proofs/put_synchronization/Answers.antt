use Rattle.text.proofs.Puts.{put_then, put_last}
use Rattle.line.specs.Lines.{synchronization_line}
use Rattle.line.proofs.put_synchronization.Goals as goal

pub returns : goal.returns
unfolding synchronization_line
returns c =
    put_then c.put_decimal.ensures
    (put_then c.put.ensures (put_then c.put_synchronization_fields.ensures (put_last c.put-2.ensures)))
