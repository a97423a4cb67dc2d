use Rattle.text.proofs.Puts.{put_then, put_last}
use Rattle.probe.specs.Answers.{address_line}
use Rattle.probe.proofs.address.put_found.Goals as goal

pub returns : goal.returns
unfolding address_line
returns c =
    put_then c.put_decimal.ensures
    (put_then c.put_dotted.ensures (put_then c.put_field.ensures (put_last c.put.ensures)))
