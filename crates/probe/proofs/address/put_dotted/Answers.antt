use Rattle.text.proofs.Puts.{put_then, put_last}
use Rattle.probe.specs.Answers.{dotted}
use Rattle.probe.proofs.address.put_dotted.Goals as goal

pub returns : goal.returns
unfolding dotted
returns c =
    put_then c.put_field.ensures
    (put_then c.put_field-2.ensures (put_then c.put_field-3.ensures (put_last c.put_field-4.ensures)))
