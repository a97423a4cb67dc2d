use Rattle.std.proofs.Common.{append_assoc}
use Rattle.text.proofs.Puts.{put_then, put_last, put_as}
use Rattle.probe.specs.Answers.{synchronization_answer}
use Rattle.probe.proofs.read.put_synchronization.Goals as goal

pub returns : goal.returns
unfolding synchronization_answer
returns c =
    put_as
    (put_then c.put_named.ensures (put_then c.put_synchronization_fields.ensures (put_last c.put.ensures)))
    (simp append_assoc)
