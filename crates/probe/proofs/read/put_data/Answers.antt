use Rattle.std.proofs.Common.{append_assoc}
use Rattle.text.proofs.Puts.{put_then, put_last, put_as}
use Rattle.probe.specs.Answers.{data_answer}
use Rattle.probe.proofs.read.put_data.Goals as goal

pub returns : goal.returns
unfolding data_answer
returns c =
    put_as
    (put_then c.put_named.ensures
    (put_then c.put_bytes.ensures
    (put_then c.put_data_fields.ensures (put_then c.put_bytes-2.ensures (put_last c.put.ensures)))))
    (rw (← c.name.ensures, ← c.values.ensures) (simp append_assoc))
