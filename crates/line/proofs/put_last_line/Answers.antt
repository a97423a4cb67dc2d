use Rattle.std.proofs.Common.{append_assoc}
use Rattle.text.proofs.Puts.{put_then, put_last, put_as}
use Rattle.line.specs.Lines.{last_line}
use Rattle.line.proofs.put_last_line.Goals as goal

pub returns : goal.returns
unfolding last_line
returns c = put_as (put_then c.put_field.ensures (put_last c.put.ensures)) (rw c.last_word.ensures (simp append_assoc))
