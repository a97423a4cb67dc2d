use Rattle.std.proofs.Common.{append_assoc}
use Rattle.text.proofs.Puts.{put_then, put_last, put_as}
use Rattle.line.specs.Lines.{discovery_line}
use Rattle.line.proofs.put_discovery.Goals as goal

pub returns : goal.returns
unfolding discovery_line
returns c =
    put_as
    (put_then c.put_named.ensures
    (put_then c.put_page.ensures (put_then c.put_field.ensures (put_last c.put.ensures))))
    (simp append_assoc)
