use Rattle.text.proofs.Puts.{put_then}
use Rattle.probe.proofs.read.put_bytes.Goals as goal

pub returns : goal.returns
returns c = put_then c.put.ensures c.put_hex.ensures
