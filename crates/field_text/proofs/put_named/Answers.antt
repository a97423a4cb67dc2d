use Rattle.text.proofs.Puts.{put_then}
use Rattle.field_text.proofs.put_named.Goals as goal

pub returns : goal.returns
returns c = put_then c.put_decimal.ensures (put_then c.put.ensures c.put_hex.ensures)
