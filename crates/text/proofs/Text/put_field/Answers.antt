use Rattle.text.proofs.Puts.{put_then}
use Rattle.text.proofs.Text.put_field.Goals as goal

pub returns : goal.returns
returns c = put_then c.put.ensures c.put_decimal.ensures
