use Rattle.text.proofs.Puts.{put_then}
use Rattle.follow.proofs.put_word.Goals as goal

pub returns : goal.returns
returns c = put_then c.put_decimal.ensures c.put.ensures
