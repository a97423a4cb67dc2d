use Rattle.std.proofs.Common.{arith}
use Rattle.text.proofs.Puts.{put_then, put_last}
use Rattle.finding_text.specs.Findings.{where_text}
use Rattle.finding_text.proofs.Fits.{where_fits}
use Rattle.finding_text.proofs.put_where.Goals as goal

pub returns-clause-put : goal.returns-clause-put
unfolding where_text
returns-clause-put c = put_then c.put_field.ensures (put_then c.put.ensures (put_then c.put_layer.ensures (put_last c.put-2.ensures)))

pub returns-clause-place_len_bound : goal.returns-clause-place_len_bound
returns-clause-place_len_bound c = where_fits _ _ (omega arith)
