use Rattle.std.proofs.Common.{rules}
use Rattle.text.proofs.Puts.{put_then, put_last}
use Rattle.follow.specs.Lines.{totals_line}
use Rattle.follow.proofs.Fits.{totals_fit}
use Rattle.follow.proofs.put_totals.Goals as goal

pub returns-clause-put : goal.returns-clause-put
unfolding totals_line
returns-clause-put c =
    put_then c.put_field.ensures (put_then c.put_field-2.ensures (put_then c.put_field-3.ensures (put_last c.put.ensures)))

pub returns-clause-totals_len_bound : goal.returns-clause-totals_len_bound
returns-clause-totals_len_bound c = totals_fit c.args.totals (search rules) (search rules) (search rules)
