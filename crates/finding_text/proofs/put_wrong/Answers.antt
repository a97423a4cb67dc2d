use Rattle.text.proofs.Puts.{put_then, put_last}
use Rattle.finding_text.specs.Findings.{wrong_text}
use Rattle.finding_text.proofs.Fits.{wrong_text_fits}
use Rattle.finding_text.proofs.put_wrong.Goals as goal

pub returns-clause-put : goal.returns-clause-put
unfolding wrong_text
returns-clause-put c =
    rw (← c.limit.ensures, ← c.found.ensures, ← c.resolve-limit.ensures, ← c.resolve-found.ensures)
    (put_then c.put_wrong.ensures
    (put_then c.put.ensures
    (put_then c.put_wanted.ensures (put_then c.put_number.ensures.put (put_last c.put_number-2.ensures.put)))))

pub returns-clause-fault_len_bound : goal.returns-clause-fault_len_bound
returns-clause-fault_len_bound c =
    wrong_text_fits c.args.datagram.now c.args.fault
    (rw (← c.limit.ensures, ← c.resolve-limit.ensures) c.put_number.ensures.shown_in_bounds)
    (rw (← c.found.ensures, ← c.resolve-found.ensures) c.put_number-2.ensures.shown_in_bounds)
