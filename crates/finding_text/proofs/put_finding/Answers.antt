use Rattle.text.proofs.Puts.{put_then}
use Rattle.finding_text.proofs.put_finding.Goals as goal

pub returns-in-Some-clause-put : goal.returns-in-Some-clause-put
returns-in-Some-clause-put c = rw c.in-Some.is (put_then c.put_where.ensures.put c.put_wrong.ensures.put)
