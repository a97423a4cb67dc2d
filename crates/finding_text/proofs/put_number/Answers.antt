use Rattle.std.proofs.Common.{rules}
use Rattle.finding_text.proofs.Fits.{number_fits}
use Rattle.finding_text.proofs.put_number.Goals as goal

pub returns-in-Some-clause-shown_in_bounds : goal.returns-in-Some-clause-shown_in_bounds
returns-in-Some-clause-shown_in_bounds c = rw c.in-Some.is (number_fits c.args.words.now c.in-Some.n (search rules))
