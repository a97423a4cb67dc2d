use Rattle.std.proofs.Common.{arith, rules}
use Rattle.line.proofs.Fits.{refused_fits}
use Rattle.follow.proofs.put_refused.Goals as goal

pub returns-clause-refusal_len_bound : goal.returns-clause-refusal_len_bound
returns-clause-refusal_len_bound c = omega (arith, refused_fits c.args.n c.args.refusal (search rules) (search rules))
