use Rattle.std.proofs.Common.{arith, rules}
use Rattle.text.specs.Digits.{ascii}
use Rattle.follow.proofs.Fits.{word_fits}
use Rattle.follow.proofs.put_became.Goals as goal

pub returns-in-Accepted-clause-answer_len_bound : goal.returns-in-Accepted-clause-answer_len_bound
returns-in-Accepted-clause-answer_len_bound c = rw c.in-Accepted.is (omega (arith, word_fits c.args.n (ascii " accepted\n") (search rules)))

pub returns-in-Discarded-clause-put : goal.returns-in-Discarded-clause-put
returns-in-Discarded-clause-put c = rw c.in-Discarded.is c.put_word-in-Discarded.ensures

pub returns-in-Discarded-clause-answer_len_bound : goal.returns-in-Discarded-clause-answer_len_bound
returns-in-Discarded-clause-answer_len_bound c = rw c.in-Discarded.is (omega (arith, word_fits c.args.n (ascii " discarded\n") (search rules)))

pub returns-in-NotData-clause-answer_len_bound : goal.returns-in-NotData-clause-answer_len_bound
returns-in-NotData-clause-answer_len_bound c = rw c.in-NotData.is (omega (arith, word_fits c.args.n (ascii " other\n") (search rules)))
