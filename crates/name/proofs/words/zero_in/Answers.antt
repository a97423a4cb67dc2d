use native.Mathlib.Omega.{arith}
use borrow.Author.Rules.{rules}
use lib.Count.{trailing_le}
use Rattle.name.proofs.TopBits.{ascii_low, zeros, zero_found}
use Rattle.name.proofs.words.zero_in.Goals as goal

pub overflow_sub-zeros : goal.overflow_sub-zeros
overflow_sub-zeros c = ascii_low 8 c.args.word c.requires (search rules)

pub overflow_cast-result : goal.overflow_cast-result
overflow_cast-result c = omega (arith, trailing_le 64 (zeros 8 c.args.word))

pub returns : goal.returns
returns c = zero_found 8 c.args.word c.requires (search rules)
