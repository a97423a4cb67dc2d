use borrow.Author.Tests.{eqb-true}
use Rattle.name.proofs.TopBits.{ascii}
use Rattle.name.proofs.words.is_ascii.Goals as goal

pub returns : goal.returns
returns c = λ e. ascii 8 c.args.word (eqb-true _ _ e)
