use Rattle.name.proofs.WordLaws.{word_le}
use Rattle.name.proofs.words.word_at.Goals as goal

pub returns-in-Some : goal.returns-in-Some
returns-in-Some c = word_le c.args.s.now c.in-Some.word.now c.args.at _ c.from_le_bytes.ensures c.in-Some.ensures.cases.same
