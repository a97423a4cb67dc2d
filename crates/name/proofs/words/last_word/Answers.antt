use Rattle.std.proofs.Common.{◌+◌, ◌≡◌, arith}
use Rattle.std.proofs.Math.ListN.{get_or-eq_default}
use Rattle.wire.specs.Fields.{byte_at}
use Rattle.name.proofs.WordLaws.{word_eight}
use Rattle.name.proofs.words.last_word.Goals as goal

pub returns : goal.returns
returns c = let a = c.args in
    let none : byte_at a.s.now (a.at + 7) ≡ 0 = get_or-eq_default a.s.now 0 (omega arith) in
    omega (arith, c.from_le_bytes.ensures, word_eight a.s.now a.at, none)
