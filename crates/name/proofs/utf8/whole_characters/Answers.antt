use Rattle.std.proofs.Common.{refl, sym, ◌∙◌, arith}
use Rattle.name.specs.Utf8.{whole_chars}
use Rattle.name.proofs.Laws.{reach_more, reach_end}
use Rattle.name.proofs.utf8.whole_characters.Goals as goal

pub loop-i-init : goal.loop-i-init
unfolding whole_chars
loop-i-init c = refl

pub loop-i-preserved : goal.loop-i-preserved
loop-i-preserved c = let s = c.args.s.now in
    rw (c.mark-whole.ensures, c.next-expect.ensures)
    (reach_more s c.loop-i.i c.loop-i.expect c.loop-i.whole (omega arith) ∙ c.loop-i.invariant)

pub returns : goal.returns
returns c = sym (reach_end c.args.s.now c.loop-i.i c.loop-i.expect c.loop-i.whole (omega arith)) ∙ c.loop-i.invariant
