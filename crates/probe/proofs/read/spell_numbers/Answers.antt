use Rattle.std.proofs.Common.{◌*◌, ◌∙◌, refl, take_all, zero-add, arith}
use Rattle.discovery.specs.Universes.{universe_bytes}
use Rattle.discovery.proofs.Laws.{bytes_more}
use Rattle.probe.proofs.read.spell_numbers.Goals as goal

pub loop-i-init : goal.loop-i-init
unfolding universe_bytes
loop-i-init c = refl

pub loop-i-preserved : goal.loop-i-preserved
loop-i-preserved c =
    c.put_u16.ensures
    ∙ rw (c.loop-i.invariant, bytes_more c.args.numbers.now c.args.bytes.now 0 c.loop-i.i (omega arith), zero-add (2 * c.loop-i.i))

pub returns : goal.returns
returns c = c.loop-i.invariant ∙ rw (take_all c.loop-i.i c.args.numbers.now (omega arith))
