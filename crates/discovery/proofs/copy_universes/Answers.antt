use Rattle.std.proofs.Common.{◌<◌, ◌/◌, ◌≡◌, sym, ◌∙◌, length, get_or, zero-add, arith}
use Rattle.wire.proofs.Laws.{sets_more, sets_take}
use Rattle.discovery.specs.Universes.{all_universes}
use Rattle.discovery.proofs.Laws.{universes_length, universes_at}
use Rattle.discovery.proofs.copy_universes.Goals as goal

pub loop-i-preserved : goal.loop-i-preserved
loop-i-preserved c = let p = c.args.list.now in
    let us = all_universes p in
    let i = c.loop-i.i in
    let k : i < length us = omega (arith, universes_length (length p / 2) p) in
    let e : get_or us i 0 ≡ c.universe_at.result = universes_at (length p / 2) p i (omega arith) ∙ sym c.universe_at.ensures in
    cc (sets_more us c.args.out.now 0 i k, zero-add i)

pub returns : goal.returns
returns c = let p = c.args.list.now in
    c.loop-i.invariant ∙ sets_take (all_universes p) c.args.out.now 0 c.loop-i.i (omega (arith, universes_length (length p / 2) p))
