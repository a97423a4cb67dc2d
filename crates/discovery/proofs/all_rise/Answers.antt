use Rattle.std.proofs.Common.{◌+◌, ◌-◌, ◌≤◌, ◌<◌, ◌≡◌, sym, ◌∙◌, length, get_or, arith}
use Rattle.discovery.specs.Universes.{rises}
use Rattle.discovery.proofs.Laws.{pair_holds, pairs_end, checked_all}
use Rattle.discovery.proofs.all_rise.Goals as goal

pub loop-i-init : goal.loop-i-init
loop-i-init c = λ e. checked_all c.args.universes.now (omega arith)

pub loop-i-preserved : goal.loop-i-preserved
loop-i-preserved c = let us = c.args.universes.now in
    let i = c.loop-i.i in
    let k : i < length us = omega arith in
    let n : i + 1 - 1 ≡ i = omega arith in
    λ e.
    let t = c.still_rising-rising.ensures e in
    let a : get_or us (i - 1) 0 < get_or us i 0 = omega (arith, t.1) in
    rw n (sym (pair_holds rises us (get_or us (i - 1) 0) i k (omega arith)) ∙ c.loop-i.invariant t.0)

pub returns : goal.returns
returns c = let us = c.args.universes.now in
    let k : length us ≤ c.loop-i.i = omega arith in
    λ e. sym (c.loop-i.invariant e) ∙ pairs_end rises us (get_or us (c.loop-i.i - 1) 0) c.loop-i.i k
