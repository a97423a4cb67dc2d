use Rattle.std.proofs.Common.{ℕ, ◌+◌, ◌-◌, ◌≤◌, ◌<◌, ◌≡◌, sym, ◌∙◌, List, length, take, drop, get_or, add-zero, get_or-drop, length-drop, arith}
use Rattle.refusal.proofs.Laws.{none_checked}
use Rattle.wire.proofs.Laws.{rest}
use Rattle.discovery.specs.Universes.{rises}
use Rattle.discovery.proofs.Laws.{pairs_none, pair_holds, pair_fails, pairs_end, checked_all}
use Rattle.discovery.proofs.check_order.Goals as goal

-- the universes from a place on, as `&universes[k..]` has them
later : (us : List ℕ) (k i : ℕ) → get_or (take (length us - k) (drop k us)) i 0 ≡ get_or us (k + i) 0
later us k i = rw (rest us k) (get_or-drop k us i 0)

left : (us : List ℕ) (k : ℕ) → length (take (length us - k) (drop k us)) ≡ length us - k
left us k = rw (rest us k) (length-drop k us)

pub returns-then-universes-eq0 : goal.returns-then-universes-eq0
returns-then-universes-eq0 c = let us = c.args.universes.now in
    sym (rw (pairs_none rises us c.if-universes-eq0.true) (none_checked (Unit {0})))

pub returns-then-all_rise : goal.returns-then-all_rise
returns-then-all_rise c = sym (c.all_rise.ensures c.if-all_rise.true)

pub loop-u-init : goal.loop-u-init
loop-u-init c = rw add-zero (sym c.rising_front-front.ensures.front ∙ checked_all c.args.universes.now (omega arith))

pub returns-then-last-u : goal.returns-then-last-u
returns-then-last-u c = let us = c.args.universes.now in
    let from = c.rising_front-front.result + 1 in
    let i = c.loop-u.u-index in
    let k : from + i < length us = omega (arith, left us from) in
    let f : c.loop-u.last ≡ get_or us (from + i) 0 = omega (arith, later us from i) in
    c.refuse.ensures ∙ sym (pair_fails rises us c.loop-u.last (from + i) 0 k f) ∙ c.loop-u.invariant

pub returns-then-u-last : goal.returns-then-u-last
returns-then-u-last c = let us = c.args.universes.now in
    let from = c.rising_front-front.result + 1 in
    let i = c.loop-u.u-index in
    let k : from + i < length us = omega (arith, left us from) in
    let f : get_or us (from + i) 0 < c.loop-u.last = omega (arith, later us from i) in
    c.refuse-then-u-last.ensures ∙ sym (pair_fails rises us c.loop-u.last (from + i) 1 k (omega arith)) ∙ c.loop-u.invariant

pub loop-u-preserved : goal.loop-u-preserved
loop-u-preserved c = let us = c.args.universes.now in
    let from = c.rising_front-front.result + 1 in
    let i = c.loop-u.u-index in
    let k : from + i < length us = omega (arith, left us from) in
    let f : c.loop-u.last < get_or us (from + i) 0 = omega (arith, later us from i) in
    let n : from + (i + 1) ≡ from + i + 1 = omega arith in
    rw (n, later us from i) (sym (pair_holds rises us c.loop-u.last (from + i) k (omega arith)) ∙ c.loop-u.invariant)

pub returns : goal.returns
returns c = let us = c.args.universes.now in
    let from = c.rising_front-front.result + 1 in
    let k : length us ≤ from + c.loop-u.u-index = omega (arith, left us from) in
    sym (pairs_end rises us c.loop-u.last (from + c.loop-u.u-index) k) ∙ c.loop-u.invariant
