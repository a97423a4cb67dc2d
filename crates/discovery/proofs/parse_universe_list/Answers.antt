use Rattle.std.proofs.Common.{◌≤◌, ◌<◌, ◌*◌, ◌+◌, ◌≡◌, sym, ap, ◌∙◌, length, get_or, arith}
use Rattle.refusal.specs.Check.{refusal, universe_list, checked_of}
use Rattle.std.specs.Prelude.{ℕ, Err}
use Rattle.refusal.proofs.Laws.{stop, none_checked}
use Rattle.discovery.specs.Universes.{universes, ascends}
use Rattle.discovery.proofs.Laws.{universes_length, universes_at, pairs_none, pairs_first, pair_holds, pair_fails, pairs_end, listed}
use Rattle.discovery.proofs.parse_universe_list.Goals as goal

pub returns-then-p-count : goal.returns-then-p-count
unfolding checked_of
returns-then-p-count c = stop 0 _ _ _ (omega arith) c.refuse.ensures

pub returns-then-count-eq0 : goal.returns-then-count-eq0
returns-then-count-eq0 c = let a = c.args in
    let p = a.p.now in
    let us = universes a.count p in
    let h : 2 * a.count ≤ length p = omega arith in
    let none : length us ≡ 0 = omega (arith, universes_length a.count p) in
    sym (listed p a.count h ∙ rw (pairs_none ascends us none) (none_checked (Unit {0})))

pub loop-i-init : goal.loop-i-init
loop-i-init c = let a = c.args in
    let p = a.p.now in
    let us = universes a.count p in
    let h : 2 * a.count ≤ length p = omega arith in
    let some : length us ≡ 0 → ⊥ = omega (arith, universes_length a.count p) in
    let first : get_or us 0 0 ≡ c.universe_at-last.result = universes_at a.count p 0 (omega arith) ∙ sym c.universe_at-last.ensures in
    (h, sym (listed p a.count h ∙ rw (pairs_first ascends us some, first)))

pub returns-then-u-last : goal.returns-then-u-last
returns-then-u-last c = let u = c.universe_at-u.result in
    let a = c.args in
    let p = a.p.now in
    let us = universes a.count p in
    let i = c.loop-i.i in
    let k : i < length us = omega (arith, universes_length a.count p) in
    let e : get_or us i 0 ≡ u = universes_at a.count p i (omega arith) ∙ sym c.universe_at-u.ensures in
    let f : get_or us i 0 < c.loop-i.last + 1 = omega arith in
    c.refuse-then-u-last.ensures ∙ ap (λ (x : ℕ). Err (refusal 12 universe_list x)) (sym e) ∙ sym (pair_fails ascends us c.loop-i.last i 0 k f) ∙ c.loop-i.invariant.1

pub loop-i-preserved : goal.loop-i-preserved
loop-i-preserved c = let u = c.universe_at-u.result in
    let a = c.args in
    let p = a.p.now in
    let us = universes a.count p in
    let i = c.loop-i.i in
    let k : i < length us = omega (arith, universes_length a.count p) in
    let e : get_or us i 0 ≡ u = universes_at a.count p i (omega arith) ∙ sym c.universe_at-u.ensures in
    let f : c.loop-i.last + 1 ≤ get_or us i 0 = omega arith in
    (omega arith, rw (← e) (sym (pair_holds ascends us c.loop-i.last i k (f, tt)) ∙ c.loop-i.invariant.1))

pub returns : goal.returns
returns c = let a = c.args in
    let us = universes a.count a.p.now in
    let k : length us ≤ c.loop-i.i = omega (arith, universes_length a.count a.p.now) in
    sym (pairs_end ascends us c.loop-i.last c.loop-i.i k) ∙ c.loop-i.invariant.1
