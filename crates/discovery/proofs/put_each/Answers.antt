use Rattle.std.proofs.Common.{ℕ, ◌+◌, ◌*◌, ◌<◌, List, length, get_or, refl, sym, ap, ◌∙◌, arith}
use Rattle.std.proofs.lemmas.List.Edits.{sets}
use Rattle.wire.specs.Fields.{be16}
use Rattle.wire.proofs.Laws.{sets_past}
use Rattle.discovery.specs.Universes.{universe_bytes}
use Rattle.discovery.proofs.Laws.{bytes_more}
use Rattle.discovery.proofs.put_each.Goals as goal

pub returns-then-buf-at : goal.returns-then-buf-at
returns-then-buf-at c = let a = c.args in
    sym (sets_past (universe_bytes a.universes.now) a.buf.now a.at (omega arith))

pub loop-i-init : goal.loop-i-init
unfolding universe_bytes
loop-i-init c = refl

pub loop-i-preserved : goal.loop-i-preserved
loop-i-preserved c = let a = c.args in
    let us = a.universes.now in
    let i = c.loop-i.i in
    let k : i < length us = omega arith in
    c.put_u16.ensures
    ∙ ap (λ (b : List ℕ). sets b (a.at + 2 * i) (be16 (get_or us i 0))) c.loop-i.invariant
    ∙ sym (bytes_more us a.buf.now a.at i k)
