use Rattle.std.proofs.Common.{◌-◌, ◌*◌, ◌/◌, ◌+◌, ◌≡◌, refl, sym, ap, ◌∙◌, length, arith}
use Rattle.refusal.specs.declared.Identity.{Identity}
use Rattle.refusal.specs.declared.Reason.TheVariants as why
use Rattle.wire.specs.Fields.{u16_at}
use Rattle.discovery.specs.Universes.{list_checks}
use Rattle.failed_check.specs.Tell.{identity, fault, Names}
use Rattle.std.specs.Prelude.{Some}
use Rattle.failed_check.proofs.Order.{AsFrom, from_first, from_next, order_named, not_done}
use Rattle.failed_check.proofs.universe_list.find.Goals as goal

pub loop-i-init : goal.loop-i-init
loop-i-init c = from_first c.args.list.now _ refl

pub loop-i-preserved : goal.loop-i-preserved
loop-i-preserved c = let list = c.args.list.now in
    let i = c.loop-i.i in
    let at : 2 * (i + 1) - 2 ≡ 2 * i = omega arith in
    let next : AsFrom list (u16_at list (2 * i)) (i + 1) =
    from_next list (u16_at list (2 * i - 2)) (u16_at list (2 * i)) i (omega arith) refl (c.rises.ensures.up c.if-not-rises.false) c.loop-i.invariant in
    rw at next

pub returns-then-not-rises : goal.returns-then-not-rises
returns-then-not-rises c = let list = c.args.list.now in
    let i = c.loop-i.i in
    let named : Names (list_checks list (length list / 2)) c.args.refusal (identity why.Order (120 + 2 * i)) =
    order_named list (u16_at list (2 * i - 2)) (u16_at list (2 * i)) i c.loop-i-test.true refl c.args.refusal (c.rises.ensures.down c.if-not-rises.true) c.loop-i.invariant c.requires in
    named ∙ ap (λ (x : Identity). Some (fault c.args.refusal x)) (sym c.at.ensures)

pub unreachable-requires : goal.unreachable-requires
unreachable-requires c = let list = c.args.list.now in
    not_done list (u16_at list (2 * c.loop-i.i - 2)) c.loop-i.i c.args.refusal c.loop-i-test.false c.loop-i.invariant c.requires
