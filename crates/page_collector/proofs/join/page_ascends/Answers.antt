use Rattle.std.proofs.Common.{◌≡◌, ℕ, ◌≤◌, true, false, List, get_or, is_ok, Ok, Err, sym, ◌∙◌, arith}
use Rattle.refusal.specs.Check.{Checked, outcome, checked_of}
use Rattle.refusal.proofs.Tests.{decided}
use Rattle.discovery.specs.Universes.{order_checks}
use Rattle.universe_pages.proofs.Rising.{rising_from, from_first, passed→rising, refused→falls}
use Rattle.page_collector.proofs.join.page_ascends.Goals as goal

by_order : (low : ℕ) (us : List ℕ) (o : Checked) → low ≤ get_or us 0 0 → o ≡ checked_of (order_checks us) → is_ok o ≡ outcome (rising_from low us)
by_order low us (Ok tt) h e = sym (decided (rising_from low us) true (from_first low us h (passed→rising us (sym e))))
by_order low us (Err r) h e = sym (decided (rising_from low us) false (refused→falls low us r (sym e)))

pub returns-then-low-first : goal.returns-then-low-first
returns-then-low-first c = c.is_ok.ensures.value ∙ by_order c.args.low c.args.page.now _ (omega (arith, c.if-low-first.true, c.in-Some.ensures.item.3.1 0)) c.check_order.ensures
