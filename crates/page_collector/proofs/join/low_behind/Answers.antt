use Rattle.std.proofs.Common.{ℕ, ◌+◌, sym, ap, ◌∙◌, arith}
use Rattle.universe_pages.proofs.Rising.{behind_none, behind_last}
use Rattle.page_collector.proofs.join.low_behind.Goals as goal

pub returns-in-None : goal.returns-in-None
returns-in-None c = sym (behind_none c.args.low c.args.page.now (omega (arith, c.in-None.ensures.item)))

pub returns-in-Some : goal.returns-in-Some
returns-in-Some c = ap (λ (n : ℕ). n + 1) (c.in-Some.ensures.item.3.1 0) ∙ sym (behind_last c.args.low c.args.page.now c.in-Some.ensures.item.3.0)
