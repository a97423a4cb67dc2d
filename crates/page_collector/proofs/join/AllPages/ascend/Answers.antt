use Rattle.std.proofs.Common.{Option, ◌≡◌, ℕ, ◌+◌, ◌<◌, Bool, true, false, List, length, sym, ap, ◌∙◌, arith}
use Rattle.refusal.specs.Check.{outcome, pick}
use Rattle.universe_pages.proofs.Rising.{rising_from, rising, behind}
use Rattle.page_collector.specs.Memory.{page_at, joined}
use Rattle.page_collector.proofs.Memory.{left, left_rising, none_rising}
use Rattle.page_collector.proofs.join.AllPages.ascend.Goals as goal

-- what is told of page k decides
decides : (cs : List (Option ℕ)) (m : List ℕ) (k low : ℕ) (o : Bool) → k < length cs → o ≡ outcome (rising_from low (page_at cs m k)) →
    outcome (rising_from low (left cs m k)) ≡ outcome (rising (joined cs m)) →
    pick o (outcome (rising_from (behind low (page_at cs m k)) (left cs m (k + 1)))) false ≡ outcome (rising (joined cs m))
decides cs m k low o h told so_far =
    ap (λ (b : Bool). pick b (outcome (rising_from (behind low (page_at cs m k)) (left cs m (k + 1)))) false) told
    ∙ sym (left_rising cs m k low h)
    ∙ so_far

pub returns-then-not-page_ascends : goal.returns-then-not-page_ascends
returns-then-not-page_ascends c =
    let told = c.if-not-page_ascends.ensures ∙ ap (λ (p : List ℕ). outcome (rising_from c.loop-k.low p)) c.page-page.ensures.page in
    decides c.args.self.now.counts.now c.args.self.now.memory.now c.loop-k.k c.loop-k.low false (omega arith) told c.loop-k.invariant

pub loop-k-preserved : goal.loop-k-preserved
loop-k-preserved c =
    let told = c.if-not-page_ascends.ensures ∙ ap (λ (p : List ℕ). outcome (rising_from c.loop-k.low p)) c.page-page.ensures.page in
    rw (c.low_behind-low.ensures ∙ ap (behind c.loop-k.low) c.page-page.ensures.page)
    (decides c.args.self.now.counts.now c.args.self.now.memory.now c.loop-k.k c.loop-k.low true (omega arith) told c.loop-k.invariant)

pub returns : goal.returns
returns c = sym (none_rising c.args.self.now.counts.now c.args.self.now.memory.now c.loop-k.k c.loop-k.low (omega arith)) ∙ c.loop-k.invariant
