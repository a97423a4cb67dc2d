use Rattle.std.proofs.Common.{refl, ap, ap₂, arith}
use Rattle.refusal.proofs.Tests.{chosen, passed_over}
use Rattle.page_collector.specs.Collect.{collector_of, no_counts, counts_for}
use Rattle.page_collector.proofs.Collector.expect.Goals as goal

pub returns-then-self-last_page : goal.returns-then-self-last_page
unfolding counts_for no_counts
returns-then-self-last_page c = ap (collector_of c.args.self.now.cid c.args.last_page) (passed_over _ _ _ (omega arith) refl)

pub returns-else-self-last_page : goal.returns-else-self-last_page
unfolding counts_for
returns-else-self-last_page c = ap₂ (collector_of c.args.self.now.cid) (omega arith) (chosen _ _ _ (omega arith) refl)
