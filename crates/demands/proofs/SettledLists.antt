-- Demand 1 for the calls that write, compare and collect pages of a whole list: two results that satisfy a call's contract are equal, and so is all that was
-- lent, as it is at exit. Assumes nothing.
use Rattle.cid.proofs as Cid
use Rattle.universe_pages.proofs as UniversePages
use Rattle.page_collector.proofs as PageCollector
use Rattle.page_collector.specs.Collect.{after, collected_of}
use Rattle.demands.proofs.Contracts.{Settled, settled, SettledAs, settled_as, SettledWith, settled_with}

-- cid
pub same : Settled Cid.same.Reads.Learnt
same = settled (λ k a r e p. p)

-- universe_pages: the answer and the buffer
pub pack_page : SettledWith UniversePages.pack_page.Reads.Learnt (λ k e. e.0.now)
pack_page = settled_with (λ k a r e p. p)

-- page_collector: the answer, the next collector, the memory and the list
pub new : Settled PageCollector.Collector.new.Reads.Learnt
new = settled (λ k a r e p. p)

pub collect : SettledAs PageCollector.Collector.collect.Reads.Learnt (λ k r e. after e.1.1.0.now e.1.1.1.0.now (collected_of e.0.now r))
collect = settled_as (λ k a r e p. p)
