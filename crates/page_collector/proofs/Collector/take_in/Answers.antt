use Rattle.std.proofs.Common.{sym, ap, arith}
use Rattle.refusal.proofs.Tests.{Holds, holds, fails}
use Rattle.refusal.proofs.Laws.{stop, pass}
use Rattle.cid.specs.Same.{same_cid}
use Rattle.page_collector.specs.Collect.{Answer, after, collected_of, take_in}
use Rattle.page_collector.proofs.Memory.{kept_joined}
use Rattle.page_collector.proofs.Collector.take_in.Goals as goal

pub returns-then-not-same : goal.returns-then-not-same
unfolding take_in
returns-then-not-same c = let a = c.args in
    stop 0 _ _ _ (fails (same_cid a.self.now.cid a.cid) (sym c.if-not-same.ensures))
    (ap (λ (x : Answer). after a.memory.now a.list.now (collected_of a.self.now x)) c.refuse.ensures)

pub returns-then-min-pages : goal.returns-then-min-pages
unfolding take_in
returns-then-min-pages c = let a = c.args in
    let ours : Holds (same_cid a.self.now.cid a.cid) = holds (same_cid a.self.now.cid a.cid) (sym c.if-not-same.ensures) in
    stop 1 _ _ _ (ours, omega arith) (ap (λ (x : Answer). after a.memory.now a.list.now (collected_of a.self.now x)) c.refuse-then-min-pages.ensures)

pub returns : goal.returns
unfolding take_in
returns c = let a = c.args in
    let ours : Holds (same_cid a.self.now.cid a.cid) = holds (same_cid a.self.now.cid a.cid) (sym c.if-not-same.ensures) in
    pass _ _ _ (ours, ((omega arith, omega arith), tt)) (kept_joined _ _ _ _ _ _ _ c.keep.ensures.collector c.keep.ensures.memory c.join.ensures.answer c.join.ensures.list)
