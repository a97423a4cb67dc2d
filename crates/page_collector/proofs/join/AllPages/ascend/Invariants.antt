use Rattle.std.proofs.Common.{◌≡◌}
use Rattle.refusal.specs.Check.{outcome}
use Rattle.universe_pages.proofs.Rising.{rising_from, rising}
use Rattle.page_collector.specs.Memory.{joined}
use Rattle.page_collector.proofs.Memory.{left}
use Rattle.page_collector.proofs.join.AllPages.ascend.Given as goal

abbrev pub invariant-loop-k : goal.invariant-loop-k
invariant-loop-k l = outcome (rising_from l.low (left l.self.counts.now l.self.memory.now l.k)) ≡ outcome (rising (joined l.self.counts.now l.self.memory.now))
