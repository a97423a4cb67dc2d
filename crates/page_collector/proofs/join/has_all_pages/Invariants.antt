use Rattle.std.proofs.Common.{◌≡◌, drop}
use Rattle.refusal.specs.Check.{outcome}
use Rattle.page_collector.specs.Memory.{all_pages_there}
use Rattle.page_collector.proofs.join.has_all_pages.Given as goal

abbrev pub invariant-loop-count : goal.invariant-loop-count
invariant-loop-count l = outcome (all_pages_there (drop l.count-index l.counts)) ≡ outcome (all_pages_there l.counts)
