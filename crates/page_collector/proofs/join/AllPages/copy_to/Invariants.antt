use Rattle.std.proofs.Common.{◌+◌, ◌*◌, ◌≤◌, ◌≡◌, length}
use Rattle.std.proofs.lemmas.List.Edits.{sets}
use Rattle.page_collector.specs.Memory.{joined}
use Rattle.page_collector.proofs.Memory.{left}
use Rattle.page_collector.proofs.join.AllPages.copy_to.Given as goal

abbrev pub invariant-loop-k : goal.invariant-loop-k
invariant-loop-k l = (l.at ≤ 512 * l.k) × (length l.list ≡ length l.initial.list) × (l.at + length (left l.self.counts.now l.self.memory.now l.k) ≡ length (joined l.self.counts.now l.self.memory.now))
    × (sets l.list l.at (left l.self.counts.now l.self.memory.now l.k) ≡ sets l.initial.list 0 (joined l.self.counts.now l.self.memory.now))
