use Rattle.std.proofs.Common.{Option, None, ◌≡◌, ℕ, ◌+◌, ◌-◌, ◌*◌, ◌≤◌, ◌<◌, true, List, length, get_or, drop, length-take, arith}
use Rattle.refusal.specs.Check.{outcome}
use Rattle.refusal.proofs.Tests.{holds}
use Rattle.page_collector.specs.Memory.{size, all_pages_there}
use Rattle.page_collector.proofs.Memory.{there_at, size_short}
use Rattle.page_collector.proofs.join.AllPages.page.Goals as goal

-- where all are there, page k has a size that a page can have
page_short : (cs : List (Option ℕ)) (k : ℕ) → k < length cs → outcome (all_pages_there cs) ≡ true → size (get_or cs k None) ≤ 512
page_short cs k h e = size_short (get_or cs k None) (there_at cs k h (holds (all_pages_there cs) e))

pub slice_bounds-result-end : goal.slice_bounds-result-end
slice_bounds-result-end c = let s = c.args.self.now in
    omega (arith, c.unwrap_or-count.ensures, page_short s.counts.now c.args.k c.requires.k_in_bounds s.all_there)

pub returns-clause-few : goal.returns-clause-few
returns-clause-few c =
    let s = c.args.self.now in
    let start = 512 * c.args.k in
    omega (
      arith,
      c.unwrap_or-count.ensures,
      page_short s.counts.now c.args.k c.requires.k_in_bounds s.all_there,
      length-take (start + c.unwrap_or-count.result - start) (drop start s.memory.now),
    )
