-- What a page does to the pages that are held, without counts and memory.
use Rattle.std.specs.Prelude.{ℕ, ◌+◌, List, length, set, replicate}
use Rattle.refusal.specs.Check.{◌=?◌, choose}
use Rattle.page_collector.specs.Pages.{Page, missing, kept}

-- page k of pages 0 to last is fed: where the last page's number has changed all start afresh; then page k is replaced
unfoldable pub feed : List Page → ℕ → ℕ → List ℕ → List Page
feed ps k last us = set (choose (length ps =? last + 1) ps (replicate (last + 1) missing)) k (kept us)
