-- Where pages are kept: page k from number 512 × k of the memory on. Its count says how many numbers it has; it is not there without one, and with what
-- no page can have, above 512.
use Rattle.std.specs.Prelude.{ℕ, ◌*◌, List, [], ◌∷◌, ◌++◌, get_or, take, drop, Option, Some, None, unwrap_or}
use Rattle.refusal.specs.Check.{Test, ◌≤?◌, ◌and◌, choose}
use Rattle.page_collector.specs.Pages.{Page, missing, kept}

abbrev pub there : Option ℕ → Test
there None = 1 ≤? 0
there (Some n) = n ≤? 512

abbrev pub size : Option ℕ → ℕ
size c = unwrap_or c 0

abbrev pub page_in : Option ℕ → List ℕ → Page
page_in c memory = choose (there c) (kept (take (size c) memory)) missing

unfoldable pub pages_in : List (Option ℕ) → List ℕ → List Page
pages_in [] memory = []
pages_in (c ∷ cs) memory = page_in c memory ∷ pages_in cs (drop 512 memory)

-- page k of pages that are there
abbrev pub page_at : List (Option ℕ) → List ℕ → ℕ → List ℕ
page_at cs memory k = take (size (get_or cs k None)) (drop (512 * k) memory)

-- As the code goes about it: all counts say that their page is there, and what these pages have.
abbrev pub all_pages_there : List (Option ℕ) → Test
all_pages_there [] = 0 ≤? 0
all_pages_there (c ∷ cs) = there c and all_pages_there cs

unfoldable pub joined : List (Option ℕ) → List ℕ → List ℕ
joined [] memory = []
joined (c ∷ cs) memory = take (size c) memory ++ joined cs (drop 512 memory)
