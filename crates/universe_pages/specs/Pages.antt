-- A whole list of universes, cut into pages of 512.
use Rattle.std.specs.Prelude.{ℕ, zero, suc, ◌+◌, ◌-◌, ◌*◌, ◌/◌, List, [], ◌∷◌, length, take, drop}

-- the last page's number: an empty list has one page, and no empty page follows a full one
abbrev pub last_page_of : List ℕ → ℕ
last_page_of us = (length us - 1) / 512

-- page k
abbrev pub page_of : List ℕ → ℕ → List ℕ
page_of us k = take 512 (drop (512 * k) us)

-- f 0, f 1 and so on, n of them
unfoldable pub firsts : {A : Type 0} → ℕ → (ℕ → A) → List A
firsts zero f = []
firsts (suc n) f = f 0 ∷ firsts n (λ k. f (suc k))

-- all pages, in their order
abbrev pub pages_of : List ℕ → List (List ℕ)
pages_of us = firsts (last_page_of us + 1) (page_of us)
