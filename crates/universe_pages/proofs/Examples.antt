-- Lists of the lengths that decide, by running the definitions. Assumes nothing.
use Rattle.std.proofs.Common.{◌≡◌, ℕ, List, [], ◌∷◌, map, length, replicate, refl}
use Rattle.universe_pages.specs.Pages.{last_page_of, firsts, pages_of}

-- how many universes each page has: of none, 1, 512, 513 and 1,024
pub page_sizes : map (λ (n : ℕ). map (λ (page : List ℕ). length page) (pages_of (replicate n 0))) (0 ∷ 1 ∷ 512 ∷ 513 ∷ 1024 ∷ [])
    ≡ (0 ∷ []) ∷ (1 ∷ []) ∷ (512 ∷ []) ∷ (512 ∷ 1 ∷ []) ∷ (512 ∷ 512 ∷ []) ∷ []
unfolding firsts
page_sizes = refl

-- all universes of the protocol, and all numbers of 16 bits
pub last_pages : (us vs : List ℕ) → length us ≡ 63999 → length vs ≡ 65536 → (last_page_of us ≡ 124) × (last_page_of vs ≡ 127)
last_pages us vs h k = rw (h, k) (refl, refl)
