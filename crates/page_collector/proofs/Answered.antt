-- The answer to joined pages by one test, that they rise. Assumes nothing.
use Rattle.std.proofs.Common.{◌≡◌, ℕ, ◌+◌, true, false, List, [], ◌∷◌, length, ap, arith}
use Rattle.std.proofs.lemmas.List.Edits.{sets}
use Rattle.refusal.specs.Check.{◌≤?◌, refusal, nowhere, reading}
use Rattle.refusal.proofs.Tests.{Holds, Fails, decided, decide}
use Rattle.refusal.proofs.Laws.{All, all_hold}
use Rattle.discovery.specs.Universes.{pairs_from, pairs}
use Rattle.universe_pages.proofs.Rising.{rising_from, rising}
use Rattle.page_collector.specs.Pages.{kept}
use Rattle.page_collector.specs.Collect.{Answer, list_of, refused, climbs, answer_to, list_by, list_with}

rises_from : (u : ℕ) (us : List ℕ) → Holds (rising_from (u + 1) us) → All (pairs_from climbs u us)
rises_from u [] r = tt
rises_from u (v ∷ us) r = (r.0, rises_from v us r.1)

falls_from : (u : ℕ) (us : List ℕ) (next : Answer) → Fails (rising_from (u + 1) us) →
    reading refused (pairs_from climbs u us) next ≡ refused (refusal 44 nowhere 0)
unfolding reading
falls_from u [] next f = absurd (omega arith)
falls_from u (v ∷ us) next f = decide (u + 1 ≤? v)
    (λ h. rw (decided (u + 1 ≤? v) true h) (falls_from v us next (f h)))
    (λ n. rw (decided (u + 1 ≤? v) false n))

-- Joined pages that rise are the list.
pub risen : (us : List ℕ) → Holds (rising us) → answer_to (kept us) ≡ list_of (length us)
risen us r = all_hold refused (pairs climbs us) (list_of (length us)) (by us r)
  where
    by : (us : List ℕ) → Holds (rising us) → All (pairs climbs us)
    by [] r = tt
    by (u ∷ us) r = rises_from u us r.1

pub risen_list : (us l : List ℕ) → Holds (rising us) → list_with l (kept us) ≡ sets l 0 us
risen_list us l r = ap (λ (a : Answer). list_by a us l) (risen us r)

-- Those that do not are refused 44.
pub fallen : (us : List ℕ) → Fails (rising us) → answer_to (kept us) ≡ refused (refusal 44 nowhere 0)
fallen [] f = absurd (omega arith)
fallen (u ∷ us) f = falls_from u us (list_of (length (u ∷ us))) (f (omega arith))

pub fallen_list : (us l : List ℕ) → Fails (rising us) → list_with l (kept us) ≡ l
fallen_list us l f = ap (λ (a : Answer). list_by a us l) (fallen us f)
