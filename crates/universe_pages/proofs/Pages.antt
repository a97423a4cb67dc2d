-- The pages of a list: all together they are the list, none has more than 512, and a list that rises has few. Assumes nothing.
use Rattle.std.proofs.Common.{◌≡◌, ℕ, zero, suc, ◌+◌, ◌-◌, ◌*◌, ◌<◌, ◌≤◌, min, List, [], ◌∷◌, length, get_or, take, drop, sym, refl, ap, ◌∙◌, arith, length-drop, take-append-drop, length-take, take_all, drop-drop}
use Rattle.wire.specs.Fields.{join}
use Rattle.wire.proofs.Laws.{rest}
use Rattle.refusal.specs.Check.{◌≤?◌}
use Rattle.refusal.proofs.Tests.{Holds, decide}
use Rattle.universe_pages.proofs.Rising.{rising, rising_take, rising_drop, rising_words}
use Rattle.universe_pages.specs.Pages.{last_page_of, page_of, firsts, pages_of}

-- Things that are numbered.
pub firsts_alike : {A : Type 0} (n : ℕ) (f g : ℕ → A) → ((k : ℕ) → k < n → f k ≡ g k) → firsts n f ≡ firsts n g
unfolding firsts
firsts_alike zero f g same = refl
firsts_alike (suc n) f g same =
    rw (same 0 (omega arith), firsts_alike n (λ k. f (suc k)) (λ k. g (suc k)) (λ k h. same (suc k) (omega arith)))

pub firsts_length : {A : Type 0} (n : ℕ) (f : ℕ → A) → length (firsts n f) ≡ n
unfolding firsts
firsts_length zero f = refl
firsts_length (suc n) f = ap suc (firsts_length n (λ k. f (suc k)))

pub firsts_at : {A : Type 0} (n : ℕ) (f : ℕ → A) (k : ℕ) (a : A) → k < n → get_or (firsts n f) k a ≡ f k
unfolding firsts
firsts_at zero f k a h = absurd (omega arith)
firsts_at (suc n) f zero a h = refl
firsts_at (suc n) f (suc k) a h = firsts_at n (λ j. f (suc j)) k a (omega arith)

-- Page k + 1 of a list is page k of what is behind its first page.
page_next : (us : List ℕ) (k : ℕ) → page_of us (suc k) ≡ page_of (drop 512 us) k
page_next us k =
    let at : 512 * suc k ≡ 512 + 512 * k = omega arith in
    rw (at) (sym (ap (take 512) (drop-drop (512 * k) 512 us)))

join_firsts : (n : ℕ) (us : List ℕ) → length us ≤ 512 * n → join (firsts n (page_of us)) ≡ us
unfolding firsts
join_firsts zero [] h = refl
join_firsts zero (u ∷ us) h = absurd (omega arith)
join_firsts (suc n) us h =
    rw (
      firsts_alike n (λ k. page_of us (suc k)) (page_of (drop 512 us)) (λ k b. page_next us k),
      join_firsts n (drop 512 us) (omega (arith, length-drop 512 us)),
    )
    (take-append-drop 512 us)

-- All pages together are the list.
pub join_pages : (us : List ℕ) → join (pages_of us) ≡ us
join_pages us = join_firsts (last_page_of us + 1) us (omega arith)

pub page_short : (us : List ℕ) (k : ℕ) → length (page_of us k) ≤ 512
page_short us k = omega (arith, length-take 512 (drop (512 * k) us))

pub page_rising : (us : List ℕ) (k : ℕ) → Holds (rising us) → Holds (rising (page_of us k))
page_rising us k r = rising_take 512 0 (drop (512 * k) us) (rising_drop (512 * k) 0 us r)

-- A page's number has room in a byte: a list of 16-bit numbers that rises has at most 128 pages.
pub few_pages : (us : List ℕ) → ((i : ℕ) → i < length us → get_or us i 0 < 0x10000) → Holds (rising us) → last_page_of us ≤ 127
few_pages us w r = omega (arith, rising_words us w r)

-- A page as the code cuts it out of the list.
pub page_cut : (us : List ℕ) (start : ℕ) → start ≤ length us → take (min (start + 512) (length us) - start) (drop start us) ≡ take 512 (drop start us)
page_cut us start h = decide (start + 512 ≤? length us)
    (λ y. let e : min (start + 512) (length us) - start ≡ 512 = omega arith in rw e)
    (λ n. let e : min (start + 512) (length us) - start ≡ length us - start = omega arith in
    rw e (rest us start ∙ sym (take_all 512 (drop start us) (omega (arith, length-drop start us)))))
