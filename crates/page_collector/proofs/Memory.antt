-- Pages in memory: their counts one by one, and what they are joined to. Assumes nothing.
use Rattle.std.proofs.Common.{Option, Some, None, ◌≡◌, ℕ, zero, suc, ◌+◌, ◌*◌, ◌<◌, ◌≤◌, true, false, List, [], ◌∷◌, ◌++◌, length, get_or, take, drop, refl, ap, ◌∙◌, arith, length-append, drop_of_length-le, drop-drop}
use Rattle.std.proofs.lemmas.List.Edits.{sets}
use Rattle.std.proofs.lemmas.List.{drop_more}
use Rattle.wire.proofs.Laws.{sets_append}
use Rattle.refusal.specs.Check.{outcome, pick, choose}
use Rattle.refusal.proofs.Tests.{Holds, Fails, decided, decide}
use Rattle.universe_pages.proofs.Rising.{rising_from, behind, rising_++}
use Rattle.page_collector.specs.Pages.{missing, kept, join_all}
use Rattle.page_collector.specs.Collect.{Answer, after, collected_of, answer_to, list_with, joining}
use Rattle.page_collector.specs.declared.Collector.{Collector}
use Rattle.page_collector.specs.Memory.{there, size, page_at, pages_in, all_pages_there, joined}

-- Where all counts say so, each does.
pub there_at : (cs : List (Option ℕ)) (k : ℕ) → k < length cs → Holds (all_pages_there cs) → Holds (there (get_or cs k None))
there_at [] k h a = absurd (omega arith)
there_at (c ∷ cs) zero h a = a.0
there_at (c ∷ cs) (suc k) h a = there_at cs k (omega arith) a.1

-- What is there has a size that a page can have.
pub size_short : (c : Option ℕ) → Holds (there c) → size c ≤ 512
size_short None h = omega arith
size_short (Some n) h = h

-- What is left to join from page k on: page k, and what is left behind it.
abbrev pub left : List (Option ℕ) → List ℕ → ℕ → List ℕ
left cs m k = joined (drop k cs) (drop (512 * k) m)

pub left_next : (cs : List (Option ℕ)) (m : List ℕ) (k : ℕ) → k < length cs → left cs m k ≡ page_at cs m k ++ left cs m (k + 1)
unfolding joined
left_next cs m k h =
    let at : 512 * k + 512 ≡ 512 * (k + 1) = omega arith in
    rw (drop_more cs k None h, drop-drop 512 (512 * k) m) (ap (λ (i : ℕ). page_at cs m k ++ joined (drop (k + 1) cs) (drop i m)) at)

pub left_none : (cs : List (Option ℕ)) (m : List ℕ) (k : ℕ) → length cs ≤ k → left cs m k ≡ []
unfolding joined
left_none cs m k h = rw (drop_of_length-le cs h)

-- All pages by their counts: joined where all are there, and else missing.
pub all_joined : (cs : List (Option ℕ)) (m : List ℕ) → Holds (all_pages_there cs) → join_all (pages_in cs m) ≡ kept (joined cs m)
unfolding join_all pages_in joined choose
all_joined [] m h = refl
all_joined (c ∷ cs) m h = rw (decided (there c) true h.0, all_joined cs (drop 512 m) h.1)

pub one_missing : (cs : List (Option ℕ)) (m : List ℕ) → Fails (all_pages_there cs) → join_all (pages_in cs m) ≡ missing
unfolding join_all pages_in choose
one_missing [] m f = absurd (omega arith)
one_missing (c ∷ cs) m f = decide (there c)
    (λ t. rw (decided (there c) true t, one_missing cs (drop 512 m) (f t)))
    (λ t. rw (decided (there c) false t))

-- Whether what is left rises: page k does, and then what is left behind it.
pub left_rising : (cs : List (Option ℕ)) (m : List ℕ) (k low : ℕ) → k < length cs →
    outcome (rising_from low (left cs m k))
    ≡ pick (outcome (rising_from low (page_at cs m k))) (outcome (rising_from (behind low (page_at cs m k)) (left cs m (k + 1)))) false
left_rising cs m k low h =
    ap (λ (us : List ℕ). outcome (rising_from low us)) (left_next cs m k h) ∙ rising_++ low (page_at cs m k) (left cs m (k + 1))

pub none_rising : (cs : List (Option ℕ)) (m : List ℕ) (k low : ℕ) → length cs ≤ k → outcome (rising_from low (left cs m k)) ≡ true
none_rising cs m k low h = ap (λ (us : List ℕ). outcome (rising_from low us)) (left_none cs m k h)

-- What is left, put behind what was: page k, and what is left behind it.
pub left_put : (cs : List (Option ℕ)) (m l : List ℕ) (k at : ℕ) → k < length cs →
    sets l at (left cs m k) ≡ sets (sets l at (page_at cs m k)) (at + length (page_at cs m k)) (left cs m (k + 1))
left_put cs m l k at h = ap (sets l at) (left_next cs m k h) ∙ sets_append (page_at cs m k) (left cs m (k + 1)) l at

pub left_length : (cs : List (Option ℕ)) (m : List ℕ) (k : ℕ) → k < length cs → length (left cs m k) ≡ length (page_at cs m k) + length (left cs m (k + 1))
left_length cs m k h = ap length (left_next cs m k h) ∙ length-append (page_at cs m k) (left cs m (k + 1))

pub none_left : (cs : List (Option ℕ)) (m l : List ℕ) (k at : ℕ) → length cs ≤ k → (sets l at (left cs m k) ≡ l) × (length (left cs m k) ≡ 0)
none_left cs m l k at h = let e = left_none cs m k h in (rw e refl, rw e refl)

-- What is kept, and then joined.
pub kept_joined : (keep c : Collector) (memory m list l : List ℕ) (a : Answer) → c ≡ keep → m ≡ memory →
    let all = join_all (pages_in (take (keep.last_page + 1) c.counts) m) in
    a ≡ answer_to all → l ≡ list_with list all → after m l (collected_of c a) ≡ joining keep memory list
kept_joined keep c memory m list l a ec em ea el = rw (ea, el, ec, em)
