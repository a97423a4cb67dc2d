-- What the collector does to its counts and its memory is what `feed` does to the pages. Assumes nothing.
use Rattle.std.proofs.Common.{Option, Some, None, ◌≡◌, ℕ, zero, suc, ◌+◌, ◌*◌, ◌<◌, ◌≤◌, List, [], ◌∷◌, length, get_or, take, drop, set, replicate, sym, refl, ap, ◌∙◌, add-suc, arith, length-drop, length-take-le, get_or-set_other, get_or-set_same, take_at, drop-set-lt}
use lib.ListN.{length-replicate}
use lib.Seq.{sets, take-set-le, take-set-lt, drop-set-add}
use Rattle.std.proofs.lemmas.List.{take-replicate}
use Rattle.wire.proofs.Laws.{sets_front}
use Rattle.refusal.specs.Check.{◌=?◌, choose}
use Rattle.refusal.proofs.Tests.{decide, chosen, passed_over, choice}
use Rattle.discovery.specs.declared.DiscoveryFields.{DiscoveryFields}
use Rattle.page_collector.specs.Pages.{Page, missing, kept}
use Rattle.page_collector.specs.Memory.{there, size, page_in, pages_in}
use Rattle.page_collector.proofs.Memory.{size_short}
use Rattle.page_collector.specs.Collect.{no_counts, counts_for, keeping, memory_with, pages_by}
use Rattle.page_collector.specs.declared.Collector.{Collector}
use Rattle.whole_lists.specs.Feed.{feed}
use Rattle.whole_lists.specs.Captures.{Sized}

-- Numbers that are put into a list leave what stands before them and behind them.
take_sets : (n : ℕ) (vs l : List ℕ) (i : ℕ) → n ≤ i → take n (sets l i vs) ≡ take n l
take_sets n [] l i h = refl
take_sets n (v ∷ vs) l i h = take_sets n vs (set l i v) (suc i) (omega arith) ∙ take-set-le n l i v h

drop_sets : (n : ℕ) (vs l : List ℕ) (i : ℕ) → i + length vs ≤ n → drop n (sets l i vs) ≡ drop n l
drop_sets n [] l i h = refl
drop_sets n (v ∷ vs) l i h = drop_sets n vs (set l i v) (suc i) (omega arith) ∙ drop-set-lt n l i v (omega arith)

-- And they are put into what is left of the list.
sets_drop : (n : ℕ) (vs l : List ℕ) (i : ℕ) → drop n (sets l (n + i) vs) ≡ sets (drop n l) i vs
sets_drop n [] l i = refl
sets_drop n (v ∷ vs) l i =
    ap (λ (j : ℕ). drop n (sets (set l (n + i) v) j vs)) (sym (add-suc n i)) ∙ sets_drop n vs (set l (n + i) v) (suc i) ∙ rw (drop-set-add n l i v)

-- A page in memory: only its first 512 numbers count; and one that was put there is kept.
page_same : (c : Option ℕ) (m l : List ℕ) → ((n : ℕ) → n ≤ 512 → take n m ≡ take n l) → page_in c m ≡ page_in c l
page_same c m l same =
    decide (there c)
    (λ t. sym (chosen (there c) (kept (take (size c) m)) missing t refl) ∙ ap kept (same (size c) (size_short c t)) ∙ chosen (there c) (kept (take (size c) l)) missing t refl)
    (λ f. sym (passed_over (there c) (kept (take (size c) m)) missing f refl) ∙ passed_over (there c) (kept (take (size c) l)) missing f refl)

page_put : (us m : List ℕ) → length us ≤ 512 → 512 ≤ length m → page_in (Some (length us)) (sets m 0 us) ≡ kept us
page_put us m short room =
    let is : take (length us) (sets m 0 us) ≡ us = rw (sets_front us m (length us) refl (omega arith)) (take_at us (drop (length us) m) (length us) refl) in
    sym (chosen (there (Some (length us))) (kept (take (length us) (sets m 0 us))) missing short refl) ∙ ap kept is

-- Page k is put at its place, and its count is set: page k is kept, and the others stay.
pages_put : (cs : List (Option ℕ)) (m us : List ℕ) (k : ℕ) → k < length cs → length us ≤ 512 → 512 * (k + 1) ≤ length m →
    pages_in (set cs k (Some (length us))) (sets m (512 * k) us) ≡ set (pages_in cs m) k (kept us)
unfolding pages_in
pages_put [] m us k h short room = absurd (omega arith)
pages_put (c ∷ cs) m us zero h short room = rw (page_put us m short (omega arith), drop_sets 512 us m 0 (omega arith))
pages_put (c ∷ cs) m us (suc k) h short room =
    let at : 512 * suc k ≡ 512 + 512 * k = omega arith in
    let before : page_in c (sets m (512 * suc k) us) ≡ page_in c m = page_same c _ m (λ n b. take_sets n us m (512 * suc k) (omega arith)) in
    let behind : drop 512 (sets m (512 * suc k) us) ≡ sets (drop 512 m) (512 * k) us = rw at (sets_drop 512 us m (512 * k)) in
    rw (before, behind, pages_put cs (drop 512 m) us k (omega arith) short (omega (arith, length-drop 512 m)))

pages_length : (cs : List (Option ℕ)) (m : List ℕ) → length (pages_in cs m) ≡ length cs
unfolding pages_in
pages_length [] m = refl
pages_length (c ∷ cs) m = ap suc (pages_length cs (drop 512 m))

-- Without counts all pages are missing.
pages_none : (n : ℕ) (m : List ℕ) → pages_in (replicate n None) m ≡ replicate n missing
unfolding pages_in choose
pages_none zero m = refl
pages_none (suc n) m = rw (pages_none n (drop 512 m))

none_first : (n : ℕ) → n ≤ 256 → take n no_counts ≡ replicate n None
unfolding no_counts
none_first n h = take-replicate n 256 None h

none_length : length no_counts ≡ 256
unfolding no_counts
none_length = refl

-- Of a collector: how many pages it has; its counts for a last page; and its pages once a page is kept.
module _ (c : Collector) (sized : Sized c) where
  pub pages_held_lem : (m : List ℕ) → length (pages_by c m) ≡ c.last_page + 1
  pages_held_lem m = pages_length (take (c.last_page + 1) c.counts) m ∙ length-take-le (c.last_page + 1) c.counts (omega (arith, sized.counted, sized.small))

  pub counts_length : (last : ℕ) → length (counts_for c last) ≡ 256
  unfolding counts_for
  counts_length last = choice (λ (cs : List (Option ℕ)). length cs ≡ 256) (c.last_page =? last) c.counts no_counts (λ h. sized.counted) (λ f. none_length)

  -- as they are, or all afresh
  counts_pages : (last : ℕ) (m : List ℕ) → last ≤ 255 →
      pages_in (take (last + 1) (counts_for c last)) m ≡ choose (length (pages_by c m) =? last + 1) (pages_by c m) (replicate (last + 1) missing)
  unfolding counts_for
  counts_pages last m h =
      let many = pages_held_lem m in
      let t = length (pages_by c m) =? last + 1 in
      decide (c.last_page =? last)
      (λ e.
      ap (λ (cs : List (Option ℕ)). pages_in (take (last + 1) cs) m) (sym (chosen (c.last_page =? last) c.counts no_counts e refl))
      ∙ ap (λ (n : ℕ). pages_in (take (n + 1) c.counts) m) (sym e)
      ∙ chosen t (pages_by c m) (replicate (last + 1) missing) (omega (arith, many, e)) refl)
      (λ n.
      ap (λ (cs : List (Option ℕ)). pages_in (take (last + 1) cs) m) (sym (passed_over (c.last_page =? last) c.counts no_counts n refl))
      ∙ ap (λ (cs : List (Option ℕ)). pages_in cs m) (none_first (last + 1) (omega arith))
      ∙ pages_none (last + 1) m
      ∙ passed_over t (pages_by c m) (replicate (last + 1) missing) (λ e. n (omega (arith, many, e))) refl)

  pub pages_fed : (f : DiscoveryFields) (us m : List ℕ) → f.page ≤ f.last_page → f.last_page ≤ 255 → length us ≤ 512 →
      512 * (f.last_page + 1) ≤ length m →
      pages_by (keeping c f us) (memory_with m f us) ≡ feed (pages_by c m) f.page f.last_page us
  unfolding feed
  pages_fed f us m paged b short room =
      let last = f.last_page in
      let cs = counts_for c last in
      let many : length (take (last + 1) cs) ≡ last + 1 = length-take-le (last + 1) cs (omega (arith, b, counts_length last)) in
      ap (λ (l : List (Option ℕ)). pages_in l (memory_with m f us)) (take-set-lt (last + 1) cs f.page (Some (length us)) (omega arith))
      ∙ pages_put (take (last + 1) cs) m us f.page (omega (arith, paged, many)) short (omega (arith, paged, room))
      ∙ ap (λ (ps : List Page). set ps f.page (kept us)) (counts_pages last m b)

-- What was fed: as many pages as it says; page k is the one that was fed, and the others stay where the last page's number stays.
module _ (ps : List Page) (k last : ℕ) (us : List ℕ) where
  abbrev fresh_or_not : List Page
  fresh_or_not = choose (length ps =? last + 1) ps (replicate (last + 1) missing)

  begun_length : length fresh_or_not ≡ last + 1
  begun_length =
      choice (λ (x : List Page). length x ≡ last + 1) (length ps =? last + 1) ps (replicate (last + 1) missing) (λ h. h) (λ h. length-replicate (last + 1) missing)

  pub fed_same : k ≤ last → get_or (feed ps k last us) k missing ≡ kept us
  unfolding feed
  fed_same h = get_or-set_same fresh_or_not k (kept us) missing (omega (arith, h, begun_length))

  pub fed_other : (j : ℕ) → length ps ≡ last + 1 → (j ≡ k → ⊥) → get_or (feed ps k last us) j missing ≡ get_or ps j missing
  unfolding feed
  fed_other j e n =
      ap (λ (qs : List Page). get_or (set qs k (kept us)) j missing) (sym (chosen (length ps =? last + 1) ps (replicate (last + 1) missing) e refl))
      ∙ get_or-set_other ps k j (kept us) missing n
