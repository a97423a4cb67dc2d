-- From the writer to the collector: the pages of a list, written in any order, some of them again, are collected to that list. Assumes nothing.
use Rattle.std.proofs.Common.{◌≡◌, ℕ, ◌+◌, ◌*◌, ◌≤◌, List, [], ◌∷◌, ◌++◌, map, length, drop, subst, inl, inr}
use Rattle.wire.specs.Bytes.{Bytes, Words}
use Rattle.demands.specs.Limits.{Rising, ReadableName}
use Rattle.universe_pages.specs.Pages.{last_page_of, page_of}
use Rattle.universe_pages.specs.Writing.{page_length}
use Rattle.page_collector.specs.Collect.{list_of, fresh}
use Rattle.whole_lists.specs.Captures.{held, fed, held_after_all, Each, Among, OfPages, IsPage, written}
use Rattle.whole_lists.proofs.Whole.{whole_list, fresh_ready}
use Rattle.whole_lists.proofs.Return.{page_returned}

module _ (cid name us : List ℕ) (sixteen : length cid ≡ 16) (named : ReadableName name) (ascending : Rising us) (words : Words us)
    (bufs : ℕ → List ℕ) (room : (k : ℕ) → k ≤ last_page_of us → page_length us k ≤ length (bufs k)) where
  -- page k, written into a buffer that holds it
  abbrev sent : ℕ → List ℕ
  sent k = written cid name us k (bufs k)

  abbrev Numbered : ℕ → Type 0
  Numbered k = k ≤ last_page_of us

  is_page : (k : ℕ) → Numbered k → IsPage cid us k (sent k)
  is_page k b = (page_returned cid name us sixteen named ascending words k (bufs k) b (room k b)).1

  each : (ks : List ℕ) → Each Numbered ks → Each (OfPages cid (last_page_of us) (page_of us)) (map sent ks)
  each [] within = tt
  each (k ∷ ks) within = (inl (k, within.0, is_page k within.0), each ks within.1)

  among : (j : ℕ) → Numbered j → (ks : List ℕ) → Among (λ k. j ≡ k) ks → Among (IsPage cid us j) (map sent ks)
  among j b [] has = has
  among j b (k ∷ ks) (inl e) = inl (subst (λ (i : ℕ). IsPage cid us j (sent i)) e (is_page j b))
  among j b (k ∷ ks) (inr has) = inr (among j b ks has)

  -- Every page is among those that are sent, and the last one sent is any of them: a fresh collector with room has the list, whatever bytes were fed
  -- to it before.
  pub collected_again : (memory list : List ℕ) (before : List (List ℕ)) (ks : List ℕ) (k : ℕ) → 512 * (last_page_of us + 1) ≤ length memory →
      512 * (last_page_of us + 1) ≤ length list → Each Bytes before → Each Numbered (k ∷ ks) → ((j : ℕ) → Numbered j → Among (λ i. j ≡ i) (k ∷ ks)) →
      let then = held_after_all (held_after_all (held (fresh cid) memory list) before) (map sent ks) in
      ((fed then (sent k)).collected.answer ≡ list_of (length us)) × ((fed then (sent k)).list ≡ us ++ drop (length us) then.list)
  collected_again memory list before ks k m l bytes within all =
      whole_list cid us ascending words (held (fresh cid) memory list) before (map sent ks) (sent k) k (fresh_ready cid (last_page_of us) memory list m l) bytes
      (each ks within.1) within.0 (is_page k within.0) (λ j b. among j b (k ∷ ks) (all j b))
