-- All pages, fed in any order, some of them again, with anything between that is no page of that CID, yield their join; and those of a list that ascends
-- the list. Assumes nothing.
use Rattle.std.proofs.Common.{◌≡◌, ℕ, zero, suc, ◌+◌, ◌*◌, ◌<◌, ◌≤◌, List, [], ◌∷◌, ◌++◌, map, length, get_or, take, drop, sym, refl, ap, ◌∙◌, inl, inr, ⊎_elim, arith, length-set, take_at, ext_get_or}
use lib.ListN.{length-map, get_or-map}
use lib.Seq.{length-sets}
use Rattle.wire.specs.Bytes.{Bytes, Words}
use Rattle.wire.specs.Fields.{join}
use Rattle.wire.proofs.Laws.{sets_front}
use Rattle.refusal.specs.Check.{◌=?◌}
use Rattle.refusal.proofs.Tests.{Holds, decide}
use Rattle.cid.proofs.Laws.{same_holds}
use Rattle.discovery.specs.declared.DiscoveryFields.{DiscoveryFields}
use Rattle.demands.specs.Limits.{Rising}
use Rattle.demands.proofs.Limits.{ascending_plainly}
use Rattle.universe_pages.proofs.Rising.{rising, order→rising}
use Rattle.universe_pages.specs.Pages.{last_page_of, page_of, firsts}
use Rattle.universe_pages.proofs.Pages.{join_pages, firsts_length, firsts_at, few_pages}
use Rattle.page_collector.specs.Pages.{Page, missing, kept, join_all}
use Rattle.page_collector.specs.Collect.{After, list_of, no_counts, fresh, keeping, memory_with, answer_to, list_with, joining}
use Rattle.page_collector.proofs.Answered.{risen, risen_list}
use Rattle.whole_lists.specs.Feed.{feed}
use Rattle.whole_lists.specs.Captures.{Held, held, pages_held, fed, left, held_after_all, Each, Among, PageOf, NoPage, OfPages, IsPage, Ready}
use Rattle.whole_lists.proofs.Kept.{pages_held_lem, counts_length, pages_fed, fed_same, fed_other}
use Rattle.whole_lists.proofs.Moves.{taken_in, page_taken, others_refused, numbers, list_length, ready_by_any}

-- Pages that are all there are joined.
joined_kept : (pages : List (List ℕ)) → join_all (map kept pages) ≡ kept (join pages)
unfolding join_all
joined_kept [] = refl
joined_kept (us ∷ pages) = rw (joined_kept pages)

-- Within a list it does not matter what `get_or` gives past the end.
any_default : (ps : List Page) (i : ℕ) → i < length ps → get_or ps i (kept []) ≡ get_or ps i missing
any_default [] i h = absurd (omega arith)
any_default (p ∷ ps) zero h = refl
any_default (p ∷ ps) (suc i) h = any_default ps i (omega arith)

-- Pages 0 to last of one CID, whoever cut them.
module _ (cid : List ℕ) (last : ℕ) (pages : ℕ → List ℕ) (few : last ≤ 255) where
  abbrev fields : ℕ → DiscoveryFields
  fields k = record { page = k; last_page = last }

  abbrev Of : List ℕ → Type 0
  Of = OfPages cid last pages

  abbrev whole : List ℕ
  whole = join (firsts (last + 1) pages)

  -- What one of these pages does, and what is no page of that CID.
  own : (h : Held) (k : ℕ) (d : List ℕ) → Ready cid last h → PageOf cid last pages k d →
      fed h d ≡ joining (keeping h.collector (fields k) (pages k)) (memory_with h.memory (fields k) (pages k)) h.list
  own h k d r p =
      page_taken d cid (fields k) p.0 (pages k) p.1 h.collector h.memory h.list
      ∙ taken_in h.collector cid (fields k) (pages k) h.memory h.list
      (same_holds h.collector.cid cid r.named, ((r.memory_room, r.list_room), tt))

  other : (h : Held) (d : List ℕ) → Ready cid last h → NoPage cid d → left (fed h d) ≡ h
  other h d r n = ap left (others_refused d cid n h.collector h.memory h.list r.named).1

  -- The collector stays ready.
  ready_next : (h : Held) (d : List ℕ) → Ready cid last h → Of d → Ready cid last (left (fed h d))
  ready_next h d r (inl (k, b, p)) = rw (own h k d r p) (record {
    named = r.named;
    sized = record { counted = simp length-set (counts_length h.collector r.sized last); small = few };
    memory_room = simp length-sets r.memory_room;
    list_room = simp list_length r.list_room;
  })
  ready_next h d r (inr n) = rw (other h d r n) r

  -- Page k is held, under that last page.
  record Holding (k : ℕ) (h : Held) : Type 0 where
    to_last : h.collector.last_page ≡ last
    page_k : get_or (pages_held h) k missing ≡ kept (pages k)

  pages_next : (h : Held) (k : ℕ) (d : List ℕ) → Ready cid last h → k ≤ last → PageOf cid last pages k d →
      pages_held (left (fed h d)) ≡ feed (pages_held h) k last (pages k)
  pages_next h k d r b p =
      ap (λ (a : After). pages_held (left a)) (own h k d r p)
      ∙ pages_fed h.collector r.sized (fields k) (pages k) h.memory b few (numbers h d cid (fields k) p.0 (pages k) p.1).1 r.memory_room

  last_next : (h : Held) (k : ℕ) (d : List ℕ) → Ready cid last h → PageOf cid last pages k d → (left (fed h d)).collector.last_page ≡ last
  last_next h k d r p = ap (λ (a : After). a.collected.collector.last_page) (own h k d r p)

  -- A page that is fed is held, and what is held stays held.
  holds_fed : (h : Held) (k : ℕ) (d : List ℕ) → Ready cid last h → k ≤ last → PageOf cid last pages k d → Holding k (left (fed h d))
  holds_fed h k d r b p = record {
    to_last = last_next h k d r p;
    page_k = ap (λ (ps : List Page). get_or ps k missing) (pages_next h k d r b p) ∙ fed_same (pages_held h) k last (pages k) b;
  }

  holds_next : (h : Held) (j : ℕ) (d : List ℕ) → Ready cid last h → Of d → Holding j h → Holding j (left (fed h d))
  holds_next h j d r (inl (k, b, p)) g =
      let many : length (pages_held h) ≡ last + 1 = pages_held_lem h.collector r.sized h.memory ∙ ap (λ (n : ℕ). n + 1) g.to_last in
      decide (j =? k)
      (λ e. rw e (holds_fed h k d r b p))
      (λ n. record {
        to_last = last_next h k d r p;
        page_k = ap (λ (ps : List Page). get_or ps j missing) (pages_next h k d r b p)
            ∙ fed_other (pages_held h) k last (pages k) j many n
            ∙ g.page_k;
      })
  holds_next h j d r (inr n) g = rw (other h d r n) g

  -- The same over a capture.
  ready_after : (h : Held) (ds : List (List ℕ)) → Ready cid last h → Each Of ds → Ready cid last (held_after_all h ds)
  unfolding held_after_all
  ready_after h [] r all = r
  ready_after h (d ∷ ds) r all = ready_after (left (fed h d)) ds (ready_next h d r all.0) all.1

  holds_after : (h : Held) (j : ℕ) (ds : List (List ℕ)) → Ready cid last h → Each Of ds → Holding j h → Holding j (held_after_all h ds)
  unfolding held_after_all
  holds_after h j [] r all g = g
  holds_after h j (d ∷ ds) r all g = holds_after (left (fed h d)) j ds (ready_next h d r all.0) all.1 (holds_next h j d r all.0 g)

  held_after : (h : Held) (k : ℕ) (ds : List (List ℕ)) → Ready cid last h → Each Of ds → k ≤ last → Among (PageOf cid last pages k) ds →
      Holding k (held_after_all h ds)
  unfolding held_after_all
  held_after h k [] r all b a = absurd a
  held_after h k (d ∷ ds) r all b (inl p) = holds_after (left (fed h d)) k ds (ready_next h d r all.0) all.1 (holds_fed h k d r b p)
  held_after h k (d ∷ ds) r all b (inr a) = held_after (left (fed h d)) k ds (ready_next h d r all.0) all.1 b a

  -- All pages are held: they are joined.
  all_held : (h : Held) → Ready cid last h → ((k : ℕ) → k ≤ last → Holding k h) → join_all (pages_held h) ≡ kept whole
  all_held h r g =
      let ps = firsts (last + 1) pages in
      let many : length (pages_held h) ≡ last + 1 =
      pages_held_lem h.collector r.sized h.memory ∙ ap (λ (n : ℕ). n + 1) (g 0 (omega arith)).to_last in
      let alike : length (pages_held h) ≡ length (map kept ps) = many ∙ sym (length-map ps kept ∙ firsts_length (last + 1) pages) in
      let each : (i : ℕ) → i < length (pages_held h) → get_or (pages_held h) i (kept []) ≡ get_or (map kept ps) i (kept []) =
      λ i b.
      let within : i < last + 1 = omega (arith, b, many) in
      any_default (pages_held h) i b
      ∙ (g i (omega (arith, within))).page_k
      ∙ sym (get_or-map kept ps i [] ∙ ap kept (firsts_at (last + 1) pages i [] within)) in
      ap join_all (ext_get_or (kept []) (pages_held h) (map kept ps) alike each) ∙ joined_kept ps

  -- A page is fed, and then all are held: the answer is their join's.
  joined : (h : Held) (k : ℕ) (d : List ℕ) → Ready cid last h → k ≤ last → PageOf cid last pages k d →
      ((j : ℕ) → j ≤ last → Holding j (left (fed h d))) →
      ((fed h d).collected.answer ≡ answer_to (kept whole)) × ((fed h d).list ≡ list_with h.list (kept whole))
  joined h k d r b p g =
      let is = own h k d r p in
      let all = sym (ap (λ (a : After). join_all (pages_held (left a))) is) ∙ all_held (left (fed h d)) (ready_next h d r (inl (k, b, p))) g in
      (ap (λ (a : After). a.collected.answer) is ∙ ap answer_to all, ap (λ (a : After). a.list) is ∙ ap (list_with h.list) all)

  -- all pages are held once the last of them was fed
  completed : (h : Held) (ds : List (List ℕ)) (d : List ℕ) (k : ℕ) → Ready cid last h → Each Of ds → k ≤ last → PageOf cid last pages k d →
      ((j : ℕ) → j ≤ last → Among (PageOf cid last pages j) (d ∷ ds)) → (j : ℕ) → j ≤ last → Holding j (left (fed (held_after_all h ds) d))
  completed h ds d k r all b p among j c =
      let ready = ready_after h ds r all in
      ⊎_elim (λ q. holds_fed (held_after_all h ds) j d ready c q)
      (λ a. holds_next (held_after_all h ds) j d ready (inl (k, b, p)) (held_after h j ds r all c a)) (among j c)

  -- Whatever bytes were fed before, the collector is ready.
  ready_then : (h : Held) (ds : List (List ℕ)) → Ready cid last h → Each Bytes ds → Ready cid last (held_after_all h ds)
  unfolding held_after_all
  ready_then h [] r all = r
  ready_then h (d ∷ ds) r all = ready_then (left (fed h d)) ds (ready_by_any h d cid last r all.0) all.1

  -- The theorem, for pages of any writer. Whatever collector of that CID with room there is and whatever bytes were fed to it before: where every datagram
  -- since is one of the pages or no page of that CID, all pages are among them, and the last one fed is one of them, the answer is that of the pages
  -- joined in page order: the list, or 44.
  pub whole_join : (h : Held) (before ds : List (List ℕ)) (d : List ℕ) (k : ℕ) → Ready cid last h → Each Bytes before → Each Of ds → k ≤ last →
      PageOf cid last pages k d → ((j : ℕ) → j ≤ last → Among (PageOf cid last pages j) (d ∷ ds)) →
      let then = held_after_all (held_after_all h before) ds in
      ((fed then d).collected.answer ≡ answer_to (kept whole)) × ((fed then d).list ≡ list_with then.list (kept whole))
  whole_join h before ds d k r bytes all b p among =
      let ready = ready_then h before r bytes in
      joined (held_after_all (held_after_all h before) ds) k d (ready_after (held_after_all h before) ds ready all) b p (completed (held_after_all h before) ds d k ready all b p among)

-- A list that ascends.
module _ (cid us : List ℕ) (ascending : Rising us) (words : Words us) where
  up : Holds (rising us)
  up = order→rising us ((ascending_plainly us).1 ascending)

  few_pages_of : last_page_of us ≤ 255
  few_pages_of = omega (arith, few_pages us (λ i h. words i) up)

  abbrev OfList : List ℕ → Type 0
  OfList = OfPages cid (last_page_of us) (page_of us)

  -- the join of its pages is answered as the list
  as_list : (l : List ℕ) → 512 * (last_page_of us + 1) ≤ length l →
      let whole = kept (join (firsts (last_page_of us + 1) (page_of us))) in
      (answer_to whole ≡ list_of (length us)) × (list_with l whole ≡ us ++ drop (length us) l)
  as_list l room =
      let is = ap kept (join_pages us) in (
        ap answer_to is ∙ risen us up,
        ap (list_with l) is ∙ risen_list us l up ∙ sets_front us l (length us) refl (omega (arith, room)),
      )

  -- The theorem, for the pages of one list: the answer is the list, and the list stands in the lent one, with what is behind it as it was.
  pub whole_list : (h : Held) (before ds : List (List ℕ)) (d : List ℕ) (k : ℕ) → Ready cid (last_page_of us) h → Each Bytes before → Each OfList ds →
      k ≤ last_page_of us → IsPage cid us k d → ((j : ℕ) → j ≤ last_page_of us → Among (IsPage cid us j) (d ∷ ds)) →
      let then = held_after_all (held_after_all h before) ds in
      ((fed then d).collected.answer ≡ list_of (length us)) × ((fed then d).list ≡ us ++ drop (length us) then.list)
  whole_list h before ds d k r bytes all b p among =
      let then = held_after_all (held_after_all h before) ds in
      let is = whole_join cid (last_page_of us) (page_of us) few_pages_of h before ds d k r bytes all b p among in
      let ready = ready_after cid (last_page_of us) (page_of us) few_pages_of (held_after_all h before) ds (ready_then cid (last_page_of us) (page_of us) few_pages_of h before r bytes) all in
      let list = as_list then.list ready.list_room in
      (is.0 ∙ list.0, is.1 ∙ list.1)

  -- And there it stays, whatever of the same kind is fed after that.
  stays : (h : Held) (ds : List (List ℕ)) → Ready cid (last_page_of us) h → Each OfList ds →
      ((j : ℕ) → j ≤ last_page_of us → Holding cid (last_page_of us) (page_of us) few_pages_of j h) →
      take (length us) h.list ≡ us → take (length us) (held_after_all h ds).list ≡ us
  unfolding held_after_all
  stays h [] r all g e = e
  stays h (d ∷ ds) r all g e =
      stays (left (fed h d)) ds (ready_next cid (last_page_of us) (page_of us) few_pages_of h d r all.0) all.1
      (λ j c. holds_next cid (last_page_of us) (page_of us) few_pages_of h j d r all.0 (g j c)) (by all.0)
    where
      by : OfList d → take (length us) (fed h d).list ≡ us
      by (inl (k, b, p)) =
          let is = (joined cid (last_page_of us) (page_of us) few_pages_of h k d r b p (λ j c. holds_next cid (last_page_of us) (page_of us) few_pages_of h j d r (inl (k, b, p)) (g j c))).1 in
          ap (take (length us)) (is ∙ (as_list h.list r.list_room).1) ∙ take_at us (drop (length us) h.list) (length us) refl
      by (inr n) = ap (λ (x : Held). take (length us) x.list) (other cid (last_page_of us) (page_of us) few_pages_of h d r n) ∙ e

  pub list_stays : (h : Held) (before ds : List (List ℕ)) (d : List ℕ) (k : ℕ) (later : List (List ℕ)) → Ready cid (last_page_of us) h → Each Bytes before →
      Each OfList ds → k ≤ last_page_of us → IsPage cid us k d → ((j : ℕ) → j ≤ last_page_of us → Among (IsPage cid us j) (d ∷ ds)) → Each OfList later →
      take (length us) (held_after_all (left (fed (held_after_all (held_after_all h before) ds) d)) later).list ≡ us
  list_stays h before ds d k later r bytes all b p among more =
      let begun = held_after_all h before in
      let then = held_after_all begun ds in
      let ready = ready_then cid (last_page_of us) (page_of us) few_pages_of h before r bytes in
      let after = ready_after cid (last_page_of us) (page_of us) few_pages_of begun ds ready all in
      stays (left (fed then d)) later (ready_next cid (last_page_of us) (page_of us) few_pages_of then d after (inl (k, b, p))) more
      (completed cid (last_page_of us) (page_of us) few_pages_of begun ds d k ready all b p among)
      (ap (take (length us)) (whole_list h before ds d k r bytes all b p among).1 ∙ take_at us (drop (length us) then.list) (length us) refl)

-- A fresh collector with room is ready for the list.
pub fresh_ready : (cid : List ℕ) (last : ℕ) (memory list : List ℕ) → 512 * (last + 1) ≤ length memory → 512 * (last + 1) ≤ length list →
    Ready cid last (held (fresh cid) memory list)
unfolding no_counts
fresh_ready cid last memory list m l = record { named = refl; sized = record { counted = refl; small = omega arith }; memory_room = m; list_room = l }
