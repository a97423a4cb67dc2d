-- What a datagram moves: a page that is taken in is fed to the pages that are held, and the list is their join; 31, 42, 43 and reading's own refusals
-- move nothing; 44 moves the page alone. For every collector, every memory and every list. Assumes nothing.
use Rattle.std.proofs.Common.{Some, ◌≡◌, ℕ, zero, suc, ◌+◌, ◌*◌, ◌≤◌, ◌⊎◌, List, [], ◌++◌, length, set, replicate, sym, refl, ap, ◌∙◌, subst, inl, inr, ⊎_elim, append-nil, add-one, arith, length-set}
use lib.Seq.{length-sets}
use Rattle.wire.specs.Bytes.{Bytes}
use Rattle.refusal.specs.declared.Refusal.{Refusal}
use Rattle.refusal.specs.Check.{Numbered, refusal, nowhere, ◌=?◌}
use Rattle.refusal.proofs.Tests.{Holds, fact, decide, chosen, passed_over}
use Rattle.refusal.proofs.Laws.{All, Stops, refusal_at, decides, all_hold, first_fails}
use Rattle.cid.proofs.Laws.{same_holds, same_fails}
use Rattle.discovery.specs.declared.DiscoveryFields.{DiscoveryFields}
use Rattle.discovery.specs.Universes.{pairs, ascends}
use Rattle.packet.specs.Packet.{packet_of, cid_of, with_cid, reading_of}
use Rattle.packet.specs.declared.DiscoveryRecord.{DiscoveryRecord}
use Rattle.packet.specs.declared.Packet.{Packet}
use Rattle.packet.specs.declared.Packet.TheVariants as packet
use Rattle.packet.proofs.Whole.{read}
use Rattle.parts.specs.Parts.{shown_at, listed_at}
use Rattle.demands.specs.Content.{discovery_content, content_of, meaning}
use Rattle.demands.specs.Spans.{SpansIn}
use Rattle.demands.proofs.Meaning.{discovery_meant}
use Rattle.demands.proofs.Spans.{spans}
use Rattle.universe_pages.proofs.Rising.{rising, ascends→rising}
use Rattle.page_collector.specs.Pages.{Page, missing, kept, join_all}
use Rattle.page_collector.specs.Collect.{Answer, list_of, refused, After, after, collected_of, collector_of, no_counts, counts_for, pages_by, take_in_checks, keeping, memory_with, answer_to, list_with, joining, refusing, take_in, collect_by, collect_of}
use Rattle.page_collector.specs.Table.{collector_allowed}
use Rattle.page_collector.specs.declared.Collector.{Collector}
use Rattle.page_collector.proofs.Answered.{risen, risen_list, fallen, fallen_list}
use Rattle.page_collector.proofs.Read.{page_within, last_small}
use Rattle.whole_lists.specs.Feed.{feed}
use Rattle.whole_lists.specs.Captures.{Held, pages_held, fed, left, NoPage, Sized, Ready}
use Rattle.whole_lists.proofs.Kept.{pages_held_lem, counts_length, pages_fed}

abbrev answer_in : After → Answer
answer_in a = a.collected.answer

is_allowed : (q r : Refusal) → Holds (collector_allowed q) → q ≡ r → Holds (collector_allowed r)
is_allowed q r h e = subst (λ (x : Refusal). Holds (collector_allowed x)) e h

-- A refusal of a join is 44, and the list stays as found.
join_refused : (l : List ℕ) (p : Page) (r : Refusal) → answer_to p ≡ refused r → (r ≡ refusal 44 nowhere 0) × (list_with l p ≡ l)
join_refused l missing r e = let z : ◌≡◌ {A = ℕ} 0 1 = cc in absurd (omega arith)
join_refused l (kept us) r e =
    decide (rising us)
    (λ h.
    let f : list_of (length us) ≡ refused r = sym (risen us h) ∙ e in
    let z : ◌≡◌ {A = ℕ} 0 1 = cc in absurd (omega arith))
    (λ n.
    let f : refused (refusal 44 nowhere 0) ≡ refused r = sym (fallen us n) ∙ e in
    let is : refusal 44 nowhere 0 ≡ r = cc in
    (sym is, fallen_list us l n))

-- A page, by its CID, fields and universes.
module _ (c : Collector) (cid : List ℕ) (f : DiscoveryFields) (us memory list : List ℕ) where
  abbrev checks : List Numbered
  checks = take_in_checks c cid f.last_page memory list

  abbrev joins : After
  joins = joining (keeping c f us) (memory_with memory f us) list

  pub taken_in : All checks → take_in c cid f us memory list ≡ joins
  unfolding take_in
  taken_in h = all_hold (refusing c memory list) checks joins h

  stopped : (k : ℕ) → Stops k checks → take_in c cid f us memory list ≡ refusing c memory list (refusal_at k checks)
  unfolding take_in
  stopped k s = first_fails (refusing c memory list) k checks joins s

  pub another : (c.cid ≡ cid → ⊥) → take_in c cid f us memory list ≡ refusing c memory list (refusal 42 nowhere 0)
  another n = stopped 0 (same_fails c.cid cid n)

  not_44 : (k : ℕ) → Stops k checks → (refusal_at k checks).number ≡ 44 → ⊥
  not_44 zero s e = omega arith
  not_44 (suc zero) s e = omega arith
  not_44 (suc (suc k)) s e = s.1.1

  -- Any other refusal than 44 comes before the page is taken in.
  page_unmoved : (r : Refusal) → answer_in (take_in c cid f us memory list) ≡ refused r → (r.number ≡ 44 → ⊥) →
      take_in c cid f us memory list ≡ refusing c memory list r
  page_unmoved r e n = ⊎_elim
      (λ (h : All checks).
      let g : answer_in joins ≡ refused r = sym (ap answer_in (taken_in h)) ∙ e in
      let j = join_refused list (join_all (pages_by (keeping c f us) (memory_with memory f us))) r g in
      absurd (n (ap (λ (q : Refusal). q.number) j.0)))
      (λ (s : (k : ℕ) × Stops k checks).
      let is = stopped s.0 s.1 in
      let g : refused (refusal_at s.0 checks) ≡ refused r = sym (ap answer_in is) ∙ e in
      let q : refusal_at s.0 checks ≡ r = cc in
      is ∙ ap (refusing c memory list) q)
      (decides checks)

  page_refused : (r : Refusal) → answer_in (take_in c cid f us memory list) ≡ refused r → Holds (collector_allowed r)
  page_refused r e = ⊎_elim
      (λ (h : All checks).
      let g : answer_in joins ≡ refused r = sym (ap answer_in (taken_in h)) ∙ e in
      is_allowed (refusal 44 nowhere 0) r (fact (collector_allowed (refusal 44 nowhere 0)))
      (sym (join_refused list (join_all (pages_by (keeping c f us) (memory_with memory f us))) r g).0))
      (λ (s : (k : ℕ) × Stops k checks).
      let g : refused (refusal_at s.0 checks) ≡ refused r = sym (ap answer_in (stopped s.0 s.1)) ∙ e in
      let q : refusal_at s.0 checks ≡ r = cc in
      by s.0 s.1 q)
      (decides checks)
    where
      by : (k : ℕ) → Stops k checks → refusal_at k checks ≡ r → Holds (collector_allowed r)
      by zero s q = is_allowed (refusal 42 nowhere 0) r (fact (collector_allowed (refusal 42 nowhere 0))) q
      by (suc zero) s q = is_allowed (refusal 43 nowhere 0) r (fact (collector_allowed (refusal 43 nowhere 0))) q
      by (suc (suc k)) s q = absurd s.1.1

-- A datagram that is read as a page does what the page does.
pub page_taken : (d cid : List ℕ) (f : DiscoveryFields) (name us : List ℕ) → meaning d ≡ discovery_content cid f name us →
    (c : Collector) (memory list : List ℕ) → collect_of c d memory list ≡ take_in c cid f us memory list
unfolding collect_of reading_of
page_taken d cid f name us e c memory list =
    let m = discovery_meant d cid f name us e in
    rw (m.1, m.2, m.3, m.5)

-- One that is no page of the collector's CID is refused, and moves nothing.
pub others_refused : (d cid : List ℕ) → NoPage cid d → (c : Collector) (memory list : List ℕ) → c.cid ≡ cid →
    (r : Refusal) × (collect_of c d memory list ≡ refusing c memory list r)
unfolding collect_of reading_of
others_refused d cid none c memory list own = by (packet_of d) none
  where
    by : (x : Packet) → ((f : DiscoveryFields) (name us : List ℕ) → content_of d (with_cid d x) ≡ discovery_content cid f name us → ⊥) →
        (r : Refusal) × (collect_by c d (with_cid d x).cid memory list (with_cid d x).packet ≡ refusing c memory list r)
    by (packet.Data x) none = (refusal 31 nowhere 0, refl)
    by (packet.Synchronization x) none = (refusal 31 nowhere 0, refl)
    by (packet.Discovery x) none = (
      refusal 42 nowhere 0,
      another c (cid_of d) x.fields (listed_at d x.universes) memory list
          (λ e. let same : cid_of d ≡ cid = sym e ∙ own in none x.fields (shown_at d x.name) (listed_at d x.universes) (rw same)),
    )
    by (packet.Refused r) none = (r, refl)

-- 31, 42, 43 and a refusal of reading's own move nothing: collector, memory and list are as found.
pub refused_moves_nothing : (h : Held) (d : List ℕ) (r : Refusal) → answer_in (fed h d) ≡ refused r → (r.number ≡ 44 → ⊥) →
    fed h d ≡ refusing h.collector h.memory h.list r
unfolding collect_of reading_of
refused_moves_nothing h d r e n = by (packet_of d) e
  where
    by : (x : Packet) →
        let moved = collect_by h.collector d (with_cid d x).cid h.memory h.list (with_cid d x).packet in
        answer_in moved ≡ refused r → moved ≡ refusing h.collector h.memory h.list r
    by (packet.Data x) e = let q : refusal 31 nowhere 0 ≡ r = cc in rw q
    by (packet.Synchronization x) e = let q : refusal 31 nowhere 0 ≡ r = cc in rw q
    by (packet.Discovery x) e =
        page_unmoved h.collector (cid_of d) x.fields (listed_at d x.universes) h.memory h.list r e n
    by (packet.Refused q) e = let s : q ≡ r = cc in rw s

-- No other refusal is told than reading's own and the collector's.
pub only_these : (h : Held) (d : List ℕ) (r : Refusal) → answer_in (fed h d) ≡ refused r → (packet_of d ≡ packet.Refused r) ⊎ Holds (collector_allowed r)
unfolding collect_of reading_of
only_these h d r e = by (packet_of d) e
  where
    by : (x : Packet) → answer_in (collect_by h.collector d (with_cid d x).cid h.memory h.list (with_cid d x).packet) ≡ refused r →
        (x ≡ packet.Refused r) ⊎ Holds (collector_allowed r)
    by (packet.Data x) e =
        let q : refusal 31 nowhere 0 ≡ r = cc in
        inr (is_allowed (refusal 31 nowhere 0) r (fact (collector_allowed (refusal 31 nowhere 0))) q)
    by (packet.Synchronization x) e =
        let q : refusal 31 nowhere 0 ≡ r = cc in
        inr (is_allowed (refusal 31 nowhere 0) r (fact (collector_allowed (refusal 31 nowhere 0))) q)
    by (packet.Discovery x) e = inr (page_refused h.collector (cid_of d) x.fields (listed_at d x.universes) h.memory h.list r e)
    by (packet.Refused q) e = inl (let s : q ≡ r = cc in ap packet.Refused s)

-- What is no page of a CID: what is read as no discovery packet, and what has another CID.
pub no_page : (d cid : List ℕ) → ((x : DiscoveryRecord) → packet_of d ≡ packet.Discovery x → cid_of d ≡ cid → ⊥) → NoPage cid d
no_page d cid none f name us e =
    let m = discovery_meant d cid f name us e in
    none m.0 m.1 m.2

-- Pages that start afresh with one of them: the others are missing, or it is the only one; so the answer is no refusal.
afresh_unrefused : (last k : ℕ) (us : List ℕ) (r : Refusal) → k ≤ last → Holds (rising us) →
    answer_to (join_all (set (replicate (suc last) missing) k (kept us))) ≡ refused r → ⊥
unfolding join_all
afresh_unrefused zero zero us r h up e =
    let only : us ++ [] ≡ us = append-nil us in
    let told : answer_to (kept us) ≡ refused r = rw only at e in
    let f : list_of (length us) ≡ refused r = sym (risen us up) ∙ told in
    let z : ◌≡◌ {A = ℕ} 0 1 = cc in omega arith
afresh_unrefused zero (suc k) us r h up e = omega arith
afresh_unrefused (suc last) zero us r h up e = let z : ◌≡◌ {A = ℕ} 0 1 = cc in omega arith
afresh_unrefused (suc last) (suc k) us r h up e = let z : ◌≡◌ {A = ℕ} 0 1 = cc in omega arith

-- Of a datagram that is read as a page:
module _ (h : Held) (d cid : List ℕ) (f : DiscoveryFields) (name us : List ℕ) (means : meaning d ≡ discovery_content cid f name us) where
  does : fed h d ≡ take_in h.collector cid f us h.memory h.list
  does = page_taken d cid f name us means h.collector h.memory h.list

  -- what the reader says of its numbers
  pub numbers : (f.page ≤ f.last_page) × (length us ≤ 512) × Holds (rising us)
  numbers =
      let m = discovery_meant d cid f name us means in
      let in_datagram : SpansIn d (packet.Discovery m.0) = subst (SpansIn d) (read d ∙ m.1) (spans d) in
      let list = in_datagram.3 in
      let limits = page_within d m.0 m.1 in
      let paged : f.page ≤ f.last_page = rw m.3 at limits.0 in
      let up : Holds (rising us) = ascends→rising us (subst (λ (l : List ℕ). All (pairs ascends l)) m.5 list.ascending) in
      (paged, omega (arith, limits.1, ap length m.5, list.as_told), up)

  last_of : Bytes d → f.last_page ≤ 255
  last_of bytes =
      let m = discovery_meant d cid f name us means in
      rw m.3 at (last_small d m.0 m.1 bytes)

  module _ (sized : Sized h.collector) (bytes : Bytes d) where
    abbrev c : Collector
    c = h.collector

    abbrev last : ℕ
    last = f.last_page

    -- the pages once it is taken in
    pages : 512 * (last + 1) ≤ length h.memory → pages_by (keeping c f us) (memory_with h.memory f us) ≡ feed (pages_held h) f.page last us
    pages room = pages_fed c sized f us h.memory numbers.0 (last_of bytes) numbers.1 room

    -- Whoever wrote the pages: one of the collector's CID, for which there is room, is fed to the pages that are held, and the list is what they are
    -- joined to.
    pub list_is_join : c.cid ≡ cid → 512 * (last + 1) ≤ length h.memory → 512 * (last + 1) ≤ length h.list →
        let now-held = feed (pages_held h) f.page last us in
        (pages_held (left (fed h d)) ≡ now-held) × (answer_in (fed h d) ≡ answer_to (join_all now-held)) × ((fed h d).list ≡ list_with h.list (join_all now-held))
    list_is_join own room out =
        let is = does ∙ taken_in c cid f us h.memory h.list (same_holds c.cid cid own, ((room, out), tt)) in
        let now = pages room in (
          ap (λ (a : After). pages_held (left a)) is ∙ now,
          ap answer_in is ∙ ap (λ (ps : List Page). answer_to (join_all ps)) now,
          ap (λ (a : After). a.list) is ∙ ap (λ (ps : List Page). list_with h.list (join_all ps)) now,
        )

    -- where the last page's number changes, all start afresh
    afresh : (c.last_page ≡ last → ⊥) → feed (pages_held h) f.page last us ≡ set (replicate (suc last) missing) f.page (kept us)
    unfolding feed
    afresh n =
        let other : length (pages_held h) ≡ last + 1 → ⊥ = λ e. n (omega (arith, e, pages_held_lem c sized h.memory)) in
        ap (λ (ps : List Page). set ps f.page (kept us))
        (sym (passed_over (length (pages_held h) =? last + 1) (pages_held h) (replicate (last + 1) missing) other refl) ∙ ap (λ (n : ℕ). replicate n missing) (add-one last))

    -- 44 is told only where the last page's number is the collector's
    same_last : 512 * (last + 1) ≤ length h.memory → (r : Refusal) →
        answer_to (join_all (pages_by (keeping c f us) (memory_with h.memory f us))) ≡ refused r → c.last_page ≡ last
    same_last room r e =
        decide (c.last_page =? last) (λ y. y)
        (λ n. absurd (afresh_unrefused last f.page us r numbers.0 numbers.2
        (sym (ap (λ (ps : List Page). answer_to (join_all ps)) (pages room ∙ afresh n)) ∙ e)))

    -- 44 moves the page alone: of the collector its count, of the memory its place; the other pages and the list stay as found.
    pub refused_44_keeps : (r : Refusal) → answer_in (fed h d) ≡ refused r → r.number ≡ 44 →
        fed h d ≡ after (memory_with h.memory f us) h.list
        (collected_of (collector_of c.cid c.last_page (set c.counts f.page (Some (length us)))) (refused r))
    unfolding counts_for
    refused_44_keeps r e n = let checks = take_in_checks c cid last h.memory h.list in ⊎_elim
        (λ (a : All checks).
        let is = does ∙ taken_in c cid f us h.memory h.list a in
        let all = join_all (pages_by (keeping c f us) (memory_with h.memory f us)) in
        let told : answer_to all ≡ refused r = sym (ap answer_in is) ∙ e in
        let same = same_last a.1.0.0 r told in
        let counts = sym (chosen (c.last_page =? last) c.counts no_counts same refl) in
        is ∙ rw (told, (join_refused h.list all r told).1, counts) (rw same refl))
        (λ (s : (k : ℕ) × Stops k checks).
        let is = does ∙ stopped c cid f us h.memory h.list s.0 s.1 in
        let g : refused (refusal_at s.0 checks) ≡ refused r = sym (ap answer_in is) ∙ e in
        let q : refusal_at s.0 checks ≡ r = cc in
        absurd (not_44 c cid f us h.memory h.list s.0 s.1 (ap (λ (x : Refusal). x.number) q ∙ n)))
        (decides checks)

-- The lent list keeps its length.
pub list_length : (l : List ℕ) (p : Page) → length (list_with l p) ≡ length l
list_length l missing = refl
list_length l (kept vs) =
    decide (rising vs) (λ h. ap length (risen_list vs l h) ∙ length-sets l 0 vs) (λ n. ap length (fallen_list vs l n))

-- A page leaves a collector as ready as it was, whatever CID it has and whatever its last page.
ready_page : (h : Held) (from : List ℕ) (f : DiscoveryFields) (us cid : List ℕ) (last : ℕ) → Ready cid last h → f.last_page ≤ 255 →
    Ready cid last (left (take_in h.collector from f us h.memory h.list))
ready_page h from f us cid last r small = let checks = take_in_checks h.collector from f.last_page h.memory h.list in ⊎_elim
    (λ (a : All checks). rw (taken_in h.collector from f us h.memory h.list a) (record {
      named = r.named;
      sized = record { counted = simp length-set (counts_length h.collector r.sized f.last_page); small = small };
      memory_room = simp length-sets r.memory_room;
      list_room = simp list_length r.list_room;
    }))
    (λ (s : (k : ℕ) × Stops k checks).
    rw (stopped h.collector from f us h.memory h.list s.0 s.1) (record { named = r.named; sized = r.sized; memory_room = r.memory_room; list_room = r.list_room }))
    (decides checks)

-- Any datagram of bytes does so.
pub ready_by_any : (h : Held) (d cid : List ℕ) (last : ℕ) → Ready cid last h → Bytes d → Ready cid last (left (fed h d))
unfolding collect_of reading_of
ready_by_any h d cid last r bytes = by (packet_of d) refl
  where
    by : (x : Packet) → packet_of d ≡ x → Ready cid last (left (collect_by h.collector d (with_cid d x).cid h.memory h.list (with_cid d x).packet))
    by (packet.Data x) e = record { named = r.named; sized = r.sized; memory_room = r.memory_room; list_room = r.list_room }
    by (packet.Synchronization x) e = record { named = r.named; sized = r.sized; memory_room = r.memory_room; list_room = r.list_room }
    by (packet.Discovery x) e =
        ready_page h (cid_of d) x.fields (listed_at d x.universes) cid last r (last_small d x e bytes)
    by (packet.Refused q) e = record { named = r.named; sized = r.sized; memory_room = r.memory_room; list_room = r.list_room }
