-- Pages that are written are read as the pages of the list, and together they are the list. Assumes nothing.
use Rattle.std.proofs.Common.{◌≡◌, ℕ, ◌+◌, ◌*◌, ◌≤◌, List, length, drop, Ok, Err, sym, ap, ◌∙◌, subst, arith}
use Rattle.wire.specs.Bytes.{Words}
use Rattle.wire.specs.Fields.{join}
use Rattle.wire.proofs.Bytes.{words_drop, words_take}
use Rattle.refusal.proofs.Tests.{Holds}
use Rattle.refusal.proofs.Laws.{all_hold, all_++}
use Rattle.discovery.specs.Universes.{order_checks}
use Rattle.packet.specs.declared.Packet.{Packet}
use Rattle.parts.specs.Parts.{listed_at, universes_span, universes_in}
use Rattle.pack.specs.Writing.{Packed, packed_of, after_pack}
use Rattle.demands.specs.Limits.{Rising, ReadableName, ReadableDiscovery}
use Rattle.demands.proofs.Limits.{ascending_plainly}
use Rattle.demands.proofs.Discovery.{return_discovery}
use Rattle.demands.proofs.Meaning.{discovery_meant}
use Rattle.universe_pages.proofs.Rising.{rising, order→rising, rising→order}
use Rattle.universe_pages.specs.Pages.{last_page_of, page_of, firsts}
use Rattle.universe_pages.specs.Writing.{page_fields, numbered_checks, page_write_checks, page_bytes, page_length}
use Rattle.universe_pages.proofs.Pages.{firsts_alike, join_pages, page_short, page_rising}
use Rattle.whole_lists.specs.Captures.{IsPage, written}

module _ (cid name us : List ℕ) (sixteen : length cid ≡ 16) (named : ReadableName name) (ascending : Rising us) (words : Words us) where
  up : Holds (rising us)
  up = order→rising us ((ascending_plainly us).1 ascending)

  readable : (k : ℕ) → k ≤ last_page_of us → ReadableDiscovery cid (page_fields us k) name (page_of us k)
  readable k b = record {
    cid_16 = sixteen;
    named = named;
    paged = b;
    few = page_short us k;
    words = words_take 512 (drop (512 * k) us) (words_drop (512 * k) us words);
    ascending = rising→order (page_of us k) (page_rising us k up);
  }

  -- Each page of a list within the limits is written where the buffer holds it, and the buffer as it is then is read as that page, whatever stands
  -- behind it.
  pub page_returned : (k : ℕ) (buf : List ℕ) → k ≤ last_page_of us → page_length us k ≤ length buf →
      (packed_of (page_write_checks (length buf) name us k) (page_length us k) ≡ Ok (page_length us k)) × IsPage cid us k (written cid name us k buf)
  unfolding packed_of
  page_returned k buf b room =
      let told =
      all_hold Err (page_write_checks (length buf) name us k) (Ok (page_length us k))
      (all_++ (order_checks us) (numbered_checks (length buf) name us k) (rising→order us up) (b, (room, named))) in (
        told,
        subst (λ (p : Packed). IsPage cid us k (after_pack p (page_bytes cid name us k) buf)) (sym told)
            (name, (return_discovery cid (page_fields us k) name (page_of us k) buf (readable k b) room).1),
      )

  -- the universes that are read in it
  page_read : (k : ℕ) (buf : List ℕ) → k ≤ last_page_of us → page_length us k ≤ length buf → universes_in (written cid name us k buf) ≡ page_of us k
  page_read k buf b room =
      let is = (page_returned k buf b room).1 in
      let m = discovery_meant (written cid name us k buf) cid (page_fields us k) is.0 (page_of us k) is.1 in
      ap (λ (x : Packet). listed_at (written cid name us k buf) (universes_span x)) m.1 ∙ m.5

  -- All pages, each written into a buffer of its own and read again: joined they are the list.
  pub pages_returned : (bufs : ℕ → List ℕ) → ((k : ℕ) → k ≤ last_page_of us → page_length us k ≤ length (bufs k)) →
      join (firsts (last_page_of us + 1) (λ k. universes_in (written cid name us k (bufs k)))) ≡ us
  pages_returned bufs room =
      ap join (firsts_alike (last_page_of us + 1) (λ k. universes_in (written cid name us k (bufs k))) (page_of us)
      (λ k b. page_read k (bufs k) (omega (arith, b)) (room k (omega (arith, b)))))
      ∙ join_pages us
