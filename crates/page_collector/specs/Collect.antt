-- What a datagram does to a collector, to its memory and to the lent list, and what it is answered. The order: reading's own refusals; 31; 42; 43; 44.
use Rattle.std.specs.Prelude.{ℕ, ◌+◌, ◌*◌, List, [], ◌∷◌, length, take, set, replicate, Option, Some, None, Result, Ok, Err}
use Rattle.std.proofs.lemmas.List.Edits.{sets}
use Rattle.refusal.specs.declared.Refusal.{Refusal}
use Rattle.refusal.specs.Check.{Test, Numbered, numbered, refusal, nowhere, ◌≤?◌, ◌=?◌, ◌and◌, choose, reading}
use Rattle.cid.specs.Same.{same_cid}
use Rattle.discovery.specs.Universes.{pairs}
use Rattle.discovery.specs.declared.DiscoveryFields.{DiscoveryFields}
use Rattle.packet.specs.Packet.{reading_of}
use Rattle.packet.specs.declared.Packet.{Packet}
use Rattle.packet.specs.declared.Packet.TheVariants as packet
use Rattle.parts.specs.Parts.{listed_at}
use Rattle.page_collector.specs.Pages.{Page, missing, kept, join_all}
use Rattle.page_collector.specs.Memory.{pages_in}
use Rattle.page_collector.specs.declared.Collector.{Collector}

-- an answer: the list is there, and how many it has; a page is missing; a refusal
abbrev pub Answer : Type 0
Answer = Result (Option ℕ) Refusal

abbrev pub list_of : ℕ → Answer
list_of n = Ok (Some n)

abbrev pub page_missing : Answer
page_missing = Ok None

abbrev pub refused : Refusal → Answer
refused r = Err r

-- what a datagram gives back: the answer, and the next collector
pub record Collected : Type 0 where
  pub collector : Collector
  pub answer : Answer

-- what is lent, as it is afterwards, and what is given back
pub record After : Type 0 where
  pub memory : List ℕ
  pub list : List ℕ
  pub collected : Collected

abbrev pub after : List ℕ → List ℕ → Collected → After
after memory list r = record { memory = memory; list = list; collected = r }

abbrev pub collected_of : Collector → Answer → Collected
collected_of c a = record { collector = c; answer = a }

abbrev pub collector_of : List ℕ → ℕ → List (Option ℕ) → Collector
collector_of cid last counts = record { cid = cid; last_page = last; counts = counts }

-- a fresh collector: no page is there
unfoldable pub no_counts : List (Option ℕ)
no_counts = replicate 256 None

abbrev pub fresh : List ℕ → Collector
fresh cid = collector_of cid 0 no_counts

-- the pages that a collector has in its memory, up to the last
abbrev pub pages_by : Collector → List ℕ → List Page
pages_by c memory = pages_in (take (c.last_page + 1) c.counts) memory

-- 42: a page of another CID; 43: memory or list below 512 numbers for each page up to the last
abbrev pub room_for : ℕ → List ℕ → Test
room_for last numbers = 512 * (last + 1) ≤? length numbers

abbrev pub take_in_checks : Collector → List ℕ → ℕ → List ℕ → List ℕ → List Numbered
take_in_checks c cid last memory list =
    numbered (same_cid c.cid cid) (refusal 42 nowhere 0)
    ∷ numbered (room_for last memory and room_for last list) (refusal 43 nowhere 0)
    ∷ []

-- a page is kept: all start afresh where the last page's number has changed
unfoldable pub counts_for : Collector → ℕ → List (Option ℕ)
counts_for c last = choose (c.last_page =? last) c.counts no_counts

abbrev pub keeping : Collector → DiscoveryFields → List ℕ → Collector
keeping c f us = collector_of c.cid f.last_page (set (counts_for c f.last_page) f.page (Some (length us)))

abbrev pub memory_with : List ℕ → DiscoveryFields → List ℕ → List ℕ
memory_with memory f us = sets memory (512 * f.page) us

-- 44: two neighbours of the joined pages of which the second is not above the first
abbrev pub climbs : ℕ → ℕ → List Numbered
climbs u v = numbered (u + 1 ≤? v) (refusal 44 nowhere 0) ∷ []

-- all pages are there: the list and how many it has, or 44
abbrev pub answer_to : Page → Answer
answer_to missing = page_missing
answer_to (kept us) = reading refused (pairs climbs us) (list_of (length us))

-- the lent list afterwards: the list in front and the rest as found, or all as found
abbrev pub list_by : Answer → List ℕ → List ℕ → List ℕ
list_by (Ok (Some n)) us list = sets list 0 us
list_by (Ok None) us list = list
list_by (Err r) us list = list

abbrev pub list_with : List ℕ → Page → List ℕ
list_with list missing = list
list_with list (kept us) = list_by (answer_to (kept us)) us list

abbrev pub joining : Collector → List ℕ → List ℕ → After
joining c memory list =
    let all = join_all (pages_by c memory) in
    after memory (list_with list all) (collected_of c (answer_to all))

-- nothing is moved
abbrev pub refusing : Collector → List ℕ → List ℕ → Refusal → After
refusing c memory list r = after memory list (collected_of c (refused r))

unfoldable pub take_in : Collector → List ℕ → DiscoveryFields → List ℕ → List ℕ → List ℕ → After
take_in c cid f us memory list =
    reading (refusing c memory list) (take_in_checks c cid f.last_page memory list)
    (joining (keeping c f us) (memory_with memory f us) list)

-- by what a datagram is read as: a refusal of reading's own comes first; 31: another kind of packet
abbrev pub collect_by : Collector → List ℕ → List ℕ → List ℕ → List ℕ → Packet → After
collect_by c d cid memory list (packet.Data x) = refusing c memory list (refusal 31 nowhere 0)
collect_by c d cid memory list (packet.Synchronization x) = refusing c memory list (refusal 31 nowhere 0)
collect_by c d cid memory list (packet.Discovery x) = take_in c cid x.fields (listed_at d x.universes) memory list
collect_by c d cid memory list (packet.Refused r) = refusing c memory list r

unfoldable pub collect_of : Collector → List ℕ → List ℕ → List ℕ → After
collect_of c d memory list = collect_by c d (reading_of d).cid memory list (reading_of d).packet
