-- A collector that is fed with a capture, and which datagrams are pages of a list.
use Rattle.std.specs.Prelude.{ℕ, ◌+◌, ◌*◌, ◌≤◌, ◌≡◌, List, [], ◌∷◌, ◌⊎◌, length}
use Rattle.pack.specs.Writing.{packed_of, after_pack}
use Rattle.discovery.specs.declared.DiscoveryFields.{DiscoveryFields}
use Rattle.demands.specs.Content.{discovery_content, meaning}
use Rattle.universe_pages.specs.Pages.{last_page_of, page_of}
use Rattle.universe_pages.specs.Writing.{page_write_checks, page_bytes, page_length}
use Rattle.page_collector.specs.declared.Collector.{Collector}
use Rattle.page_collector.specs.Pages.{Page}
use Rattle.page_collector.specs.Collect.{Answer, After, pages_by, collect_of}

-- a collector and what is lent to it, between two datagrams
pub record Held : Type 0 where
  pub collector : Collector
  pub memory : List ℕ
  pub list : List ℕ

abbrev pub held : Collector → List ℕ → List ℕ → Held
held c memory list = record { collector = c; memory = memory; list = list }

-- the pages that it has
abbrev pub pages_held : Held → List Page
pages_held h = pages_by h.collector h.memory

-- what a datagram does; what is held after it and after a capture, and the answers in turn
abbrev pub fed : Held → List ℕ → After
fed h d = collect_of h.collector d h.memory h.list

abbrev pub left : After → Held
left a = held a.collected.collector a.memory a.list

unfoldable pub held_after_all : Held → List (List ℕ) → Held
held_after_all h [] = h
held_after_all h (d ∷ ds) = held_after_all (left (fed h d)) ds

unfoldable pub answers_of : Held → List (List ℕ) → List Answer
answers_of h [] = []
answers_of h (d ∷ ds) = (fed h d).collected.answer ∷ answers_of (left (fed h d)) ds

-- each of some things, and one of them
abbrev pub Each : {A : Type 0} → (A → Type 0) → List A → Type 0
Each P [] = Unit {0}
Each P (x ∷ xs) = P x × Each P xs

abbrev pub Among : {A : Type 0} → (A → Type 0) → List A → Type 0
Among P [] = ⊥
Among P (x ∷ xs) = P x ⊎ Among P xs

-- a datagram that is read as page k of pages 0 to last, whatever its name; as no discovery page of that CID; as one or the other
abbrev pub PageOf : List ℕ → ℕ → (ℕ → List ℕ) → ℕ → List ℕ → Type 0
PageOf cid last pages k d = (name : List ℕ) × (meaning d ≡ discovery_content cid (record { page = k; last_page = last }) name (pages k))

abbrev pub NoPage : List ℕ → List ℕ → Type 0
NoPage cid d = (f : DiscoveryFields) (name us : List ℕ) → meaning d ≡ discovery_content cid f name us → ⊥

abbrev pub OfPages : List ℕ → ℕ → (ℕ → List ℕ) → List ℕ → Type 0
OfPages cid last pages d = ((k : ℕ) × (k ≤ last) × PageOf cid last pages k d) ⊎ NoPage cid d

-- a page of a whole list; the buffer once page k of it was asked for
abbrev pub IsPage : List ℕ → List ℕ → ℕ → List ℕ → Type 0
IsPage cid us = PageOf cid (last_page_of us) (page_of us)

abbrev pub written : List ℕ → List ℕ → List ℕ → ℕ → List ℕ → List ℕ
written cid name us k buf =
    after_pack (packed_of (page_write_checks (length buf) name us k) (page_length us k)) (page_bytes cid name us k) buf

-- what every collector is, by its type
pub record Sized (c : Collector) : Type 0 where
  pub counted : length c.counts ≡ 256
  pub small : c.last_page ≤ 255

-- a collector of that CID, whatever it holds, with room for pages 0 to last
pub record Ready (cid : List ℕ) (last : ℕ) (h : Held) : Type 0 where
  pub named : h.collector.cid ≡ cid
  pub sized : Sized h.collector
  pub memory_room : 512 * (last + 1) ≤ length h.memory
  pub list_room : 512 * (last + 1) ≤ length h.list
