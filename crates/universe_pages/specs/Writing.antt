-- One page of a whole list, written: its bytes, and what refuses it. The order: 25 or 26 at the first bad pair of the whole list; 47; 20, 21, 22, 23.
use Rattle.std.specs.Prelude.{ℕ, List, ◌∷◌, ◌++◌}
use Rattle.refusal.specs.Check.{Numbered, numbered, refusal, nowhere, ◌≤?◌}
use Rattle.name.specs.Name.{written_name_checks}
use Rattle.discovery.specs.Universes.{order_checks}
use Rattle.discovery.specs.declared.DiscoveryFields.{DiscoveryFields}
use Rattle.pack.specs.Writing.{room_check, discovery_bytes, discovery_length}
use Rattle.universe_pages.specs.Pages.{last_page_of, page_of}

-- 47: a page past the last
abbrev pub number_check : List ℕ → ℕ → Numbered
number_check us k = numbered (k ≤? last_page_of us) (refusal 47 nowhere 0)

-- 20, 21, 22, 23: as of a discovery packet with that page
abbrev pub room_and_name_checks : ℕ → List ℕ → List ℕ → List Numbered
room_and_name_checks room name page = room_check (discovery_length page) room ∷ written_name_checks name

-- a list that ascends: 47, then those
abbrev pub numbered_checks : ℕ → List ℕ → List ℕ → ℕ → List Numbered
numbered_checks room name us k = number_check us k ∷ room_and_name_checks room name (page_of us k)

-- any list: its order first
abbrev pub page_write_checks : ℕ → List ℕ → List ℕ → ℕ → List Numbered
page_write_checks room name us k = order_checks us ++ numbered_checks room name us k

-- the bytes are those of a discovery packet with that page, and so is their number
abbrev pub page_fields : List ℕ → ℕ → DiscoveryFields
page_fields us k = record { page = k; last_page = last_page_of us }

abbrev pub page_bytes : List ℕ → List ℕ → List ℕ → ℕ → List ℕ
page_bytes cid name us k = discovery_bytes cid (page_fields us k) name (page_of us k)

abbrev pub page_length : List ℕ → ℕ → ℕ
page_length us k = discovery_length (page_of us k)
