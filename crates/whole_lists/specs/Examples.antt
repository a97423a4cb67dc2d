-- Pages of foreign writers to run the definitions on: by the byte of their CID, their page and last page, and their universes; and what else is fed
-- between.
use Rattle.std.specs.Prelude.{ℕ, List, [], ◌∷◌, replicate}
use Rattle.refusal.specs.Check.{refusal, preamble, nowhere}
use Rattle.pack.specs.Writing.{discovery_bytes, synchronization_bytes}
use Rattle.page_collector.specs.Collect.{Answer, list_of, page_missing, refused, fresh}
use Rattle.whole_lists.specs.Captures.{Held, held}

abbrev pub page : ℕ → ℕ → ℕ → List ℕ → List ℕ
page cid k last us = discovery_bytes (replicate 16 cid) (record { page = k; last_page = last }) [] us

-- a datagram, and its answer where all before it were fed
pub record Step : Type 0 where
  pub datagram : List ℕ
  pub answer : Answer

abbrev step : List ℕ → Answer → Step
step d a = record { datagram = d; answer = a }

-- short and empty pages, not in their order; one that is replaced; a last page that changes, and changes back; what is refused and moves nothing; pages
-- that overlap, until one is replaced
unfoldable pub steps : List Step
steps =
    step (page 7 2 2 (5 ∷ 9 ∷ [])) page_missing
    ∷ step (page 7 0 2 (1 ∷ 2 ∷ [])) page_missing
    ∷ step (page 7 1 2 []) (list_of 4)
    ∷ step (page 7 1 2 (3 ∷ [])) (list_of 5)
    ∷ step (page 7 0 0 (0 ∷ 65535 ∷ [])) (list_of 2)
    ∷ step (page 7 1 2 (3 ∷ [])) page_missing
    ∷ step (page 7 0 1 (1 ∷ 5 ∷ [])) page_missing
    ∷ step (page 8 1 1 (6 ∷ [])) (refused (refusal 42 nowhere 0))
    ∷ step (page 8 1 9 (6 ∷ [])) (refused (refusal 42 nowhere 0))
    ∷ step (page 7 1 3 (6 ∷ [])) (refused (refusal 43 nowhere 0))
    ∷ step (synchronization_bytes (replicate 16 7) (record { sequence_number = 0; synchronization_address = 1 })) (refused (refusal 31 nowhere 0))
    ∷ step [] (refused (refusal 1 preamble 0))
    ∷ step (page 7 1 1 (5 ∷ 9 ∷ [])) (refused (refusal 44 nowhere 0))
    ∷ step (page 7 1 1 (6 ∷ 9 ∷ [])) (list_of 4)
    ∷ []

-- a fresh collector with room for three pages
abbrev pub begun : Held
begun = held (fresh (replicate 16 7)) (replicate 1536 0) (replicate 1536 0)
