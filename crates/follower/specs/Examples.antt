-- Captures to run the rules on: data packets of one value, by the byte of their CID, universe, number and options.
use Rattle.std.specs.Prelude.{ℕ, List, [], ◌∷◌, Bool, true, false, replicate}
use Rattle.wire.specs.Fields.{join}
use Rattle.refusal.specs.Check.{refusal, preamble, nowhere}
use Rattle.follow_rules.specs.declared.Entry.{Entry}
use Rattle.follow_rules.specs.Table.{free_entry}
use Rattle.follow_rules.specs.declared.Answer.{Answer}
use Rattle.follow_rules.specs.declared.Answer.TheVariants.{Accepted, Discarded, Refused, NotData, Unreadable}

-- 125 bytes and one value, universes below 256
unfoldable pub packet : ℕ → ℕ → ℕ → ℕ → List ℕ
packet cid universe number options =
    join
    ((0x00 ∷ 0x10 ∷ 0x00 ∷ 0x00 ∷ 0x41 ∷ 0x53 ∷ 0x43 ∷ 0x2d ∷ 0x45 ∷ 0x31 ∷ 0x2e ∷ 0x31 ∷ 0x37 ∷ 0x00 ∷ 0x00 ∷ 0x00 ∷ [])
    ∷ (0x70 ∷ 0x6e ∷ 0x00 ∷ 0x00 ∷ 0x00 ∷ 0x04 ∷ [])
    ∷ replicate 16 cid
    ∷ (0x70 ∷ 0x58 ∷ 0x00 ∷ 0x00 ∷ 0x00 ∷ 0x02 ∷ [])
    ∷ replicate 64 0
    ∷ (100 ∷ 0 ∷ 0 ∷ number ∷ options ∷ 0 ∷ universe ∷ [])
    ∷ (0x70 ∷ 0x0b ∷ 0x02 ∷ 0xa1 ∷ 0x00 ∷ 0x00 ∷ 0x00 ∷ 0x01 ∷ 0x00 ∷ 0x01 ∷ 0x00 ∷ [])
    ∷ [])

abbrev pub plain : ℕ
plain = 0

abbrev pub terminated : ℕ
terminated = 0x40

abbrev pub preview : ℕ
preview = 0x80

-- a synchronization packet
unfoldable pub synchronization : List ℕ
synchronization =
    join
    ((0x00 ∷ 0x10 ∷ 0x00 ∷ 0x00 ∷ 0x41 ∷ 0x53 ∷ 0x43 ∷ 0x2d ∷ 0x45 ∷ 0x31 ∷ 0x2e ∷ 0x31 ∷ 0x37 ∷ 0x00 ∷ 0x00 ∷ 0x00 ∷ [])
    ∷ (0x70 ∷ 0x21 ∷ 0x00 ∷ 0x00 ∷ 0x00 ∷ 0x08 ∷ [])
    ∷ replicate 16 0x11
    ∷ (0x70 ∷ 0x0b ∷ 0x00 ∷ 0x00 ∷ 0x00 ∷ 0x01 ∷ 0x07 ∷ 0x1f ∷ 0x40 ∷ 0x00 ∷ 0x00 ∷ [])
    ∷ [])

-- a datagram, and its answer where all before it were followed in a cleared table of two entries
pub record Step : Type 0 where
  pub datagram : List ℕ
  pub answer : Answer

abbrev step : List ℕ → Answer → Step
step d a = record { datagram = d; answer = a }

-- one source that is behind by 0, 19 and 20, over the wrap; the same CID on another universe; no room for a third source; the first ends, and there
-- is room; a late packet that would end its source does not; a source whose first packet ends it takes no room; a preview is followed
unfoldable pub steps : List Step
steps =
    step (packet 0xaa 1 100 plain) Accepted
    ∷ step (packet 0xaa 1 100 plain) Discarded
    ∷ step (packet 0xaa 1 81 plain) Discarded
    ∷ step (packet 0xaa 1 80 plain) Accepted
    ∷ step (packet 0xaa 1 255 plain) Accepted
    ∷ step (packet 0xaa 1 0 plain) Accepted
    ∷ step (packet 0xaa 1 255 plain) Discarded
    ∷ step (packet 0xaa 2 255 plain) Accepted
    ∷ step (packet 0xbb 1 7 plain) (Refused (refusal 41 nowhere 0))
    ∷ step synchronization NotData
    ∷ step [] (Unreadable (refusal 1 preamble 0))
    ∷ step (packet 0xaa 1 250 terminated) Discarded
    ∷ step (packet 0xbb 1 7 plain) (Refused (refusal 41 nowhere 0))
    ∷ step (packet 0xaa 1 1 terminated) Accepted
    ∷ step (packet 0xcc 9 9 terminated) Accepted
    ∷ step (packet 0xbb 1 7 plain) Accepted
    ∷ step (packet 0xaa 1 2 plain) (Refused (refusal 41 nowhere 0))
    ∷ step (packet 0xaa 2 250 plain) Discarded
    ∷ step (packet 0xaa 2 0 preview) Accepted
    ∷ []

-- an entry by the byte of its CID, its universe, its last number and its mark
abbrev pub entry : ℕ → ℕ → ℕ → Bool → Entry
entry cid universe number used = record { cid = replicate 16 cid; universe = universe; last = number; used = used }

-- a foreign table: a free entry that holds a source, two used ones of that source, and another free one
abbrev pub foreign : List Entry
foreign = entry 0xaa 1 10 false ∷ entry 0xaa 1 50 true ∷ entry 0xaa 1 90 true ∷ free_entry ∷ []

-- a datagram, and what it leaves of that table
pub record Left : Type 0 where
  pub datagram : List ℕ
  pub table : List Entry

abbrev left : List ℕ → List Entry → Left
left d t = record { datagram = d; table = t }

-- late by the first used entry, though not by the second; accepted by it; ended in it; a new source in the first free entry; one that ends at once
unfoldable pub lefts : List Left
lefts =
    left (packet 0xaa 1 45 plain) foreign
    ∷ left (packet 0xaa 1 51 plain) (entry 0xaa 1 10 false ∷ entry 0xaa 1 51 true ∷ entry 0xaa 1 90 true ∷ free_entry ∷ [])
    ∷ left (packet 0xaa 1 51 terminated) (entry 0xaa 1 10 false ∷ free_entry ∷ entry 0xaa 1 90 true ∷ free_entry ∷ [])
    ∷ left (packet 0xbb 2 7 plain) (entry 0xbb 2 7 true ∷ entry 0xaa 1 50 true ∷ entry 0xaa 1 90 true ∷ free_entry ∷ [])
    ∷ left (packet 0xbb 2 7 terminated) (free_entry ∷ entry 0xaa 1 50 true ∷ entry 0xaa 1 90 true ∷ free_entry ∷ [])
    ∷ []
