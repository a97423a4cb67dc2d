-- Document 01's readable limits: which records can be read again when they are written.
use Rattle.std.specs.Prelude.{ℕ, zero, suc, ◌+◌, ◌≤◌, ◌<◌, ◌≡◌, List, [], ◌∷◌, length, get_or, replicate}
use Rattle.wire.specs.Bytes.{Words}
use Rattle.wire.specs.Fields.{join}
use Rattle.refusal.proofs.Laws.{All}
use Rattle.name.specs.Name.{written_name_checks}
use Rattle.name.specs.CodePoint.{Encoded}
use Rattle.discovery.specs.Universes.{order_checks}
use Rattle.discovery.specs.declared.DiscoveryFields.{DiscoveryFields}
use Rattle.framing.specs.declared.DataFields.{DataFields}
use Rattle.extended.specs.declared.synchronization.SynchronizationFields.{SynchronizationFields}

-- a name of well-formed UTF-8, at most 63 bytes, no zero: the checks of a written name
abbrev pub ReadableName : List ℕ → Type 0
ReadableName name = All (written_name_checks name)

-- the same in plain words: the bytes of some code points, none of them zero, at most 63
pub record PlainName (name : List ℕ) : Type 0 where
  pub encoded : Encoded name
  pub nonzero : (i : ℕ) → i < length name → get_or name i 0 ≡ 0 → ⊥
  pub short : length name ≤ 63

-- universes of which each is above the one before
abbrev pub Rising : List ℕ → Type 0
Rising us = (i : ℕ) → i + 1 < length us → get_or us i 0 < get_or us (i + 1) 0

-- each follows from the other
abbrev pub Iff : Type 0 → Type 0 → Type 0
Iff A B = (A → B) × (B → A)

-- priority at most 200; sync address at most 63999; universe 1..63999; 1 to 513 values
pub record ReadableData (cid : List ℕ) (f : DataFields) (name values : List ℕ) : Type 0 where
  pub cid_16 : length cid ≡ 16
  pub named : ReadableName name
  pub priority : f.priority ≤ 200
  pub address : f.synchronization_address ≤ 63999
  pub universe_least : 1 ≤ f.universe
  pub universe_most : f.universe ≤ 63999
  pub some : 1 ≤ length values
  pub few : length values ≤ 513

-- address 1..63999
pub record ReadableSynchronization (cid : List ℕ) (f : SynchronizationFields) : Type 0 where
  pub cid_16 : length cid ≡ 16
  pub address_least : 1 ≤ f.synchronization_address
  pub address_most : f.synchronization_address ≤ 63999

-- page at most last page; at most 512 universes, strictly ascending
pub record ReadableDiscovery (cid : List ℕ) (f : DiscoveryFields) (name us : List ℕ) : Type 0 where
  pub cid_16 : length cid ≡ 16
  pub named : ReadableName name
  pub paged : f.page ≤ f.last_page
  pub few : length us ≤ 512
  pub words : Words us
  pub ascending : All (order_checks us)

-- At the limits: a name of 63 bytes, 21 times U+20AC; and n universes from u on.
abbrev pub long_name : List ℕ
long_name = join (replicate 21 (0xe2 ∷ 0x82 ∷ 0xac ∷ []))

unfoldable pub up_from : ℕ → ℕ → List ℕ
up_from u zero = []
up_from u (suc n) = u ∷ up_from (u + 1) n
