-- Document 01's ignored places: name bytes after the first zero; the low five option bits; bytes 47..48 of sync; bytes 108..111 of discovery.
use Rattle.std.specs.Prelude.{ℕ, ◌+◌, ◌/◌, ◌≤◌, ◌<◌, ◌≡◌, List, length, get_or}

-- a place in lo..hi
abbrev pub Between : ℕ → ℕ → ℕ → Type 0
Between lo hi i = (lo ≤ i) × (i ≤ hi)

-- In each of the following d has the packet's bytes at each of its places that is not ignored; what follows the packet is free.

-- a name stands from byte 44; after n bytes comes its first zero
abbrev pub BehindName : ℕ → ℕ → Type 0
BehindName n i = Between (45 + n) 107 i

-- of the options, byte 112, the upper three bits count
pub record AlikeData (name packet d : List ℕ) : Type 0 where
  pub outside : (i : ℕ) → i < length packet → (BehindName (length name) i → ⊥) → (i ≡ 112 → ⊥) → get_or d i 0 ≡ get_or packet i 0
  pub options : get_or d 112 0 / 0x20 ≡ get_or packet 112 0 / 0x20
  pub long : length packet ≤ length d

pub record AlikeSynchronization (packet d : List ℕ) : Type 0 where
  pub outside : (i : ℕ) → i < length packet → (Between 47 48 i → ⊥) → get_or d i 0 ≡ get_or packet i 0
  pub long : length packet ≤ length d

pub record AlikeDiscovery (name packet d : List ℕ) : Type 0 where
  pub outside : (i : ℕ) → i < length packet → (BehindName (length name) i → ⊥) → (Between 108 111 i → ⊥) → get_or d i 0 ≡ get_or packet i 0
  pub long : length packet ≤ length d
