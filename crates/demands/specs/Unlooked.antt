-- What the 2009 reader does not look at: bytes 109..110, the sync address, and option bit 0x20, to force synchronization. The low five option
-- bits are ignored anyway, so of byte 112 the upper two bits count.
use Rattle.std.specs.Prelude.{ℕ, ◌/◌, ◌≡◌, List, length, get_or}
use Rattle.demands.specs.Ignored.{Between}

-- two datagrams of one length that differ there at most
pub record AlikeTo2009 (d e : List ℕ) : Type 0 where
  pub long : length d ≡ length e
  pub outside : (i : ℕ) → (Between 109 110 i → ⊥) → (i ≡ 112 → ⊥) → get_or d i 0 ≡ get_or e i 0
  pub options : get_or d 112 0 / 0x40 ≡ get_or e 112 0 / 0x40
