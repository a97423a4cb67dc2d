-- The readable limits in plain words, both ways, and records within them: none of the demands is empty. Assumes nothing.
use Prim.Native.Nat.{ℕ, zero, suc, ◌+◌, ◌≤◌, ◌<◌}
use mathlib.Core.Path.{◌≡◌, refl, ap}
use mathlib.Core.List.{List, [], ◌∷◌}
use mathlib.Core.Bool.{true, false}
use native.Mathlib.Numerals.{add-one}
use native.Mathlib.Omega.{arith}
use lib.ListN.{length, get_or, replicate}
use Rattle.wire.specs.Bytes.{Words}
use Rattle.refusal.specs.Check.{◌=?◌, choose}
use Rattle.refusal.proofs.Tests.{passed_over}
use Rattle.refusal.proofs.Laws.{All}
use Rattle.name.specs.Name.{zero_at}
use Rattle.name.specs.Utf8.{whole_chars, reach, lead_of, trailed}
use Rattle.name.proofs.Points.{encoded→well_formed, well_formed→encoded}
use Rattle.discovery.specs.Universes.{pairs_from, rises, order_checks}
use Rattle.demands.proofs.Names.{before_zero}
use Rattle.demands.specs.Limits.{Iff, PlainName, Rising, ReadableName, ReadableData, ReadableSynchronization, ReadableDiscovery, long_name, up_from}

-- where no byte is zero all stand before the first zero
none_zero : (s : List ℕ) → ((i : ℕ) → i < length s → get_or s i 0 ≡ 0 → ⊥) → length s ≤ zero_at s
unfolding zero_at
none_zero [] h = omega arith
none_zero (b ∷ s) h =
    let p = passed_over (b =? 0) 0 (suc (zero_at s)) (h 0 (omega arith)) refl in
    let r = none_zero s (λ i q. h (suc i) (omega arith)) in
    omega arith

-- A name passes the checks of a written name exactly when it is some code points' bytes, none of them zero, at most 63.
pub readable_plainly : (name : List ℕ) → Iff (ReadableName name) (PlainName name)
readable_plainly name = (
  λ h. record {
    encoded = well_formed→encoded name h.1.1.0;
    nonzero = λ i g. before_zero name i (omega arith);
    short = h.0;
  },
  λ p. (p.short, (none_zero name p.nonzero, (encoded→well_formed p.encoded, tt))),
)

-- neighbours rise behind u exactly when the list with u in front does
rises_from : (u : ℕ) (us : List ℕ) → All (pairs_from rises u us) → Rising (u ∷ us)
rises_from u [] h i g = absurd (omega arith)
rises_from u (v ∷ us) h zero g = omega arith
rises_from u (v ∷ us) h (suc i) g = simp add-one (simp add-one at (rises_from v us h.1.1 i (omega arith)))

from_rising : (u : ℕ) (us : List ℕ) → Rising (u ∷ us) → All (pairs_from rises u us)
from_rising u [] r = tt
from_rising u (v ∷ us) r =
    let above : u < v = r 0 (omega arith) in
    (λ e. omega arith, (omega arith, from_rising v us (λ i g. simp add-one (simp add-one at (r (suc i) (omega arith))))))

-- Universes pass the order's checks at writing exactly when each is above the one before.
pub ascending_plainly : (us : List ℕ) → Iff (All (order_checks us)) (Rising us)
ascending_plainly [] = (λ h i g. absurd (omega arith), λ r. tt)
ascending_plainly (u ∷ us) = (rises_from u us, from_rising u us)

-- the longest name may be written, and the empty one; and universes from one on rise
long_readable : ReadableName long_name
unfolding zero_at choose whole_chars reach lead_of trailed
long_readable = (omega arith, (omega arith, (refl, tt)))

empty_readable : ReadableName []
unfolding zero_at choose whole_chars reach lead_of trailed
empty_readable = (omega arith, (omega arith, (refl, tt)))

up_long : (u n : ℕ) → length (up_from u n) ≡ n
unfolding up_from
up_long u zero = refl
up_long u (suc n) = ap suc (up_long (u + 1) n)

words_more : (u : ℕ) (us : List ℕ) → u < 0x10000 → Words us → Words (u ∷ us)
words_more u us h w zero = h
words_more u us h w (suc i) = w i

up_words : (u n : ℕ) → u + n ≤ 0x10000 → Words (up_from u n)
unfolding up_from
up_words u zero h = λ i. omega arith
up_words u (suc n) h = words_more u (up_from (u + 1) n) (omega arith) (up_words (u + 1) n (omega arith))

up_rises : (t u n : ℕ) → t < u → All (pairs_from rises t (up_from u n))
unfolding up_from
up_rises t u zero h = tt
up_rises t u (suc n) h = (λ e. omega arith, (omega arith, up_rises u (u + 1) n (omega arith)))

-- Records at the limits: of data one with 513 values and one with 1; 512 universes, the first 0 and the last 65535.
pub some_data_readable :
    ReadableData (replicate 16 0xff)
    (record {
      priority = 200;
      synchronization_address = 63999;
      sequence_number = 255;
      preview_data = true;
      stream_terminated = true;
      force_synchronization = true;
      universe = 63999;
    })
    long_name (replicate 513 0xff)
some_data_readable = record {
  cid_16 = refl;
  named = long_readable;
  priority = omega arith;
  address = omega arith;
  universe_least = omega arith;
  universe_most = omega arith;
  some = omega arith;
  few = omega arith;
}

pub least_data_readable :
    ReadableData (replicate 16 0)
    (record {
      priority = 0;
      synchronization_address = 0;
      sequence_number = 0;
      preview_data = false;
      stream_terminated = false;
      force_synchronization = false;
      universe = 1;
    })
    [] (0 ∷ [])
least_data_readable = record {
  cid_16 = refl;
  named = empty_readable;
  priority = omega arith;
  address = omega arith;
  universe_least = omega arith;
  universe_most = omega arith;
  some = omega arith;
  few = omega arith;
}

pub some_synchronization_readable :
    ReadableSynchronization (replicate 16 0xff) (record { sequence_number = 255; synchronization_address = 63999 })
some_synchronization_readable = record { cid_16 = refl; address_least = omega arith; address_most = omega arith }

pub some_discovery_readable :
    ReadableDiscovery (replicate 16 0xff) (record { page = 255; last_page = 255 }) long_name (0 ∷ up_from 65025 511)
some_discovery_readable = record {
  cid_16 = refl;
  named = long_readable;
  paged = omega arith;
  few = omega (arith, up_long 65025 511);
  words = words_more 0 (up_from 65025 511) (omega arith) (up_words 65025 511 (omega arith));
  ascending = up_rises 0 65025 511 (omega arith);
}
