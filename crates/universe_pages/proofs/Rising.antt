-- Numbers that rise, as one test: their parts, their joins, how many there can be; and the checks of neighbours, by which an order is defined. Assumes nothing.
use Rattle.std.proofs.Common.{◌≡◌, ℕ, zero, suc, ◌+◌, ◌-◌, ◌<◌, ◌≤◌, Bool, true, false, List, [], ◌∷◌, ◌++◌, length, get_or, take, drop, Ok, Err, sym, refl, ◌∙◌, arith}
use Rattle.refusal.specs.Check.{Test, ◌≤?◌, ◌and◌, outcome, pick, checked_of}
use Rattle.refusal.specs.declared.Refusal.{Refusal}
use Rattle.refusal.proofs.Tests.{Holds, Fails, decide}
use Rattle.refusal.proofs.Laws.{All, all_hold, not_refused, read_as}
use Rattle.discovery.specs.Universes.{pairs_from, pairs, ascends, rises, order_checks}

-- the first number is at least `low`, and each is above the one before it
abbrev pub rising_from : ℕ → List ℕ → Test
rising_from low [] = 0 ≤? 0
rising_from low (u ∷ us) = low ≤? u and rising_from (u + 1) us

abbrev pub rising : List ℕ → Test
rising us = rising_from 0 us

-- where numbers have to begin that follow these, and rise with them
unfoldable pub behind : ℕ → List ℕ → ℕ
behind low [] = low
behind low (u ∷ us) = behind (u + 1) us

-- A part of numbers that rise.
pub from_lower : (low low' : ℕ) (us : List ℕ) → low' ≤ low → Holds (rising_from low us) → Holds (rising_from low' us)
from_lower low low' [] h r = omega arith
from_lower low low' (u ∷ us) h r = (omega arith, r.1)

pub rising_drop : (n low : ℕ) (us : List ℕ) → Holds (rising_from low us) → Holds (rising (drop n us))
rising_drop zero low us r = from_lower low 0 us (omega arith) r
rising_drop (suc n) low [] r = omega arith
rising_drop (suc n) low (u ∷ us) r = rising_drop n (u + 1) us r.1

pub rising_take : (n low : ℕ) (us : List ℕ) → Holds (rising_from low us) → Holds (rising_from low (take n us))
rising_take zero low us r = omega arith
rising_take (suc n) low [] r = omega arith
rising_take (suc n) low (u ∷ us) r = (r.0, rising_take n (u + 1) us r.1)

-- Numbers below a bound that rise are no more than that bound.
rising_few : (bound low : ℕ) (us : List ℕ) → low ≤ bound → ((i : ℕ) → i < length us → get_or us i 0 < bound) → Holds (rising_from low us) → low + length us ≤ bound
rising_few bound low [] b w r = omega arith
rising_few bound low (u ∷ us) b w r =
    let first : u < bound = w 0 (omega arith) in
    let rest = rising_few bound (u + 1) us (omega arith) (λ i k. w (suc i) (omega arith)) r.1 in
    omega arith

pub rising_words : (us : List ℕ) → ((i : ℕ) → i < length us → get_or us i 0 < 0x10000) → Holds (rising us) → length us ≤ 0x10000
rising_words us w r = omega (arith, rising_few 0x10000 0 us (omega arith) w r)

-- They pass the checks of an order at writing, and only they do.
order→from : (u : ℕ) (us : List ℕ) → All (pairs_from rises u us) → Holds (rising_from (u + 1) us)
order→from u [] h = omega arith
order→from u (v ∷ us) h =
    let above : u + 1 ≤ v = omega arith in
    (above, order→from v us h.1.1)

from→order : (u : ℕ) (us : List ℕ) → Holds (rising_from (u + 1) us) → All (pairs_from rises u us)
from→order u [] r = tt
from→order u (v ∷ us) r = (λ e. omega (arith, r.0, e), (omega (arith, r.0), from→order v us r.1))

pub order→rising : (us : List ℕ) → All (order_checks us) → Holds (rising us)
order→rising [] h = omega arith
order→rising (u ∷ us) h = (omega arith, order→from u us h)

pub rising→order : (us : List ℕ) → Holds (rising us) → All (order_checks us)
rising→order [] r = tt
rising→order (u ∷ us) r = from→order u us r.1

-- the same of the checks at reading, one way
ascends→from : (u : ℕ) (us : List ℕ) → All (pairs_from ascends u us) → Holds (rising_from (u + 1) us)
ascends→from u [] h = omega arith
ascends→from u (v ∷ us) h = (h.0, ascends→from v us h.1)

pub ascends→rising : (us : List ℕ) → All (pairs ascends us) → Holds (rising us)
ascends→rising [] h = omega arith
ascends→rising (u ∷ us) h = (omega arith, ascends→from u us h)

-- and of the answer to those at writing
pub passed→rising : (us : List ℕ) → checked_of (order_checks us) ≡ Ok tt → Holds (rising us)
unfolding checked_of
passed→rising us e = order→rising us (read_as (order_checks us) tt tt e).0

-- Numbers behind others.
pub rising_++ : (low : ℕ) (us vs : List ℕ) →
    outcome (rising_from low (us ++ vs)) ≡ pick (outcome (rising_from low us)) (outcome (rising_from (behind low us) vs)) false
unfolding behind
rising_++ low [] vs = refl
rising_++ low (u ∷ us) vs = rw (rising_++ (u + 1) us vs) (by (outcome (low ≤? u)))
  where
    by : (o : Bool) → pick o (pick (outcome (rising_from (u + 1) us)) (outcome (rising_from (behind (u + 1) us) vs)) false) false
        ≡ pick (pick o (outcome (rising_from (u + 1) us)) false) (outcome (rising_from (behind (u + 1) us) vs)) false
    by true = refl
    by false = refl

pub behind_none : (low : ℕ) (us : List ℕ) → length us ≡ 0 → behind low us ≡ low
unfolding behind
behind_none low [] h = refl
behind_none low (u ∷ us) h = absurd (omega arith)

pub behind_last : (low : ℕ) (us : List ℕ) → 0 < length us → behind low us ≡ get_or us (length us - 1) 0 + 1
unfolding behind
behind_last low [] h = absurd (omega arith)
behind_last low (u ∷ []) h = refl
behind_last low (u ∷ v ∷ us) h =
    let last : length (u ∷ v ∷ us) - 1 ≡ suc (length (v ∷ us) - 1) = omega arith in
    rw last (behind_last (u + 1) (v ∷ us) (omega arith))

-- Numbers that rise from a bound on: the first decides, and then their order.
pub from_first : (low : ℕ) (us : List ℕ) → low ≤ get_or us 0 0 → Holds (rising us) → Holds (rising_from low us)
from_first low [] h r = omega arith
from_first low (u ∷ us) h r = (h, r.1)

pub refused→falls : (low : ℕ) (us : List ℕ) (r : Refusal) → checked_of (order_checks us) ≡ Err r → Fails (rising_from low us)
unfolding checked_of
refused→falls low us r e =
    decide (rising_from low us)
    (λ h. absurd (not_refused tt r (sym e ∙ all_hold Err (order_checks us) (Ok tt) (rising→order us (from_lower low 0 us (omega arith) h)))))
    (λ f. f)
