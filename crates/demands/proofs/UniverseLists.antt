-- Universes and their bytes, there and back, and their order at writing and at reading. Assumes nothing.
use Prim.Native.Nat.{ℕ, zero, suc, ◌+◌, ◌*◌, ◌/◌, ◌%◌, ◌≤◌}
use mathlib.Core.Path.{◌≡◌, refl, sym, ap, ◌∙◌}
use mathlib.Core.List.{List, [], ◌∷◌, ◌++◌, append-nil}
use native.Mathlib.Omega.{arith}
use lib.ListN.{length}
use Rattle.wire.specs.Bytes.{Bytes, Words}
use Rattle.wire.specs.Fields.{u16_at}
use Rattle.refusal.proofs.Laws.{All}
use Rattle.discovery.specs.Universes.{universes, all_universes, pairs, pairs_from, ascends, rises, order_checks, list_checks, universe_bytes}
use Rattle.discovery.proofs.Laws.{bytes_length, all_told}

-- numbers of 16 bits are found again in their bytes, whatever follows
pub universes_back : (us rest : List ℕ) → Words us → universes (length us) (universe_bytes us ++ rest) ≡ us
unfolding universes universe_bytes u16_at
universes_back [] rest w = refl
universes_back (u ∷ us) rest w =
    let first : u / 0x100 % 0x100 * 0x100 + u % 0x100 ≡ u = omega (arith, w 0) in
    rw (first, universes_back us rest (λ i. w (suc i)))

plain : (us : List ℕ) → Words us → universes (length us) (universe_bytes us) ≡ us
plain us w = ap (universes (length us)) (sym (append-nil (universe_bytes us))) ∙ universes_back us [] w

-- all that their bytes hold are they
pub numbers_back : (us : List ℕ) → Words us → all_universes (universe_bytes us) ≡ us
numbers_back us w =
    let n : length (universe_bytes us) / 2 ≡ length us = omega (arith, bytes_length us) in
    rw n (plain us w)

-- bytes are those of their numbers
pub bytes_back : (n : ℕ) (p : List ℕ) → length p ≡ 2 * n → Bytes p → universe_bytes (universes n p) ≡ p
unfolding universes universe_bytes u16_at
bytes_back zero [] e b = refl
bytes_back zero (x ∷ p) e b = absurd (omega arith)
bytes_back (suc n) [] e b = absurd (omega arith)
bytes_back (suc n) (x ∷ []) e b = absurd (omega arith)
bytes_back (suc n) (x ∷ y ∷ p) e b =
    let high : (x * 0x100 + y) / 0x100 % 0x100 ≡ x = omega (arith, b 0, b 1) in
    let low : (x * 0x100 + y) % 0x100 ≡ y = omega (arith, b 0, b 1) in
    rw (high, low, bytes_back n p (omega arith) (λ i. b (suc (suc i))))

-- what rises at writing ascends at reading
rising_from_lem : (u : ℕ) (us : List ℕ) → All (pairs_from rises u us) → All (pairs_from ascends u us)
rising_from_lem u [] h = tt
rising_from_lem u (v ∷ us) h =
    let above : u + 1 ≤ v = omega arith in
    (above, rising_from_lem v us h.1.1)

pub rising : (us : List ℕ) → All (order_checks us) → All (pairs ascends us)
rising [] h = tt
rising (u ∷ us) h = rising_from_lem u us h

-- the reader's checks of a list of universes hold of their bytes
pub listed_back : (us : List ℕ) → Words us → All (order_checks us) → All (list_checks (universe_bytes us) (length us))
listed_back us w h =
    let fits : 2 * length us ≤ length (universe_bytes us) = omega (arith, bytes_length us) in
    let same : universes (length us) (universe_bytes us) ≡ us = plain us w in
    (fits, all_told 2 (pairs ascends (universes (length us) (universe_bytes us))) (rw same (rising us h)))
