-- Bytes in hex, one after the other. Assumes nothing.
use Rattle.std.proofs.Common.{◌≡◌, ℕ, suc, ◌+◌, ◌*◌, ◌≤◌, ◌<◌, min, List, [], ◌∷◌, ◌++◌, length, take, get_or, refl, sym, ap, ◌∙◌, arith, add-one, take-suc, length-take-le}
use Rattle.std.proofs.Math.Seq.{length-sets}
use Rattle.std.proofs.lemmas.List.Edits.{sets}
use Rattle.refusal.specs.Check.{◌≤?◌}
use Rattle.refusal.proofs.Tests.{decide}
use Rattle.wire.proofs.Laws.{sets_append, sets_past}
use Rattle.text.specs.Digits.{hex_byte, hex_bytes, hex}

hex_bytes_append : (xs ys : List ℕ) → hex_bytes (xs ++ ys) ≡ hex_bytes xs ++ hex_bytes ys
unfolding hex_bytes
hex_bytes_append [] ys = refl
hex_bytes_append (x ∷ xs) ys = rw (hex_bytes_append xs ys)

pub hex_more : (s : List ℕ) (i : ℕ) → i < length s → hex_bytes (take (suc i) s) ≡ hex_bytes (take i s) ++ hex_byte (get_or s i 0)
unfolding hex_bytes
hex_more s i h = rw (take-suc s i 0 h) (hex_bytes_append (take i s) (get_or s i 0 ∷ []))

pub hex_first : (s : List ℕ) → 0 < length s → hex_bytes (take 1 s) ≡ hex_byte (get_or s 0 0)
unfolding hex_bytes
hex_first [] h = absurd (omega arith)
hex_first (b ∷ s) h = refl

pub hex_some : (s : List ℕ) → 0 < length s → hex s ≡ hex_bytes s
unfolding hex
hex_some [] h = absurd (omega arith)
hex_some (b ∷ s) h = refl

pub hex_none : (s : List ℕ) → length s ≡ 0 → hex s ≡ 0x2d ∷ []
unfolding hex
hex_none [] h = refl
hex_none (b ∷ s) h = absurd (omega arith)

-- two digits a byte, or `-`
pub hex_bytes_length : (s : List ℕ) → length (hex_bytes s) ≡ 2 * length s
unfolding hex_bytes
hex_bytes_length [] = refl
hex_bytes_length (b ∷ s) = omega (arith, hex_bytes_length s)

-- a place that no buffer has may be told as the last number there is
sets_clamped : (vs l : List ℕ) (i j most : ℕ) → j ≡ min i most → length l ≤ most → sets l j vs ≡ sets l i vs
sets_clamped vs l i j most e h = decide (i ≤? most)
    (λ k. ap (λ (at : ℕ). sets l at vs) (omega (arith, e, k)))
    (λ k. sets_past vs l j (omega (arith, e, h, k)) ∙ sym (sets_past vs l i (omega (arith, h, k))))

-- the first i bytes are put, and the next one behind them
pub put_more : (s l : List ℕ) (at i place most : ℕ) → i < length s → place ≡ min (at + 2 * i) most → length l ≤ most →
    sets (sets l at (hex_bytes (take i s))) place (hex_byte (get_or s i 0)) ≡ sets l at (hex_bytes (take (i + 1) s))
put_more s l at i place most h e room =
    let xs = hex_bytes (take i s) in
    let ys = hex_byte (get_or s i 0) in
    let size : length xs ≡ 2 * i = hex_bytes_length (take i s) ∙ ap (λ (n : ℕ). 2 * n) (length-take-le i s (omega arith)) in
    let fits : length (sets l at xs) ≤ most = omega (arith, length-sets l at xs, room) in
    sets_clamped ys (sets l at xs) (at + 2 * i) place most e fits
    ∙ rw (add-one, hex_more s i h, sets_append, size) refl

pub hex_length : (s : List ℕ) → length (hex s) ≤ 2 * length s + 1
unfolding hex
hex_length [] = omega arith
hex_length (b ∷ s) = omega (arith, hex_bytes_length (b ∷ s))
