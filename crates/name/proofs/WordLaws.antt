-- Words of a list: in parts, and byte by byte. Assumes nothing.
use Rattle.std.proofs.Common.{ℕ, zero, suc, ◌+◌, ◌-◌, ◌*◌, ◌/◌, ◌%◌, ◌<◌, ◌≡◌, refl, sym, List, [], length, take, drop, get_or, get_or-take, get_or-drop, add-zero, w64, arith, take_all, drop_of_length-le}
use Rattle.std.proofs.Math.ListN.{get_or-eq_default}
use Rattle.std.specs.Int.{from_le_bytes}
use Rattle.refusal.specs.Check.{◌≤?◌}
use Rattle.refusal.proofs.Tests.{decide}
use Rattle.wire.specs.Bytes.{Bytes}
use Rattle.wire.specs.Fields.{byte_at}
use Rattle.wire.proofs.Laws.{drop_more, rest}
use Rattle.name.specs.Words.{word_of}

-- How large a number of n bytes may be.
abbrev pub room : ℕ → ℕ
room zero = 1
room (suc n) = room n * 0x100

word_empty : word_of [] ≡ 0
unfolding word_of
word_empty = refl

-- One byte more in front, also behind the end, where all are zeros.
word_step : (n : ℕ) (s : List ℕ) (at : ℕ) → word_of (take (suc n) (drop at s)) ≡ word_of (take n (drop (at + 1) s)) * 0x100 + byte_at s at
unfolding word_of
word_step n s at =
    decide (length s ≤? at)
    (λ past. let none : drop (at + 1) s ≡ [] = drop_of_length-le s {i = at + 1} (omega arith) in
    rw (drop_of_length-le s past, none, take_all {A = ℕ} n [] (omega arith)) (omega (arith, get_or-eq_default s 0 past)))
    (λ inside. rw (drop_more s at inside))

word_from : (n k m : ℕ) (s : List ℕ) (at : ℕ) → m ≡ k + 1 → word_of (take (suc n) (drop (at + k) s)) ≡ word_of (take n (drop (at + m) s)) * 0x100 + byte_at s (at + k)
word_from n k m s at e =
    let next : at + m ≡ at + k + 1 = omega arith in
    rw next (word_step n s (at + k))

-- Eight bytes, each with what it is worth.
abbrev pub eight : ℕ → ℕ → ℕ → ℕ → ℕ → ℕ → ℕ → ℕ → ℕ
eight a b c d e f g h = a + b * 0x100 + c * 0x1_0000 + d * 0x100_0000 + e * 0x1_0000_0000 + f * 0x100_0000_0000 + g * 0x1_0000_0000_0000 + h * 0x100_0000_0000_0000

pub word_eight : (s : List ℕ) (at : ℕ) →
    word_of (take 8 (drop at s))
    ≡ eight (byte_at s at) (byte_at s (at + 1)) (byte_at s (at + 2)) (byte_at s (at + 3)) (byte_at s (at + 4)) (byte_at s (at + 5)) (byte_at s (at + 6)) (byte_at s (at + 7))
word_eight s at =
    let none : word_of (take 0 (drop (at + 8) s)) ≡ 0 = word_empty in
    omega (arith, word_step 7 s at, word_from 6 1 2 s at refl, word_from 5 2 3 s at refl, word_from 4 3 4 s at refl, word_from 3 4 5 s at refl, word_from 2 5 6 s at refl, word_from 1 6 7 s at refl, word_from 0 7 8 s at refl)

-- as `from_le_bytes` of std has them
pub word_le : (s bytes : List ℕ) (at n : ℕ) → n ≡ from_le_bytes w64 bytes → bytes ≡ take 8 (take (length s - at) (drop at s)) → n ≡ word_of (take 8 (drop at s))
word_le s bytes at n e same =
    let byte : (i : ℕ) → i < 8 → get_or bytes i 0 ≡ byte_at s (at + i) = λ i h. rw (same, rest s at, get_or-take, get_or-drop) in
    let first = rw add-zero at (byte 0 (omega arith)) in
    let worth : from_le_bytes w64 bytes ≡ eight (get_or bytes 0 0) (get_or bytes 1 0) (get_or bytes 2 0) (get_or bytes 3 0) (get_or bytes 4 0) (get_or bytes 5 0) (get_or bytes 6 0) (get_or bytes 7 0) = refl in
    omega (arith, e, worth, first, word_eight s at, byte 1 (omega arith), byte 2 (omega arith), byte 3 (omega arith), byte 4 (omega arith), byte 5 (omega arith), byte 6 (omega arith), byte 7 (omega arith))

-- The lowest byte of a word of n, and the others. Behind the list's end they are zeros.
pub word_next : (n : ℕ) (s : List ℕ) (at : ℕ) → Bytes s → 0 < n →
    let word = word_of (take n (drop at s)) in
    (word % 0x100 ≡ byte_at s at) × (word / 0x100 ≡ word_of (take (n - 1) (drop (at + 1) s)))
unfolding word_of
word_next zero s at h k = absurd (omega arith)
word_next (suc n) s at h k =
    let m : suc n - 1 ≡ n = omega arith in
    decide (length s ≤? at)
    (λ past. let none : drop (at + 1) s ≡ [] = drop_of_length-le s {i = at + 1} (omega arith) in
    rw (m, drop_of_length-le s past, none, take_all {A = ℕ} n [] (omega arith)) (sym (get_or-eq_default s 0 past), refl))
    (λ inside. rw (m, drop_more s at inside) (omega (arith, h at), omega (arith, h at)))

-- a word whose lowest byte is no zero has one left
pub word_some : (n word : ℕ) (s : List ℕ) → word ≡ word_of (take n s) → (word % 0x100 ≡ 0 → ⊥) → 0 < n
unfolding word_of
word_some zero word s t f = absurd (f (omega arith))
word_some (suc n) word s t f = omega arith
