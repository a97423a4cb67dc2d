-- The tests of all bytes of a word at once, by the top bit of each. Eight is a number here: the laws go byte by byte. Assumes nothing.
use Prim.Native.Nat.{ℕ, zero, suc, ◌+◌, ◌-◌, ◌*◌, ◌/◌, ◌%◌, ◌≤◌, ◌<◌}
use mathlib.Core.Path.{◌≡◌, refl, ap, ◌∙◌}
use native.Mathlib.Omega.{arith}
use lib.Bits.{bit_and, and_block, and_high}
use lib.Count.{count_trailing_zeros}
use Rattle.refusal.specs.Check.{◌=?◌}
use Rattle.refusal.proofs.Tests.{chosen, passed_over, decide}
use Rattle.name.specs.Words.{Ascii, zero_in}
use Rattle.name.proofs.WordLaws.{room}

-- the top bit of each of n bytes
abbrev pub tops : ℕ → ℕ
tops zero = 0
tops (suc n) = tops n * 0x100 + 0x80

top_bit : (b : ℕ) → b < 0x100 → bit_and b 0x80 ≡ b / 0x80 * 0x80
top_bit b h = and_high b 1 7 ∙ omega arith

-- the top bits of a word, byte by byte
top_bits : (n word b : ℕ) → b < 0x100 → bit_and (word * 0x100 + b) (tops (suc n)) ≡ bit_and word (tops n) * 0x100 + b / 0x80 * 0x80
top_bits n word b h = and_block 8 word (tops n) b 0x80 h (omega arith) ∙ ap (λ (t : ℕ). bit_and word (tops n) * 0x100 + t) (top_bit b h)

split : (word : ℕ) → word ≡ word / 0x100 * 0x100 + word % 0x100
split word = omega arith

pub ascii : (n word : ℕ) → bit_and word (tops n) ≡ 0 → Ascii n word
unfolding Ascii
ascii zero word e = tt
ascii (suc n) word e =
    let t : bit_and word (tops (suc n)) ≡ bit_and (word / 0x100) (tops n) * 0x100 + word % 0x100 / 0x80 * 0x80 =
    ap (λ (w : ℕ). bit_and w (tops (suc n))) (split word) ∙ top_bits n (word / 0x100) (word % 0x100) (omega arith) in
    (omega arith, ascii n (word / 0x100) (omega arith))

-- a byte of at most 7f can be taken from 80
pub ascii_low : (n word : ℕ) → Ascii n word → word < room n → word ≤ tops n
unfolding Ascii
ascii_low zero word a h = omega arith
ascii_low (suc n) word a h = omega (arith, ascii_low n (word / 0x100) a.1 (omega arith))

-- the zeros of such a word, each as its top bit
abbrev pub zeros : ℕ → ℕ → ℕ
zeros n word = bit_and (tops n - word) (tops n)

zeros_more : (n word : ℕ) → Ascii (suc n) word → word < room (suc n) →
    zeros (suc n) word ≡ zeros n (word / 0x100) * 0x100 + (0x80 - word % 0x100) / 0x80 * 0x80
unfolding Ascii
zeros_more n word a h =
    let low : word / 0x100 ≤ tops n = ascii_low n (word / 0x100) a.1 (omega arith) in
    let e : tops (suc n) - word ≡ (tops n - word / 0x100) * 0x100 + (0x80 - word % 0x100) = omega arith in
    ap (λ (w : ℕ). bit_and w (tops (suc n))) e ∙ top_bits n (tops n - word / 0x100) (0x80 - word % 0x100) (omega arith)

-- A number's trailing zeros, where it is doubled j times, and where it is odd.
abbrev doubled : ℕ → ℕ → ℕ
doubled zero n = n
doubled (suc j) n = doubled j n * 2

abbrev behind : ℕ → ℕ → ℕ
behind zero k = k
behind (suc j) k = suc (behind j k)

trailing_even : (k n : ℕ) → count_trailing_zeros (suc k) (n * 2) ≡ suc (count_trailing_zeros k n)
unfolding count_trailing_zeros
trailing_even k n =
    let r : n * 2 % 2 ≡ 0 = omega arith in
    let q : n * 2 / 2 ≡ n = omega arith in
    rw (r, q)

trailing_odd : (k n : ℕ) → count_trailing_zeros (suc k) (n * 2 + 1) ≡ 0
unfolding count_trailing_zeros
trailing_odd k n = let r : (n * 2 + 1) % 2 ≡ 1 = omega arith in rw r

trailing_doubled : (j k n : ℕ) → count_trailing_zeros (behind j k) (doubled j n) ≡ j + count_trailing_zeros k n
trailing_doubled zero k n = omega arith
trailing_doubled (suc j) k n = trailing_even (behind j k) (doubled j n) ∙ omega (arith, trailing_doubled j k n)

-- as many digits as n bytes have
abbrev pub digits : ℕ → ℕ
digits zero = 0
digits (suc n) = behind 8 (digits n)

-- so the first zero is found by them
pub zero_found : (n word : ℕ) → Ascii n word → word < room n → count_trailing_zeros (digits n) (zeros n word) / 8 ≡ zero_in n word
unfolding Ascii zero_in count_trailing_zeros
zero_found zero word a r = refl
zero_found (suc n) word a r =
    let f = zeros n (word / 0x100) in
    decide (word % 0x100 =? 0)
    (λ h. let e : zeros (suc n) word ≡ doubled 7 (f * 2 + 1) = zeros_more n word a r ∙ omega arith in
    let t : count_trailing_zeros (digits (suc n)) (zeros (suc n) word) ≡ 7 =
    ap (count_trailing_zeros (digits (suc n))) e ∙ trailing_doubled 7 (suc (digits n)) (f * 2 + 1) ∙ omega (arith, trailing_odd (digits n) f) in
    rw t (chosen _ _ _ h refl))
    (λ k. let e : zeros (suc n) word ≡ doubled 8 f = zeros_more n word a r ∙ omega arith in
    let t : count_trailing_zeros (digits (suc n)) (zeros (suc n) word) ≡ 8 + count_trailing_zeros (digits n) f =
    ap (count_trailing_zeros (digits (suc n))) e ∙ trailing_doubled 8 (digits n) f in
    omega (arith, t, zero_found n (word / 0x100) a.1 (omega arith), passed_over (word % 0x100 =? 0) 0 (suc (zero_in n (word / 0x100))) k refl))
