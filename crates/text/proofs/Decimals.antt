-- What the digits of a number are: one for a number up to 9, else those of its tenth and one more. Assumes nothing.
use Rattle.std.proofs.Common.{◌≡◌, ℕ, zero, suc, ◌+◌, ◌-◌, ◌*◌, ◌/◌, ◌%◌, ◌^◌, ◌≤◌, ◌<◌, List, [], ◌∷◌, ◌++◌, length, refl, sym, ap, ◌∙◌, arith, length-append}
use Rattle.std.specs.Fmt.{decimal as printed}
use Rattle.std.proofs.lemmas.Fmt.{decimal_by_steps}
use Rattle.refusal.specs.Check.{◌≤?◌}
use Rattle.refusal.proofs.Tests.{chosen, passed_over, decide}
use Rattle.text.specs.Digits.{last_digits, decimal}

last_one : (k n : ℕ) → n ≤ 9 → last_digits (suc k) n ≡ (0x30 + n) ∷ []
unfolding last_digits
last_one k n h = sym (chosen _ _ _ h refl)

last_more : (k n : ℕ) → 9 < n → last_digits (suc k) n ≡ last_digits k (n / 10) ++ ((0x30 + n % 10) ∷ [])
unfolding last_digits
last_more k n h = sym (passed_over _ _ _ h refl)

-- more room than a number needs changes nothing
enough : (j k n : ℕ) → n < j → n < k → last_digits j n ≡ last_digits k n
enough zero k n h h' = absurd (omega arith)
enough (suc j) zero n h h' = absurd (omega arith)
enough (suc j) (suc k) n h h' =
    decide (n ≤? 9) (λ a. last_one j n a ∙ sym (last_one k n a))
    (λ a.
    last_more j n a
    ∙ ap (λ (l : List ℕ). l ++ ((0x30 + n % 10) ∷ [])) (enough j k (n / 10) (omega arith) (omega arith))
    ∙ sym (last_more k n a))

pub decimal_one : (n : ℕ) → n ≤ 9 → decimal n ≡ (0x30 + n) ∷ []
unfolding decimal
decimal_one n h = last_one n n h

pub decimal_more : (n : ℕ) → 9 < n → decimal n ≡ decimal (n / 10) ++ ((0x30 + n % 10) ∷ [])
unfolding decimal
decimal_more n h = last_more n n h ∙ ap (λ (l : List ℕ). l ++ ((0x30 + n % 10) ∷ [])) (enough n (suc (n / 10)) (n / 10) (omega arith) (omega arith))

-- they are what `{}` prints of a number of 64 bits
pub decimal_printed : (n : ℕ) → n < 2 ^ 64 → printed n ≡ decimal n
decimal_printed = decimal_by_steps (λ m ds. ds ≡ decimal m) (λ m l. sym (decimal_one m (omega arith)))
    (λ m ds l h. ap (λ (x : List ℕ). x ++ ((0x30 + m % 10) ∷ [])) h ∙ sym (decimal_more m l))

-- a number below ten to the k has at most k digits
abbrev pub tens : ℕ → ℕ
tens zero = 1
tens (suc k) = 10 * tens k

pub decimal_length : (k n : ℕ) → n < tens (suc k) → length (decimal n) ≤ suc k
decimal_length zero n h = rw (decimal_one n (omega arith)) (omega arith)
decimal_length (suc k) n h =
    decide (n ≤? 9) (λ a. rw (decimal_one n a) (omega arith))
    (λ a.
    rw (decimal_more n a)
    (omega (arith, length-append (decimal (n / 10)) ((0x30 + n % 10) ∷ []), decimal_length k (n / 10) (omega arith))))

-- a number of 64 bits has at most twenty
pub digits : (n : ℕ) → n < 0x1_0000_0000_0000_0000 → length (decimal n) ≤ 20
digits n h = decimal_length 19 n (omega arith)

-- the digits say the number
abbrev pub value_from : ℕ → List ℕ → ℕ
value_from n [] = n
value_from n (d ∷ ds) = value_from (10 * n + (d - 0x30)) ds

value_append : (n : ℕ) (ds es : List ℕ) → value_from n (ds ++ es) ≡ value_from (value_from n ds) es
value_append n [] es = refl
value_append n (d ∷ ds) es = value_append (10 * n + (d - 0x30)) ds es

value_last : (k n : ℕ) → n < k → value_from 0 (last_digits k n) ≡ n
value_last zero n h = absurd (omega arith)
value_last (suc k) n h =
    decide (n ≤? 9) (λ a. rw (last_one k n a) (omega arith))
    (λ a.
    let e : value_from 0 (last_digits k (n / 10)) ≡ n / 10 = value_last k (n / 10) (omega arith) in
    rw (last_more k n a, value_append 0 (last_digits k (n / 10)) ((0x30 + n % 10) ∷ []), e) (omega arith))

pub read_back : (n : ℕ) → value_from 0 (decimal n) ≡ n
unfolding decimal
read_back n = value_last (suc n) n (omega arith)
