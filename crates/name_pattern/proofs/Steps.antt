-- The steps of the walk, each with what it says of the outcome. Assumes nothing.
use Prim.Native.Nat.{ℕ, zero, suc, ◌+◌, ◌-◌, ◌≤◌, ◌<◌}
use mathlib.Core.Path.{◌≡◌, refl, sym, subst}
use mathlib.Core.Bool.{Bool, true, false}
use mathlib.Core.List.{List, [], ◌∷◌}
use native.Mathlib.Omega.{arith}
use lib.ListN.{length, take, drop, get_or, length-drop}
use lib.Seq.{take_all, drop-drop}
use Rattle.refusal.proofs.Tests.{Holds, Fails, clash, chosen, passed_over, choice}
use Rattle.name_pattern.specs.Characters.{goes_on}
use Rattle.name_pattern.specs.Walk.{star_byte, question_byte, plain, Tells, Inside, beyond, Fits, ends, skip, eat, one, byte, Says, verdict_of}
use Rattle.name_pattern.specs.declared.Outcome.{Outcome}
use Rattle.name_pattern.specs.declared.Outcome.TheVariants.{Taken, NotHere, Nowhere}
use Rattle.name_pattern.proofs.Texts.{begins}

-- what an outcome says, once it is known which one it is
pub says : {o : Outcome} (w : Outcome) (p n : List ℕ) → o ≡ w → Says o p n → Says w p n
says {o} w p n e t = subst (λ (o : Outcome). Says o p n) e t

abbrev None : List ℕ → Type 0
None s = length s ≡ 0

abbrev Some : List ℕ → Type 0
Some s = length s ≡ 0 → ⊥

-- what `&s[1..]` lends
pub tail_part : (s : List ℕ) → take (length s - 1) (drop 1 s) ≡ drop 1 s
tail_part [] = refl
tail_part (b ∷ s) = take_all (suc (length s) - 1) s (omega arith)

-- Behind a star.
no_name : {c : ℕ} {p : List ℕ} → (c ≡ star_byte → ⊥) → Fits (c ∷ p) [] → ⊥
no_name f (skip e t) = f e

star_end : {c : ℕ} {p : List ℕ} → (Fits p [] → ⊥) → Fits (c ∷ p) [] → ⊥
star_end f (skip e t) = f t

star_on : {c b : ℕ} {p n : List ℕ} → c ≡ star_byte → (Fits p (b ∷ n) → ⊥) → Fits (c ∷ p) (b ∷ n) → Fits (c ∷ p) n
star_on s f (skip e t) = absurd (f t)
star_on s f (eat e t) = t
star_on s f (one e h t) = absurd (omega arith)
star_on s f (byte h e t) = absurd (h.0 s)

-- two stars are one
two_stars : {c d : ℕ} {p n : List ℕ} → c ≡ star_byte → d ≡ star_byte → Fits (c ∷ d ∷ p) n → Fits (d ∷ p) n
two_stars s r (skip e t) = t
two_stars s r (eat e t) = eat r (two_stars s r t)
two_stars s r (one e h t) = absurd (omega arith)
two_stars s r (byte h e t) = absurd (h.0 s)

-- a star takes more at the front of what it takes
star_more : {c : ℕ} {p : List ℕ} (n : List ℕ) → c ≡ star_byte → Fits (c ∷ p) (drop 1 n) → Fits (c ∷ p) n
star_more [] s t = t
star_more (b ∷ n) s t = eat s t

star_beyond : {c : ℕ} {p : List ℕ} (n : List ℕ) → c ≡ star_byte → Fits (c ∷ p) (beyond n) → Fits (c ∷ p) n
unfolding beyond
star_beyond [] s t = t
star_beyond {c} {p} (b ∷ n) s t =
    choice (λ (l : List ℕ). Fits (c ∷ p) l → Fits (c ∷ p) (b ∷ n)) (goes_on b) (beyond n) (b ∷ n)
    (λ h u. eat s (star_beyond n s u)) (λ f u. u) t

-- A plain byte or a question mark behind a star, which takes nothing from here: what follows it takes nothing from behind here.
star_byte_lem : {c d : ℕ} {p n : List ℕ} → c ≡ star_byte → Holds (plain d) → Fits (c ∷ d ∷ p) n → Fits (c ∷ p) (drop 1 n)
star_byte_lem s h (skip e (skip g t)) = absurd (h.0 g)
star_byte_lem s h (skip e (eat g t)) = absurd (h.0 g)
star_byte_lem s h (skip e (one g k t)) = absurd (h.1 g)
star_byte_lem s h (skip e (byte k g t)) = skip s t
star_byte_lem s h (eat {n = n} e t) = star_more n s (star_byte_lem s h t)
star_byte_lem s h (one e k t) = absurd (omega arith)
star_byte_lem s h (byte k e t) = absurd (k.0 s)

star_one : {c d : ℕ} {p n : List ℕ} → c ≡ star_byte → d ≡ question_byte → Fits (c ∷ d ∷ p) n → Fits (c ∷ p) (beyond n)
unfolding beyond
star_one s q (skip e (skip g t)) = absurd (omega arith)
star_one s q (skip e (eat g t)) = absurd (omega arith)
star_one {c} {d} {p} s q (skip e (one {b = b} {n = n} g k t)) =
    choice (Fits (c ∷ p)) (goes_on b) (beyond n) (b ∷ n)
    (λ h. absurd (clash (goes_on b) h k)) (λ f. eat s (star_beyond n s (skip s t)))
star_one s q (skip e (byte k g t)) = absurd (k.1 q)
star_one {c} {d} {p} s q (eat {b = b} {n = n} e t) =
    choice (Fits (c ∷ p)) (goes_on b) (beyond n) (b ∷ n)
    (λ h. star_one s q t) (λ f. eat s (star_beyond n s (star_one s q t)))
star_one s q (one e k t) = absurd (omega arith)
star_one s q (byte k e t) = absurd (k.0 s)

-- The steps of `used_up`.
pub all_taken : (n : List ℕ) → None n → Fits [] n
all_taken [] h = ends
all_taken (b ∷ n) h = absurd (omega arith)

-- The steps of `literal`, for a pattern and a name as they are lent.
pub without_pattern_lem : (o : Outcome) (p n : List ℕ) → None p → Says o [] n → Says o p n
without_pattern_lem o [] n h t = t
without_pattern_lem o (c ∷ p) n h t = absurd (omega arith)

-- at a star
star_taken : (p n : List ℕ) → Some p → get_or p 0 0 ≡ star_byte → Fits (star_byte ∷ drop 1 p) n → Fits p n
star_taken [] n h s t = absurd (h refl)
star_taken (c ∷ p) n h s t = subst (λ (x : ℕ). Fits (x ∷ p) n) (sym s) t

star_nowhere : (p n : List ℕ) → Some p → get_or p 0 0 ≡ star_byte → (Fits (star_byte ∷ drop 1 p) n → ⊥) → Fits (star_byte ∷ p) n → ⊥
star_nowhere [] n h s f t = h refl
star_nowhere (c ∷ p) n h s f t = f (subst (λ (x : ℕ). Fits (x ∷ p) n) s (two_stars refl s t))

pub star_says : (b : Bool) (p n : List ℕ) → Some p → get_or p 0 0 ≡ star_byte → Tells b (Fits (star_byte ∷ drop 1 p) n) → Says (verdict_of b) p n
star_says true p n h s t = star_taken p n h s t
star_says false p n h s t = star_nowhere p n h s t

-- the name is used up
pub no_name_left : (p n : List ℕ) → Some p → (get_or p 0 0 ≡ star_byte → ⊥) → None n → Fits (star_byte ∷ p) n → ⊥
no_name_left [] n h f k t = h refl
no_name_left (c ∷ p) [] h f k t = star_end (no_name f) t
no_name_left (c ∷ p) (b ∷ n) h f k t = omega arith

-- at a question mark
not_inside : {c b : ℕ} {p n : List ℕ} → c ≡ question_byte → Holds (goes_on b) → Fits (c ∷ p) (b ∷ n) → ⊥
not_inside {c} {b} q h (skip e t) = omega arith
not_inside {c} {b} q h (eat e t) = omega arith
not_inside {c} {b} q h (one e f t) = clash (goes_on b) h f
not_inside {c} {b} q h (byte f e t) = f.1 q

pub none_inside : (p n : List ℕ) → Some p → get_or p 0 0 ≡ question_byte → Inside n → Fits p n → ⊥
none_inside [] n h q i t = h refl
none_inside (c ∷ p) [] h q i t = i
none_inside (c ∷ p) (b ∷ n) h q i t = not_inside q i t

by_one : {c b : ℕ} {p n : List ℕ} → c ≡ question_byte → Fits (c ∷ p) (b ∷ n) → Fits p (beyond n)
by_one q (skip e t) = absurd (omega arith)
by_one q (eat e t) = absurd (omega arith)
by_one q (one e f t) = t
by_one q (byte f e t) = absurd (f.1 q)

star_by_one : {c d b : ℕ} {p n : List ℕ} → c ≡ star_byte → d ≡ question_byte → Fits (c ∷ d ∷ p) (b ∷ n) → Fits (c ∷ p) (beyond n)
star_by_one s q (skip e t) = skip s (by_one q t)
star_by_one s q (eat e t) = star_one s q t
star_by_one s q (one e f t) = absurd (omega arith)
star_by_one s q (byte f e t) = absurd (f.0 s)

took_one : (o : Outcome) (c b : ℕ) (p n : List ℕ) → c ≡ question_byte → Fails (goes_on b) → Says o p (beyond n) → Says o (c ∷ p) (b ∷ n)
took_one Taken c b p n q f t = one q f t
took_one NotHere c b p n q f t = λ u. t (by_one q u)
took_one Nowhere c b p n q f t = λ u. t (star_by_one refl q u)

pub question_says : (o : Outcome) (p n : List ℕ) → Some p → Some n → get_or p 0 0 ≡ question_byte → (Inside n → ⊥) → Says o (drop 1 p) (beyond (drop 1 n)) → Says o p n
question_says o [] n h k q i t = absurd (h refl)
question_says o (c ∷ p) [] h k q i t = absurd (k refl)
question_says o (c ∷ p) (b ∷ n) h k q i t = took_one o c b p n q (begins b i) t

-- at a plain byte
by_byte : {c b : ℕ} {p n : List ℕ} → Holds (plain c) → Fits (c ∷ p) (b ∷ n) → (c ≡ b) × Fits p n
by_byte h (skip e t) = absurd (h.0 e)
by_byte h (eat e t) = absurd (h.0 e)
by_byte h (one e f t) = absurd (h.1 e)
by_byte h (byte f e t) = (e, t)

pub other_byte : (p n : List ℕ) → Some p → Some n → Holds (plain (get_or p 0 0)) → (get_or p 0 0 ≡ get_or n 0 0 → ⊥) → Fits p n → ⊥
other_byte [] n h k l f t = h refl
other_byte (c ∷ p) [] h k l f t = k refl
other_byte (c ∷ p) (b ∷ n) h k l f t = f (by_byte l t).0

took_byte : (o : Outcome) (c b : ℕ) (p n : List ℕ) → Holds (plain c) → c ≡ b → Says o p n → Says o (c ∷ p) (b ∷ n)
took_byte Taken c b p n h e t = byte h e t
took_byte NotHere c b p n h e t = λ u. t (by_byte h u).1
took_byte Nowhere c b p n h e t = λ u. t (star_byte_lem refl h u)

pub byte_says : (o : Outcome) (p n : List ℕ) → Some p → Some n → Holds (plain (get_or p 0 0)) → get_or p 0 0 ≡ get_or n 0 0 → Says o (drop 1 p) (drop 1 n) → Says o p n
byte_says o [] n h k l e t = absurd (h refl)
byte_says o (c ∷ p) [] h k l e t = absurd (k refl)
byte_says o (c ∷ p) (b ∷ n) h k l e t = took_byte o c b p n l e t

-- The steps of `star`.
pub star_here : (p n : List ℕ) → Fits p n → Fits (star_byte ∷ p) n
star_here p n t = skip refl t

-- the pattern takes the name from here in one outcome alone
pub not_taken : (o : Outcome) (p n : List ℕ) → (o ≡ Taken → ⊥) → Says o p n → Fits p n → ⊥
not_taken Taken p n h s f = h refl
not_taken NotHere p n h s f = s f
not_taken Nowhere p n h s f = s (star_here p n f)

-- what `&name[from..]` lends
pub part_from : (from : ℕ) (n : List ℕ) → take (length n - from) (drop from n) ≡ drop from n
part_from from n = take_all (length n - from) (drop from n) (omega (arith, length-drop from n))

-- where a star takes the name, it does so from here or further on
abbrev pub FromHere : List ℕ → List ℕ → ℕ → Type 0
FromHere p n from = Fits (star_byte ∷ p) n → (from ≤ length n) × Fits (star_byte ∷ p) (drop from n)

star_moves : (p n : List ℕ) → (Fits p n → ⊥) → Fits (star_byte ∷ p) n → (1 ≤ length n) × Fits (star_byte ∷ p) (drop 1 n)
star_moves p [] f t = absurd (star_end f t)
star_moves p (b ∷ n) f t = (omega arith, star_on refl f t)

pub not_from_here : (p n : List ℕ) (from : ℕ) → (Fits p (drop from n) → ⊥) → FromHere p n from → FromHere p n (from + 1)
not_from_here p n from f here t =
    let (inside, found) = here t in
    let (some, on) = star_moves p (drop from n) f found in
    (omega (arith, length-drop from n), subst (Fits (star_byte ∷ p)) (drop-drop 1 from n) on)

pub star_from : (p n : List ℕ) (from : ℕ) → Fits (star_byte ∷ p) (drop from n) → Fits (star_byte ∷ p) n
star_from p n zero t = t
star_from p [] (suc from) t = t
star_from p (b ∷ n) (suc from) t = eat refl (star_from p n from t)

pub nowhere_further : (p n : List ℕ) (from : ℕ) → FromHere p n from → (Fits (star_byte ∷ p) (drop from n) → ⊥) → Fits (star_byte ∷ p) n → ⊥
nowhere_further p n from here f t = f (here t).1

pub all_tried : (p n : List ℕ) (from : ℕ) → FromHere p n from → length n < from → Fits (star_byte ∷ p) n → ⊥
all_tried p n from here past t = omega (arith, (here t).0)

-- The steps of `rest`.
pub beyond_on : (n : List ℕ) → Inside n → beyond n ≡ beyond (drop 1 n)
unfolding beyond
beyond_on [] i = absurd i
beyond_on (b ∷ n) i = sym (chosen (goes_on b) (beyond n) (b ∷ n) i refl)

pub beyond_here : (n : List ℕ) → (Inside n → ⊥) → beyond n ≡ n
unfolding beyond
beyond_here [] i = refl
beyond_here (b ∷ n) i = sym (passed_over (goes_on b) (beyond n) (b ∷ n) (begins b i) refl)

-- The steps of `inside`.
pub inside_some : (n : List ℕ) → Inside n → 1 ≤ length n
inside_some [] i = absurd i
inside_some (b ∷ n) i = omega arith
