-- Laws of fields and runs: what lies past the end, and writes that follow one another. Assumes nothing.
use Rattle.std.proofs.Common.{ℕ, zero, suc, ◌+◌, ◌-◌, ◌≤◌, ◌<◌, min, ◌≡◌, refl, sym, ap, ◌∙◌, List, [], ◌∷◌, ◌++◌, length, take, drop, get_or, set, replicate, w32, rules, arith, append_assoc, append-nil, add-zero, zero-add, add-suc, suc-add, add-one, length-drop, length-set, drop_of_length-le, drop-drop, take-suc, take_all, length-take-le, drop-cons, get_or-drop}
use Rattle.std.proofs.Math.ListN.{get_or-eq_default}
use Rattle.std.proofs.Math.Seq.{set_out, take-length}
use Rattle.std.proofs.lemmas.List.Edits.{sets, sets-eq}
use Rattle.refusal.specs.Check.{◌≤?◌}
use Rattle.refusal.proofs.Tests.{decide}
use Rattle.std.specs.Int.{to_be_bytes}
use Rattle.wire.specs.Fields.{byte_at, u16_at, u32_at, be32}

-- Fields past the end are zero.
byte_past : (s : List ℕ) {at : ℕ} (k : ℕ) → length s ≤ at → byte_at s (at + k) ≡ 0
byte_past s k h = get_or-eq_default s 0 (omega arith)

pub u16_past : (s : List ℕ) {at : ℕ} → length s ≤ at → u16_at s at ≡ 0
unfolding u16_at
u16_past s {at} h = omega (arith, get_or-eq_default s 0 h, byte_past s 1 h)

pub u32_past : (s : List ℕ) {at : ℕ} → length s ≤ at → u32_at s at ≡ 0
unfolding u32_at
u32_past s {at} h = omega (arith, u16_past s h, u16_past s {at = at + 2} (omega arith))

-- A field of a list's rest is a field of the list.
pub u16_drop : (k : ℕ) (s : List ℕ) (at : ℕ) → u16_at (drop k s) at ≡ u16_at s (k + at)
unfolding u16_at
u16_drop k s at =
    let e : k + (at + 1) ≡ k + at + 1 = omega arith in
    rw (get_or-drop, get_or-drop, e)

-- One byte more of what is left.
pub drop_more : (s : List ℕ) (i : ℕ) → i < length s → drop i s ≡ get_or s i 0 ∷ drop (i + 1) s
drop_more s i h = rw (add-one i, drop-cons s i 0 h)

-- A run up to the end, as `&s[k..]` has it.
pub rest : (s : List ℕ) (k : ℕ) → take (length s - k) (drop k s) ≡ drop k s
rest s k = take_all (length s - k) (drop k s) (omega (arith, length-drop k s))

-- A front that is cut where the list ends, as `&s[0..least(s.len(), n)]` has it.
pub take_least : (s : List ℕ) (n : ℕ) → take (min (length s) n) s ≡ take n s
take_least s n =
    decide (n ≤? length s) (λ h. let e : min (length s) n ≡ n = omega arith in rw e)
    (λ f. let e : min (length s) n ≡ length s = omega arith in rw e (take-length s ∙ sym (take_all n s (omega arith))))

-- Writing vs at i and then ws where vs ended is writing both, with no condition: past the end nothing is written.
pub sets_append : (vs ws l : List ℕ) (i : ℕ) → sets l i (vs ++ ws) ≡ sets (sets l i vs) (i + length vs) ws
sets_append [] ws l i = rw add-zero
sets_append (v ∷ vs) ws l i = sets_append vs ws (set l i v) (suc i) ∙ rw (add-suc, suc-add)

-- a segment of n bytes, and another where it ended
pub sets_then : (vs ws l : List ℕ) (at n : ℕ) → length vs ≡ n → sets l at (vs ++ ws) ≡ sets (sets l at vs) (at + n) ws
sets_then vs ws l at n e = sets_append vs ws l at ∙ rw e

pub sets_past : (vs l : List ℕ) (i : ℕ) → length l ≤ i → sets l i vs ≡ l
sets_past [] l i h = refl
sets_past (v ∷ vs) l i h = rw (set_out l i v h) (sets_past vs l (suc i) (omega arith))

-- One byte more of a copy.
pub sets_more : (s l : List ℕ) (i j : ℕ) → j < length s → sets l i (take (j + 1) s) ≡ set (sets l i (take j s)) (i + j) (get_or s j 0)
sets_more s l i j h =
    let k : j ≤ length s = omega arith in
    rw (add-one, take-suc s j 0, sets_append, length-take-le)

-- n bytes at the front are the front, and what comes after them is as it was.
pub sets_front : (vs l : List ℕ) (n : ℕ) → length vs ≡ n → n ≤ length l → sets l 0 vs ≡ vs ++ drop n l
sets_front vs l n e h = sets-eq vs l 0 (omega arith) ∙ rw (zero-add, e)

-- What does not fit is not written.
pub sets_take : (vs l : List ℕ) (i n : ℕ) → min (length vs) (length l - i) ≤ n → sets l i (take n vs) ≡ sets l i vs
sets_take [] l i zero h = refl
sets_take [] l i (suc n) h = refl
sets_take (v ∷ vs) l i zero h = sym (sets_past (v ∷ vs) l i (omega arith))
sets_take (v ∷ vs) l i (suc n) h = sets_take vs (set l i v) (suc i) n (simp length-set (omega arith))

-- A run's front copied into the part that has room for it, as `buf[i..i + n].copy_from_slice(&vs[..n])` leaves the whole.
pub copied_part : (vs l : List ℕ) (i k n : ℕ) {m : List ℕ} → m ≡ take n vs → k ≡ n → i ≤ length l → n ≡ min (length vs) (length l - i) → take i l ++ (m ++ drop k (drop i l)) ≡ sets l i vs
copied_part vs l i k n e same h least =
    let size : length (take n vs) ≡ n = length-take-le n vs (omega arith) in
    let after : drop (i + n) l ≡ drop (i + length (take n vs)) l = rw size in
    rw (e, same, drop-drop, after, ← append_assoc) (sym (sets-eq (take n vs) l i (omega arith)) ∙ sets_take vs l i n (omega arith))

-- A run written from a place on leaves what stands before it, and is written at the front of the rest.
sets_cons : (vs l : List ℕ) (x i : ℕ) → sets (x ∷ l) (suc i) vs ≡ x ∷ sets l i vs
sets_cons [] l x i = refl
sets_cons (v ∷ vs) l x i = sets_cons vs (set l i v) x (suc i)

sets_none : (vs : List ℕ) (i : ℕ) → sets [] i vs ≡ []
sets_none vs i = sets_past vs [] i (omega arith)

pub sets_part : (vs l : List ℕ) (i : ℕ) → take i l ++ sets (drop i l) 0 vs ≡ sets l i vs
sets_part vs l zero = refl
sets_part vs [] (suc i) = sets_none vs 0 ∙ sym (sets_none vs (suc i))
sets_part vs (x ∷ l) (suc i) = ap (λ (m : List ℕ). x ∷ m) (sets_part vs l i) ∙ sym (sets_cons vs l x i)

-- The whole of a buffer of which the part from a place on was lent, and came back with vs at its front.
pub lent_rest : (vs l : List ℕ) (i : ℕ) {m : List ℕ} → m ≡ sets (take (length l - i) (drop i l)) 0 vs → take i l ++ (m ++ drop (length l - i) (drop i l)) ≡ sets l i vs
lent_rest vs l i e =
    let k : length (drop i l) ≤ length l - i = omega (arith, length-drop i l) in
    rw (e, rest l i, drop_of_length-le (drop i l) k, append-nil) (sets_part vs l i)

pub take_zeros : (k n : ℕ) → k ≤ n → take k (replicate {A = ℕ} n 0) ≡ replicate k 0
take_zeros zero n h = refl
take_zeros (suc k) zero h = absurd (omega arith)
take_zeros (suc k) (suc n) h = ap (λ (l : List ℕ). 0 ∷ l) (take_zeros k n (omega arith))

-- The bytes of a number, as `to_be_bytes` of std has them.
pub be32_bytes : (n : ℕ) → to_be_bytes w32 n ≡ be32 n
be32_bytes n = search rules
