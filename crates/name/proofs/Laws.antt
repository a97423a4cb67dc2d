-- Laws that the loops and the answers go by. Assumes nothing.
use Prim.Native.Nat.{ℕ, zero, suc, ◌+◌, ◌-◌, ◌≤◌, ◌<◌}
use mathlib.Core.Path.{◌≡◌, refl, sym, ap, ◌∙◌}
use mathlib.Core.List.{List, [], ◌∷◌, ◌++◌, append-nil}
use native.Mathlib.Nat.{sub-zero}
use native.Mathlib.Omega.{arith}
use lib.ListN.{length, take, drop, get_or, replicate, drop_of_length-le, length-append, length-replicate}
use lib.Seq.{sets, length-take-le, take-append-le, take-append-add, take-take}
use Rattle.refusal.specs.Check.{◌=?◌, ◌≤?◌}
use Rattle.refusal.proofs.Tests.{chosen, passed_over, choice, decide}
use Rattle.wire.proofs.Laws.{drop_more, take_zeros, sets_take, sets_front}
use Rattle.name.specs.Utf8.{lead_of, step, marked, reach}
use Rattle.name.specs.Name.{name_field, zero_at, text_of, source_name_of, name_bytes}
use Rattle.name.specs.declared.utf8.Expect.{Expect}
use Rattle.std.specs.Prelude.{Result}
use Rattle.refusal.specs.declared.Refusal.{Refusal}
use Rattle.name.proofs.Choices.{Choices, row, rows, otherwise}

-- the table of first bytes, with the rows e1..ec and ee..ef as 3 and 4
unfoldable pub lead_table : (b : ℕ) → Choices (lead_of b)
unfolding lead_of
lead_table b = row _ _ (row _ _ (row _ _ (rows _ _ _ (row _ _ (row _ _ (row _ _ (row _ _ (otherwise _))))))))

-- What is left of a list from the place i on.
module _ (s : List ℕ) (i : ℕ) where
  pub reach_more : (e : Expect) (whole : ℕ) → i < length s →
      reach (step e (get_or s i 0)) (marked (step e (get_or s i 0)) (i + 1) whole) (i + 1) (drop (i + 1) s) ≡ reach e whole i (drop i s)
  unfolding reach
  reach_more e whole h = rw (drop_more s i h)

  pub reach_end : (e : Expect) (whole : ℕ) → length s ≤ i → reach e whole i (drop i s) ≡ whole
  unfolding reach
  reach_end e whole h = rw (drop_of_length-le s h)

-- The first zero of a list is in it, and one that is put behind a name without a zero is the first.
pub zero_within : (s : List ℕ) → zero_at s ≤ length s
unfolding zero_at
zero_within [] = omega arith
zero_within (b ∷ s) =
    let h : zero_at s ≤ length s = zero_within s in
    choice (λ (n : ℕ). n ≤ suc (length s)) (b =? 0) 0 (suc (zero_at s)) (λ e. omega arith) (λ f. omega arith)

pub text_length : (field : List ℕ) → length (text_of field) ≡ zero_at field
text_length field = length-take-le (zero_at field) field (zero_within field)

pub zero_after : (name rest : List ℕ) → zero_at name ≡ length name → zero_at (name ++ 0 ∷ rest) ≡ length name
unfolding zero_at
zero_after [] rest e = sym (chosen (0 =? 0) 0 (suc (zero_at rest)) refl refl)
zero_after (b ∷ name) rest e =
    decide (b =? 0) (λ h. absurd (omega (arith, chosen (b =? 0) 0 (suc (zero_at name)) h refl)))
    (λ f. sym (passed_over _ _ _ f (ap suc (sym (zero_after name rest (omega (arith, passed_over (b =? 0) 0 (suc (zero_at name)) f refl)))))))

-- The field of a layer's part has no more than 64 bytes: x is what was found in it, and known to be y.
pub name_found : (p : List ℕ) {x : Result ℕ Refusal} → x ≡ source_name_of (take 64 (name_field p)) → x ≡ source_name_of (name_field p)
name_found p e = e ∙ ap source_name_of (take-take 64 64 (drop 6 p) (omega arith))

-- A name as it is written: cut at 64 bytes, or followed by zeros up to them.
pub bytes_cut : (name : List ℕ) → 64 ≤ length name → name_bytes name ≡ take 64 name
unfolding name_bytes
bytes_cut name h = take-append-le 64 name (replicate 64 0) h

pub bytes_filled : (name : List ℕ) → length name ≤ 64 → name_bytes name ≡ name ++ replicate (64 - length name) 0
unfolding name_bytes
bytes_filled name h =
    let e : 64 ≡ length name + (64 - length name) = omega arith in
    ap (λ (n : ℕ). take n (name ++ replicate 64 0)) e
    ∙ take-append-add name (replicate 64 0) (64 - length name)
    ∙ ap (λ (zs : List ℕ). name ++ zs) (take_zeros (64 - length name) 64 (omega arith))

zeros_left : (n m : ℕ) → n ≤ m → drop n (replicate {A = ℕ} m 0) ≡ replicate (m - n) 0
zeros_left zero m h = rw sub-zero
zeros_left (suc n) zero h = absurd (omega arith)
zeros_left (suc n) (suc m) h =
    let e : m - n ≡ suc m - suc n = omega arith in
    zeros_left n m (omega arith) ∙ ap (λ (k : ℕ). replicate k 0) e

-- a name copied over a field of zeros
pub bytes_field : (name : List ℕ) → sets (replicate 64 0) 0 name ≡ name_bytes name
bytes_field name =
    decide (length name ≤? 64)
    (λ h. sets_front name (replicate 64 0) (length name) refl h ∙ ap (λ (zs : List ℕ). name ++ zs) (zeros_left (length name) 64 h) ∙ sym (bytes_filled name h))
    (λ f. let k : 64 ≤ length name = omega arith in
    sym (sets_take name (replicate 64 0) 0 64 (omega arith)) ∙ sets_front (take 64 name) (replicate 64 0) 64 (length-take-le 64 name k) (omega arith)
    ∙ append-nil (take 64 name) ∙ sym (bytes_cut name k))

pub bytes_64 : (name : List ℕ) → length (name_bytes name) ≡ 64
unfolding name_bytes
bytes_64 name = length-take-le 64 (name ++ replicate 64 0) (simp (length-append, length-replicate) (omega arith))
