-- Fields that hold a name: 64 bytes that start with the name's and a zero. Assumes nothing.
use Prim.Native.Nat.{ℕ, zero, suc, ◌+◌, ◌-◌, ◌≤◌, ◌<◌}
use mathlib.Core.Path.{◌≡◌, refl, sym, ap, ◌∙◌}
use mathlib.Core.List.{List, [], ◌∷◌, ◌++◌}
use native.Mathlib.Omega.{arith}
use lib.ListN.{length, take, drop, get_or, replicate, take-append-drop}
use lib.Seq.{take_at, get_or-take, get_or_at, length-take-le, ext_get_or}
use Rattle.refusal.specs.Check.{◌≤?◌, ◌=?◌, choose}
use Rattle.refusal.proofs.Tests.{decide, chosen, passed_over}
use Rattle.refusal.proofs.Laws.{All}
use Rattle.wire.proofs.Laws.{drop_more}
use Rattle.name.specs.Name.{zero_at, text_of, source_name_checks, name_bytes}
use Rattle.name.proofs.Laws.{zero_within, zero_after, text_length, bytes_filled, bytes_64}
use Rattle.demands.specs.Limits.{ReadableName}

pub record Named (field name : List ℕ) : Type 0 where
  pub size : length field ≡ 64
  pub short : length name ≤ 63
  pub text : take (length name) field ≡ name
  pub stop : get_or field (length name) 0 ≡ 0

-- the first zero of a list that has one
pub zero_is : (s : List ℕ) → zero_at s < length s → get_or s (zero_at s) 0 ≡ 0
unfolding zero_at
zero_is [] h = absurd (omega arith)
zero_is (b ∷ s) h =
    decide (b =? 0) (λ e. ap (λ (k : ℕ). get_or (b ∷ s) k 0) (sym (chosen (b =? 0) 0 (suc (zero_at s)) e refl)) ∙ e)
    (λ f.
    let p : suc (zero_at s) ≡ choose (b =? 0) 0 (suc (zero_at s)) = passed_over (b =? 0) 0 (suc (zero_at s)) f refl in
    ap (λ (k : ℕ). get_or (b ∷ s) k 0) (sym p) ∙ zero_is s (omega arith))

-- and no byte before it is one
pub before_zero : (s : List ℕ) (i : ℕ) → i < zero_at s → get_or s i 0 ≡ 0 → ⊥
unfolding zero_at
before_zero [] i h e = omega arith
before_zero (b ∷ s) zero h e = omega (arith, chosen (b =? 0) 0 (suc (zero_at s)) e refl)
before_zero (b ∷ s) (suc i) h e =
    decide (b =? 0) (λ z. omega (arith, chosen (b =? 0) 0 (suc (zero_at s)) z refl))
    (λ f. before_zero s i (omega (arith, passed_over (b =? 0) 0 (suc (zero_at s)) f refl)) e)

-- a name as it is written
pub named_written : (name : List ℕ) → length name ≤ 63 → Named (name_bytes name) name
named_written name h =
    let k : 64 - length name ≡ suc (63 - length name) = omega arith in
    let e : name_bytes name ≡ name ++ 0 ∷ replicate (63 - length name) 0 = bytes_filled name (omega arith) ∙ rw k in
    record {
      size = bytes_64 name;
      short = h;
      text = rw e (take_at name (0 ∷ replicate (63 - length name) 0) (length name) refl);
      stop = rw e (get_or_at name 0 (replicate (63 - length name) 0) 0 (length name) refl);
    }

-- any field that has the same bytes up to the zero
pub named_alike : (field name : List ℕ) → length field ≡ 64 → length name ≤ 63 →
    ((i : ℕ) → i ≤ length name → get_or field i 0 ≡ get_or (name_bytes name) i 0) → Named field name
named_alike field name n h e =
    let w = named_written name h in
    let long : length name ≤ length field = omega arith in
    let p : length (take (length name) field) ≡ length name = length-take-le (length name) field long in
    let front : take (length name) field ≡ name =
    ext_get_or 0 (take (length name) field) name p
    (λ i q.
    let r : i < length name = omega arith in
    get_or-take (length name) field i 0 r ∙ e i (omega arith) ∙ sym (get_or-take (length name) (name_bytes name) i 0 r)
    ∙ ap (λ (l : List ℕ). get_or l i 0) w.text) in
    record { size = n; short = h; text = front; stop = e (length name) (omega arith) ∙ w.stop }

-- fields that hold one name agree up to the zero
pub named_same : (field other name : List ℕ) → Named field name → Named other name → (i : ℕ) → i ≤ length name → get_or field i 0 ≡ get_or other i 0
named_same field other name a b i h =
    decide (length name ≤? i)
    (λ g. let e : i ≡ length name = omega arith in rw e (a.stop ∙ sym b.stop))
    (λ g.
    sym (get_or-take (length name) field i 0 g) ∙ ap (λ (l : List ℕ). get_or l i 0) (a.text ∙ sym b.text) ∙ get_or-take (length name) other i 0 g)

-- a readable name's end is found, and its field is accepted
module _ (field name : List ℕ) (readable : ReadableName name) (h : Named field name) where
  pub named_ends : zero_at field ≡ length name
  named_ends =
      let z : zero_at name ≡ length name = omega (arith, zero_within name) in
      let s : length name < length field = omega arith in
      let e : field ≡ name ++ 0 ∷ drop (length name + 1) field =
      sym (take-append-drop (length name) field) ∙ rw (h.text, drop_more field (length name) s, h.stop) in
      rw e (zero_after name (drop (length name + 1) field) z)

  pub named_text : text_of field ≡ name
  named_text = rw named_ends h.text

  pub named_checks : All (source_name_checks field)
  named_checks =
      let z = named_ends in
      (omega arith, (rw named_text readable.1.1.0, tt))

-- and an accepted field holds the name that is read
pub named_found : (field name : List ℕ) → length field ≡ 64 → All (source_name_checks field) → text_of field ≡ name → Named field name
named_found field name n h e =
    let z : zero_at field ≡ length name = sym (text_length field) ∙ ap length e in
    record { size = n; short = omega arith; text = rw (← z) e; stop = rw (← z) (zero_is field (omega arith)) }
