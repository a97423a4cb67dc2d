-- A list of bytes as segments: the segments of given widths joined, a field's bytes by the number that is read, and a number's bytes read
-- back. Assumes nothing.
use Prim.Native.Nat.{ℕ, ◌+◌, ◌-◌, ◌*◌, ◌/◌, ◌%◌, ◌≤◌, ◌<◌}
use mathlib.Core.Path.{◌≡◌, refl, sym, ap, ◌∙◌}
use mathlib.Core.List.{List, [], ◌∷◌, ◌++◌}
use native.Mathlib.Nat.{add-zero, add_assoc}
use native.Mathlib.Omega.{arith}
use lib.ListN.{length, take, drop, get_or, length-drop, get_or-append}
use lib.Seq.{take-add, get_or-take, get_or-drop, drop-drop, length-take-le, ext_get_or, get_or-append-add}
use Rattle.wire.specs.Bytes.{Bytes}
use Rattle.wire.proofs.Bytes.{bytes_drop}
use Rattle.wire.specs.Fields.{byte_at, u16_at, u32_at, be16, be32, join}
use Rattle.refusal.specs.Check.{◌≤?◌}
use Rattle.refusal.proofs.Tests.{decide}
use Rattle.pdu.specs.Head.{flags_of, length_of, flags_field}

-- the segments of these widths from place i on, and joined
abbrev pub total : List ℕ → ℕ
total [] = 0
total (w ∷ ws) = w + total ws

abbrev pub cuts : ℕ → List ℕ → List ℕ → List (List ℕ)
cuts i [] l = []
cuts i (w ∷ ws) l = take w (drop i l) ∷ cuts (i + w) ws l

pub join_cuts : (i : ℕ) (ws l : List ℕ) → join (cuts i ws l) ≡ take (total ws) (drop i l)
join_cuts i [] l = refl
join_cuts i (w ∷ ws) l = rw (take-add, drop-drop, join_cuts (i + w) ws l)

-- the first byte, the first two, the first four
byte_first : (l : List ℕ) (v : ℕ) → 1 ≤ length l → byte_at l 0 ≡ v → take 1 l ≡ v ∷ []
byte_first [] v h e = absurd (omega arith)
byte_first (x ∷ l) v h e = ap (λ (k : ℕ). k ∷ []) e

u16_first : (l : List ℕ) (v : ℕ) → 2 ≤ length l → Bytes l → u16_at l 0 ≡ v → take 2 l ≡ be16 v
unfolding u16_at
u16_first [] v h b e = absurd (omega arith)
u16_first (x ∷ []) v h b e = absurd (omega arith)
u16_first (x ∷ y ∷ l) v h b e =
    let p : x ≡ v / 0x100 % 0x100 = omega (arith, b 0, b 1) in
    let q : y ≡ v % 0x100 = omega (arith, b 0, b 1) in
    cc

u32_first : (l : List ℕ) (v : ℕ) → 4 ≤ length l → Bytes l → u32_at l 0 ≡ v → take 4 l ≡ be32 v
unfolding u16_at u32_at
u32_first [] v h b e = absurd (omega arith)
u32_first (x ∷ []) v h b e = absurd (omega arith)
u32_first (x ∷ y ∷ []) v h b e = absurd (omega arith)
u32_first (x ∷ y ∷ z ∷ []) v h b e = absurd (omega arith)
u32_first (x ∷ y ∷ z ∷ w ∷ l) v h b e =
    let p : x ≡ v / 0x10000 / 0x100 % 0x100 = omega (arith, b 0, b 1, b 2, b 3) in
    let q : y ≡ v / 0x10000 % 0x100 = omega (arith, b 0, b 1, b 2, b 3) in
    let r : z ≡ v % 0x10000 / 0x100 % 0x100 = omega (arith, b 0, b 1, b 2, b 3) in
    let s : w ≡ v % 0x10000 % 0x100 = omega (arith, b 0, b 1, b 2, b 3) in
    cc

-- the same at a place: the bytes of a field from which v is read
module _ (l : List ℕ) (b : Bytes l) (i v : ℕ) where
  pub field8 : i + 1 ≤ length l → byte_at l i ≡ v → take 1 (drop i l) ≡ v ∷ []
  field8 h e = byte_first (drop i l) v (simp length-drop (omega arith)) (simp (get_or-drop, add-zero) e)

  pub field16 : i + 2 ≤ length l → u16_at l i ≡ v → take 2 (drop i l) ≡ be16 v
  unfolding u16_at
  field16 h e = u16_first (drop i l) v (simp length-drop (omega arith)) (bytes_drop i l b) (simp (get_or-drop, add-zero) e)

  pub field32 : i + 4 ≤ length l → u32_at l i ≡ v → take 4 (drop i l) ≡ be32 v
  unfolding u16_at u32_at
  field32 h e = u32_first (drop i l) v (simp length-drop (omega arith)) (bytes_drop i l b) (simp (get_or-drop, add-zero) (simp add_assoc at e))

-- fields of a list's front and of its rest
pub u32_drop : (k : ℕ) (s : List ℕ) (at : ℕ) → u32_at (drop k s) at ≡ u32_at s (k + at)
unfolding u16_at u32_at
u32_drop k s at = simp (get_or-drop, add_assoc)

-- a number's bytes, read back
pub be16_back : (n : ℕ) → n < 0x10000 → n / 0x100 % 0x100 * 0x100 + n % 0x100 ≡ n
be16_back n h = omega arith

-- a layer's first two bytes, from its flags and its length
pub flags_back : (p : List ℕ) → Bytes p → flags_of p ≡ 0x70 → u16_at p 0 ≡ flags_field (length_of p)
unfolding u16_at
flags_back p b h = omega (arith, b 0, b 1)

-- a segment's bytes, by their place in the list
pub cut_at : (i w : ℕ) (l : List ℕ) (k : ℕ) → k < w → get_or (take w (drop i l)) k 0 ≡ get_or l (i + k) 0
cut_at i w l k h = get_or-take w (drop i l) k 0 h ∙ get_or-drop i l k 0

-- two lists that agree at the places of a segment have the same segment there
pub same_cut : (i w : ℕ) (l m : List ℕ) → i + w ≤ length l → i + w ≤ length m →
    ((k : ℕ) → i ≤ k → k < i + w → get_or l k 0 ≡ get_or m k 0) → take w (drop i l) ≡ take w (drop i m)
same_cut i w l m h g e =
    let p : length (take w (drop i l)) ≡ w = length-take-le w (drop i l) (simp length-drop (omega arith)) in
    let q : length (take w (drop i m)) ≡ w = length-take-le w (drop i m) (simp length-drop (omega arith)) in
    ext_get_or 0 (take w (drop i l)) (take w (drop i m)) (p ∙ sym q)
    (λ k r.
    let t : k < w = omega arith in
    cut_at i w l k t ∙ e (i + k) (omega arith) (omega arith) ∙ sym (cut_at i w m k t))

-- and what starts with one segment or another agrees where these do, or what follows them does
pub same_at : (s t x y : List ℕ) (i : ℕ) → length s ≡ length t → (i < length s → get_or s i 0 ≡ get_or t i 0) →
    (length s ≤ i → get_or x (i - length s) 0 ≡ get_or y (i - length s) 0) → get_or (s ++ x) i 0 ≡ get_or (t ++ y) i 0
same_at s t x y i e f g =
    decide (length s ≤? i)
    (λ h.
    let p : i ≡ length s + (i - length s) = omega arith in
    let q : i ≡ length t + (i - length s) = omega arith in
    ap (λ (k : ℕ). get_or (s ++ x) k 0) p ∙ get_or-append-add s x (i - length s) 0 ∙ g h
    ∙ sym (ap (λ (k : ℕ). get_or (t ++ y) k 0) q ∙ get_or-append-add t y (i - length s) 0))
    (λ h.
    let q : i < length t = omega arith in
    get_or-append s x 0 i h ∙ f h ∙ sym (get_or-append t y 0 i q))
