-- A data packet by its ignored places: 44 bytes, the name's field, four bytes, the options, and the rest. Which datagrams have the packet's
-- bytes outside those places. Assumes nothing.
use Prim.Native.Nat.{ℕ, ◌+◌, ◌-◌, ◌≤◌, ◌<◌}
use mathlib.Core.Path.{◌≡◌, refl, sym, ap, ◌∙◌}
use mathlib.Core.List.{List, [], ◌∷◌, ◌++◌, append_assoc, append-nil}
use native.Mathlib.Omega.{arith}
use lib.ListN.{length, take, drop, get_or, length-append, take-append-drop, get_or-append}
use lib.Seq.{take_at, drop_at, get_or_at, get_or-drop, take-length, take-append-le, drop-drop}
use Rattle.wire.specs.Fields.{join}
use Rattle.wire.proofs.Laws.{drop_more}
use Rattle.refusal.specs.Check.{◌≤?◌}
use Rattle.refusal.proofs.Tests.{decide}
use Rattle.demands.specs.Ignored.{BehindName}
use Rattle.demands.proofs.Segments.{total, cuts, join_cuts, same_cut, same_at}

-- the segments, joined
abbrev pub placed : List ℕ → List ℕ → List ℕ → ℕ → List ℕ → List ℕ
placed front field mid o back = front ++ (field ++ (mid ++ o ∷ back))

drop_two : (s t x : List ℕ) (m n : ℕ) → length s ≡ m → length t ≡ n → drop (m + n) (s ++ (t ++ x)) ≡ x
drop_two s t x m n p q = sym (drop-drop n m (s ++ (t ++ x))) ∙ rw (drop_at s (t ++ x) m p) (drop_at t x n q)

module _ (front field mid back : List ℕ) (o : ℕ) (a : length front ≡ 44) (b : length field ≡ 64) (c : length mid ≡ 4) where
  abbrev packet : List ℕ
  packet = placed front field mid o back

  pub placed_long : length packet ≡ 113 + length back
  placed_long = simp length-append (omega arith)

  placed_front : take 44 packet ≡ front
  placed_front = take_at front (field ++ (mid ++ o ∷ back)) 44 a

  placed_mid : take 4 (drop 108 packet) ≡ mid
  placed_mid = rw (drop_two front field (mid ++ o ∷ back) 44 64 a b) (take_at mid (o ∷ back) 4 c)

  pub placed_back : drop 113 packet ≡ back
  placed_back = sym (drop-drop 5 108 packet) ∙ rw (drop_two front field (mid ++ o ∷ back) 44 64 a b) (drop_two mid (o ∷ []) back 4 1 c refl)

  pub options_at : get_or packet 112 0 ≡ o
  options_at = sym (get_or-drop 108 packet 4 0) ∙ rw (drop_two front field (mid ++ o ∷ back) 44 64 a b) (get_or_at mid o back 0 4 c)

  pub name_part : (n : ℕ) → n ≤ 64 → take n (drop 44 packet) ≡ take n field
  name_part n h =
      let k : n ≤ length field = omega arith in
      rw (drop_at front (field ++ (mid ++ o ∷ back)) 44 a) (take-append-le n field (mid ++ o ∷ back) k)

  pub name_at : (i : ℕ) → i < 64 → get_or packet (44 + i) 0 ≡ get_or field i 0
  name_at i h =
      sym (get_or-drop 44 packet i 0)
      ∙ rw (drop_at front (field ++ (mid ++ o ∷ back)) 44 a) (get_or-append field (mid ++ o ∷ back) 0 i (omega arith))

  -- a datagram that has the packet's bytes outside the ignored places
  pub alike_placed : (n : ℕ) (d : List ℕ) → length packet ≤ length d →
      ((i : ℕ) → i < length packet → (BehindName n i → ⊥) → (i ≡ 112 → ⊥) → get_or d i 0 ≡ get_or packet i 0) →
      d ≡ placed front (take 64 (drop 44 d)) mid (get_or d 112 0) (back ++ drop (113 + length back) d)
  alike_placed n d long same =
      let m = placed_long in
      let k = length back in
      let widths : List ℕ = 44 ∷ 64 ∷ 4 ∷ 1 ∷ k ∷ [] in
      let f0 : take 44 d ≡ front =
      same_cut 0 44 d packet (omega arith) (omega arith) (λ i p q. same i (omega arith) (λ z. omega arith) (omega arith)) ∙ placed_front in
      let f108 : take 4 (drop 108 d) ≡ mid =
      same_cut 108 4 d packet (omega arith) (omega arith) (λ i p q. same i (omega arith) (λ z. omega arith) (omega arith)) ∙ placed_mid in
      let f112 : take 1 (drop 112 d) ≡ get_or d 112 0 ∷ [] = ap (λ (l : List ℕ). take 1 l) (drop_more d 112 (omega arith)) in
      let f113 : take k (drop 113 d) ≡ back =
      same_cut 113 k d packet (omega arith) (omega arith) (λ i p q. same i (omega arith) (λ z. omega arith) (omega arith))
      ∙ ap (λ (l : List ℕ). take k l) placed_back
      ∙ take-length back in
      let segments : cuts 0 widths d ≡ front ∷ take 64 (drop 44 d) ∷ mid ∷ (get_or d 112 0 ∷ []) ∷ back ∷ [] = cc in
      let t : 113 + k ≡ total widths = omega arith in
      sym (take-append-drop (113 + k) d)
      ∙ ap (λ (l : List ℕ). l ++ drop (113 + k) d) (ap (λ (w : ℕ). take w d) t ∙ sym (join_cuts 0 widths d) ∙ ap join segments)
      ∙ simp (append_assoc, append-nil)

-- packets that differ in a name's field behind the name, or in their options
pub placed_same : (front field other mid back : List ℕ) (o u n i : ℕ) → length front ≡ 44 → length field ≡ 64 → length other ≡ 64 → length mid ≡ 4 →
    ((j : ℕ) → j ≤ n → get_or field j 0 ≡ get_or other j 0) → (BehindName n i → ⊥) → (i ≡ 112 → ⊥) →
    get_or (placed front field mid o back) i 0 ≡ get_or (placed front other mid u back) i 0
placed_same front field other mid back o u n i a b c e same out not =
    same_at front front (field ++ (mid ++ o ∷ back)) (other ++ (mid ++ u ∷ back)) i refl (λ h. refl)
    (λ h.
    same_at field other (mid ++ o ∷ back) (mid ++ u ∷ back) (i - length front) (b ∙ sym c)
    (λ g.
    same (i - length front)
    (decide (i ≤? 44 + n) (λ k. omega arith) (λ k. absurd (out (omega arith)))))
    (λ g.
    same_at mid mid (o ∷ back) (u ∷ back) (i - length front - length field) refl (λ k. refl)
    (λ k.
    same_at (o ∷ []) (u ∷ []) back back (i - length front - length field - length mid) refl (λ l. absurd (not (omega arith))) (λ l. refl))))
