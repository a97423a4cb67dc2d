-- Lists that agree outside a run: a front, a run that may differ, a back, and what follows. Assumes nothing.
use Prim.Native.Nat.{ℕ, ◌+◌, ◌-◌, ◌≤◌, ◌<◌}
use mathlib.Core.Path.{◌≡◌, refl, sym, ap, ◌∙◌}
use mathlib.Core.List.{List, ◌++◌}
use native.Mathlib.Omega.{arith}
use lib.ListN.{length, take, drop, get_or, length-append, take-append-drop}
use lib.Seq.{take_at, drop_at, take_all, drop-drop}
use Rattle.demands.proofs.Segments.{same_cut, same_at}

module _ (front run back : List ℕ) (n k m : ℕ) (fronted : length front ≡ n) (running : length run ≡ k) (backed : length back ≡ m) where
  abbrev whole : List ℕ
  whole = front ++ (run ++ back)

  -- with another run of its length a list agrees outside it
  pub agrees : (other : List ℕ) → length other ≡ k → (i : ℕ) → (n ≤ i → i < n + k → ⊥) → get_or (front ++ (other ++ back)) i 0 ≡ get_or whole i 0
  agrees other e i outside =
      same_at front front (other ++ back) (run ++ back) i refl (λ h. refl)
      (λ h. same_at other run back back (i - length front) (e ∙ sym running) (λ g. absurd (outside (omega arith) (omega arith))) (λ g. refl))

  -- and a list that agrees outside the run is the front, a run of its length, the back, and what follows
  pub variant : (d : List ℕ) → n + k + m ≤ length d → ((i : ℕ) → i < n + k + m → (n ≤ i → i < n + k → ⊥) → get_or d i 0 ≡ get_or whole i 0) →
      d ≡ front ++ (take k (drop n d) ++ (back ++ drop (n + k + m) d))
  variant d long same =
      let long-whole : length whole ≡ n + k + m = simp length-append (omega arith) in
      let first : take n d ≡ front =
      same_cut 0 n d whole (omega arith) (omega arith) (λ i a c. same i (omega arith) (λ x y. omega arith)) ∙ take_at front (run ++ back) n fronted in
      let back_is : drop (n + k) whole ≡ back =
      sym (drop-drop k n whole) ∙ ap (λ (t : List ℕ). drop k t) (drop_at front (run ++ back) n fronted) ∙ drop_at run back k running in
      let last : take m (drop (n + k) d) ≡ back =
      same_cut (n + k) m d whole long (omega arith) (λ i a c. same i c (λ x y. omega arith))
      ∙ ap (λ (t : List ℕ). take m t) back_is
      ∙ take_all m back (omega arith) in
      let tail : drop (n + k) d ≡ back ++ drop (n + k + m) d = sym (take-append-drop m (drop (n + k) d)) ∙ rw (last, drop-drop m (n + k) d) in
      let rest : drop n d ≡ take k (drop n d) ++ (back ++ drop (n + k + m) d) =
      sym (take-append-drop k (drop n d)) ∙ ap (λ (t : List ℕ). take k (drop n d) ++ t) (drop-drop k n d ∙ tail) in
      sym (take-append-drop n d) ∙ rw first (ap (λ (t : List ℕ). front ++ t) rest)
