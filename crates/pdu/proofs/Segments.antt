-- Layers that are written segment by segment. Assumes nothing.
use Prim.Native.Nat.{ℕ, ◌+◌}
use mathlib.Core.Path.{◌≡◌, ◌∙◌}
use mathlib.Core.List.{List, ◌++◌}
use native.Mathlib.Omega.{arith}
use lib.ListN.{length}
use lib.Seq.{sets}
use Rattle.wire.proofs.Laws.{sets_then}

-- a start of 6 bytes, a name of 64, k bytes of fields, and an inner layer behind them
pub four_segments : (l : List ℕ) (at : ℕ) (head name fields layer : List ℕ) (k : ℕ) → length head ≡ 6 → length name ≡ 64 → length fields ≡ k →
    sets l at (head ++ (name ++ (fields ++ layer)))
    ≡ sets (sets (sets (sets l at head) (at + 6) name) (at + 70) fields) (at + 70 + k) layer
four_segments l at head name fields layer k p q r =
    let e : at + 6 + 64 ≡ at + 70 = omega arith in
    sets_then head (name ++ (fields ++ layer)) l at 6 p
    ∙ sets_then name (fields ++ layer) (sets l at head) (at + 6) 64 q
    ∙ rw e (sets_then fields layer (sets (sets l at head) (at + 6) name) (at + 70) k r)
