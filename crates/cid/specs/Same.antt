-- CIDs are compared byte for byte.
use Rattle.std.specs.Prelude.{ℕ, List, [], ◌∷◌}
use Rattle.refusal.specs.Check.{Test, ◌≤?◌, ◌=?◌, ◌and◌}

unfoldable pub same_cid : List ℕ → List ℕ → Test
same_cid [] [] = 0 ≤? 0
same_cid [] (y ∷ ys) = 1 ≤? 0
same_cid (x ∷ xs) [] = 1 ≤? 0
same_cid (x ∷ xs) (y ∷ ys) = x =? y and same_cid xs ys
