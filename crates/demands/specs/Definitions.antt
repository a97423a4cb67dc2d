-- In which form demand 2 says writing, range and address: the cases of each, and what is answered in them.
use Rattle.std.specs.Prelude.{ℕ, ◌≤◌, ◌≡◌, List, ◌++◌, ◌⊎◌, drop, Ok, Err}
use Rattle.refusal.specs.Check.{Numbered}
use Rattle.refusal.proofs.Laws.{All, Stops, refusal_at}
use Rattle.pack.specs.Writing.{packed_of, after_pack}

-- A write by its checks, the packet's length, its bytes and the buffer: all checks hold, the answer is the length, and the bytes stand in front of
-- what stood behind; or check k is the first to fail, the answer is its refusal, and the buffer is as found.
abbrev pub Writes : List Numbered → ℕ → List ℕ → List ℕ → Type 0
Writes cs n bytes buf =
    let r = packed_of cs n in
    (All cs × (r ≡ Ok n) × (after_pack r bytes buf ≡ bytes ++ drop n buf))
    ⊎ ((k : ℕ) × Stops k cs × (r ≡ Err (refusal_at k cs)) × (after_pack r bytes buf ≡ buf))

-- 1..63999, and 64214
abbrev pub InRange : ℕ → Type 0
InRange u = ((1 ≤ u) × (u ≤ 63999)) ⊎ (u ≡ 64214)

-- an answer that is one in the range, and another out of it
abbrev pub ByRange : {A : Type 0} → ℕ → A → A → A → Type 0
ByRange u answer inside outside = (InRange u × (answer ≡ inside)) ⊎ ((InRange u → ⊥) × (answer ≡ outside))
