-- UTF-8 from the code points' side: the bytes of each, and text as a run of them.
use Rattle.std.specs.Prelude.{ℕ, ◌+◌, ◌/◌, ◌%◌, ◌≤◌, ◌<◌, List, [], ◌∷◌, ◌++◌, length, take}
use Rattle.refusal.specs.Check.{Test, ◌≤?◌, ◌and◌, ◌or◌, choose}
use Rattle.refusal.proofs.Tests.{Holds}

-- U+0000..U+10FFFF less the surrogates
abbrev pub scalar : ℕ → Test
scalar c = c ≤? 0xd7ff or 0xe000 ≤? c and c ≤? 0x10ffff

-- the six bits of c that stand `unit` apart, in a byte of 80..bf
abbrev pub six : ℕ → ℕ → ℕ
six c unit = 0x80 + c / unit % 0x40

unfoldable pub encode : ℕ → List ℕ
encode c =
    choose (c ≤? 0x7f) (c ∷ [])
    (choose (c ≤? 0x7ff) ((0xc0 + c / 0x40) ∷ six c 1 ∷ [])
    (choose (c ≤? 0xffff) ((0xe0 + c / 0x1000) ∷ six c 0x40 ∷ six c 1 ∷ [])
    ((0xf0 + c / 0x40000) ∷ six c 0x1000 ∷ six c 0x40 ∷ six c 1 ∷ [])))

-- the bytes of some code points, one after the other
pub data Encoded : List ℕ → Type 0 where
  none : Encoded []
  more : (c : ℕ) {s : List ℕ} → Holds (scalar c) → Encoded s → Encoded (encode c ++ s)

-- n bytes are the longest front of s that is such a run
pub record LongestFront (s : List ℕ) (n : ℕ) : Type 0 where
  pub within : n ≤ length s
  pub whole : Encoded (take n s)
  pub longest : (k : ℕ) → k ≤ length s → Encoded (take k s) → k ≤ n

-- what 7 and 23 tell of a name: how many of its leading bytes are good, which are never all
abbrev pub GoodBytes : List ℕ → ℕ → Type 0
GoodBytes name n = LongestFront name n × (n < length name)
