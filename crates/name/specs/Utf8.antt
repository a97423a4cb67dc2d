-- Well-formed UTF-8, a byte at a time.
use Rattle.std.specs.Prelude.{ℕ, ◌+◌, ◌-◌, List, [], ◌∷◌, length}
use Rattle.refusal.specs.Check.{Test, ◌≤?◌, ◌=?◌, ◌and◌, ◌or◌, choose}
use Rattle.name.specs.declared.utf8.Expect.{Expect}
use Rattle.name.specs.declared.utf8.Expect.TheVariants.{Lead, Trail, Malformed}

abbrev pub within : ℕ → ℕ → ℕ → Test
within low high b = low ≤? b and b ≤? high

-- the ranges of the first byte decide what may follow: a byte in a range, and so many more of 80..bf
unfoldable pub lead_of : ℕ → Expect
lead_of b =
    choose (within 0x00 0x7f b) Lead
    (choose (within 0xc2 0xdf b) (Trail 0x80 0xbf 0)
    (choose (within 0xe0 0xe0 b) (Trail 0xa0 0xbf 1)
    (choose (within 0xe1 0xec b or within 0xee 0xef b) (Trail 0x80 0xbf 1)
    (choose (within 0xed 0xed b) (Trail 0x80 0x9f 1)
    (choose (within 0xf0 0xf0 b) (Trail 0x90 0xbf 2)
    (choose (within 0xf1 0xf3 b) (Trail 0x80 0xbf 2)
    (choose (within 0xf4 0xf4 b) (Trail 0x80 0x8f 2)
    Malformed)))))))

-- after a byte that was expected, with `more` of 80..bf to follow
unfoldable pub trailed : ℕ → Expect
trailed more = choose (more =? 0) Lead (Trail 0x80 0xbf (more - 1))

-- what is expected after the byte b
abbrev pub step : Expect → ℕ → Expect
step Lead b = lead_of b
step (Trail low high more) b = choose (within low high b) (trailed more) Malformed
step Malformed b = Malformed

-- characters are whole up to `at` where the next byte may begin one, and else as far as they were
abbrev pub marked : Expect → ℕ → ℕ → ℕ
marked Lead at whole = at
marked (Trail low high more) at whole = whole
marked Malformed at whole = whole

-- how far whole characters reach, over a list that begins at the place `at`: before it they reached `whole`
unfoldable pub reach : Expect → ℕ → ℕ → List ℕ → ℕ
reach e whole at [] = whole
reach e whole at (b ∷ bs) = reach (step e b) (marked (step e b) (at + 1) whole) (at + 1) bs

-- how many leading bytes form whole well-formed characters: the longest front that is a run of encoded code points (`LongestFront`)
unfoldable pub whole_chars : List ℕ → ℕ
whole_chars s = reach Lead 0 0 s

-- all of them do
abbrev pub well_formed : List ℕ → Test
well_formed s = whole_chars s =? length s
