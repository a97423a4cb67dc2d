-- The text of a whole capture, and a program's turns one after another.
use Rattle.std.specs.Prelude.{ℕ, zero, suc, ◌+◌, ◌≤◌, ◌≡◌, true, false, List, [], ◌∷◌, ◌++◌, ◌⊎◌, length, take, drop, Result, Ok, Err}
use Rattle.refusal.specs.Check.{◌≤?◌, choose}
use Rattle.capture.specs.Entry.{front_of}
use Rattle.capture.specs.declared.Entry.{Entry}
use Rattle.capture.specs.declared.Ending.{Ending}
use Rattle.capture.specs.declared.Ending.TheVariants.{End, Cut, Bad}
use Rattle.standard_io.specs.System.{counted}
use Rattle.standard_io.specs.declared.Said.TheVariants.{Error}
use Rattle.text.specs.Put.{emptied}
use Rattle.text.specs.declared.Text.{Text}
use Rattle.capture_input.specs.Entries.{unread_in, Because}
use Rattle.capture_input.specs.declared.Stop.{Stop}
use Rattle.capture_input.specs.declared.Stop.TheVariants.{Ended, Failed}
use Rattle.turns.specs.declared.State.{State}
use Rattle.turns.specs.Turn.{Telling, begun, end_of, Turn}

-- the text of an entry at the front of s, after those of `past`; and the entries with it
abbrev pub line_at : Telling → List (List ℕ) → List ℕ → Result Entry Ending → List ℕ
line_at T past s (Ok x) = T.line past (take x.len (drop x.start s))
line_at T past s (Err e) = []

abbrev pub grown : List (List ℕ) → List ℕ → Result Entry Ending → List (List ℕ)
grown past s (Ok x) = past ++ (take x.len (drop x.start s) ∷ [])
grown past s (Err e) = past

-- the text of the capture s, after the entries of `past`: by what stands at its front a line and the text of the rest, or the last text
abbrev pub told : Telling → (List (List ℕ) → List ℕ → List ℕ) → List (List ℕ) → List ℕ → Result Entry Ending → List ℕ
told T rest past s (Ok x) = T.line past (take x.len (drop x.start s)) ++ rest (past ++ (take x.len (drop x.start s) ∷ [])) (drop (x.start + x.len) s)
told T rest past s (Err e) = T.last past e

-- of at most `most` entries
unfoldable pub lines_from : Telling → ℕ → List (List ℕ) → List ℕ → List ℕ
lines_from T zero past s = []
lines_from T (suc most) past s = told T (lines_from T most) past s (front_of s)

-- an entry takes up a byte at least
abbrev pub text_from : Telling → List (List ℕ) → List ℕ → List ℕ
text_from T past s = lines_from T (suc (length s)) past s

abbrev pub text_of : Telling → List ℕ → List ℕ
text_of T input = text_from T [] input

-- between two turns
pub record Moment : Type 0 where
  pub state : State
  pub block : List ℕ
  pub out : Text

abbrev pub unread_at : Moment → List ℕ
unread_at m = unread_in m.block m.state.unread

-- the entries after a turn at which these bytes arrived
abbrev pub later : List (List ℕ) → Moment → List ℕ → List (List ℕ)
later past m arrived = grown past (unread_at m ++ arrived) (front_of (unread_at m ++ arrived))

-- turns from a moment on, after the entries of `past`: each is what the contract of `turn` says, and the program goes on before each
abbrev pub Turns : Telling → List (List ℕ) → Moment → List Moment → Type 0
Turns T past m [] = Unit {0}
Turns T past m (m' ∷ ms) =
    (t : Turn T past m.state m.block m'.block m.out m'.out m'.state)
    × (m.state.going ≡ true)
    × Turns T (later past m t.0) m' ms

abbrev pub last_of : Moment → List Moment → Moment
last_of m [] = m
last_of m (m' ∷ ms) = last_of m' ms

-- all that arrived, block by block, and the entries that were taken
abbrev pub arrived_in : (T : Telling) (past : List (List ℕ)) (m : Moment) (ms : List Moment) → Turns T past m ms → List ℕ
arrived_in T past m [] t = []
arrived_in T past m (m' ∷ ms) t = t.0.0 ++ arrived_in T (later past m t.0.0) m' ms t.2

abbrev pub past_in : (T : Telling) (past : List (List ℕ)) (m : Moment) (ms : List Moment) → Turns T past m ms → List (List ℕ)
past_in T past m [] t = past
past_in T past m (m' ∷ ms) t = past_in T (later past m t.0.0) m' ms t.2

-- the text that is put at a turn, of the bytes s
abbrev pub put_by : Telling → List (List ℕ) → List ℕ → Result ℕ Stop → List ℕ
put_by T past s (Ok m) = line_at T past s (front_of s)
put_by T past s (Err (Ended e)) = T.last past e
put_by T past s (Err Failed) = []

abbrev pub put_at : (T : Telling) (past : List (List ℕ)) (m : Moment) (arrived : List ℕ) → Result ℕ Stop → List ℕ
put_at T past m arrived next = put_by T past (unread_at m ++ arrived) next

abbrev pub text_in : (T : Telling) (past : List (List ℕ)) (m : Moment) (ms : List Moment) → Turns T past m ms → List ℕ
text_in T past m [] t = []
text_in T past m (m' ∷ ms) t = put_at T past m t.0.0 t.0.1 ++ text_in T (later past m t.0.0) m' ms t.2

-- Text leaves its buffer all at once: where the next line might not fit behind it, and at the end. This text is the last before that.
abbrev pub leaves_by : Text → List ℕ → Text → Result ℕ Stop → List ℕ
leaves_by before text after (Ok m) = choose (end_of before text + 40000 ≤? length before.bytes.now) [] (take (end_of before text) after.bytes.now)
leaves_by before text after (Err e) = take (end_of before text) after.bytes.now

abbrev pub leaves_at : (T : Telling) (past : List (List ℕ)) (m m' : Moment) (arrived : List ℕ) → Result ℕ Stop → List ℕ
leaves_at T past m m' arrived next = leaves_by m.out (put_at T past m arrived next) m'.out next

abbrev pub left_in : (T : Telling) (past : List (List ℕ)) (m : Moment) (ms : List Moment) → Turns T past m ms → List ℕ
left_in T past m [] t = []
left_in T past m (m' ∷ ms) t = leaves_at T past m m' t.0.0 t.0.1 ++ left_in T (later past m t.0.0) m' ms t.2

-- the last turn finds how the capture ends
abbrev pub Finishes : (T : Telling) (past : List (List ℕ)) (m : Moment) (ms : List Moment) → Turns T past m ms → Ending → Type 0
Finishes T past m [] t e = ⊥
Finishes T past m (m' ∷ []) t e = t.0.1 ≡ Err (Ended e)
Finishes T past m (m' ∷ m'' ∷ ms) t e = Finishes T (later past m t.0.0) m' (m'' ∷ ms) t.2 e

-- what may follow all that arrived: nothing, or anything behind a bad length
abbrev pub Unseen : Ending → List ℕ → Type 0
Unseen Bad rest = Unit {0}
Unseen Cut rest = rest ≡ []
Unseen End rest = rest ≡ []

-- The program: from nothing read and no text, turns up to a moment at which it does not go on, or more entries than can be counted.
abbrev pub beginning : List ℕ → Text → Moment
beginning block out = record { state = begun; block = block; out = emptied out }

-- n turns so far, which took these entries
abbrev pub SoFar : Telling → List ℕ → Text → List ℕ → Text → State → ℕ → List (List ℕ) → Type 0
SoFar T block out block' out' state n past =
    (ms : List Moment)
    × (t : Turns T [] (beginning block out) ms)
    × (last_of (beginning block out) ms ≡ record { state = state; block = block'; out = out' })
    × (length ms ≡ n)
    × (past_in T [] (beginning block out) ms t ≡ past)

abbrev pub Ran : Telling → List ℕ → Text → List ℕ → Text → State → Type 0
Ran T block out block' out' state =
    (n : ℕ)
    × (past : List (List ℕ))
    × SoFar T block out block' out' state n past
    × (n ≤ 0xffff_ffff_ffff_ffff)
    × (state.going ≡ true → n ≡ 0xffff_ffff_ffff_ffff)

-- Of two runs, as far as both go: at each turn the same bytes arrived, and the system said the same to the last read, and took all text of both
-- or not of either. How many turns each has is left open.
abbrev pub SameSystem : (T : Telling) (past behind : List (List ℕ)) (m n : Moment) (ms ns : List Moment) → Turns T past m ms → Turns T behind n ns → Type 0
SameSystem T past behind m n [] ns t u = Unit {0}
SameSystem T past behind m n (m' ∷ ms) [] t u = Unit {0}
SameSystem T past behind m n (m' ∷ ms) (n' ∷ ns) t u =
    (t.0.0 ≡ u.0.0)
    × (m'.state.unread.heard.said ≡ n'.state.unread.heard.said)
    × (m'.state.wrote.all ≡ n'.state.wrote.all)
    × SameSystem T (later past m t.0.0) (later behind n u.0.0) m' n' ms ns t.2 u.2

-- What a program that ran has done, t its turns: all text that left is the text of the whole input, and it ended because the system said that
-- the input ends, or at a bad length; or it broke off, because a read failed or the system did not take text.
abbrev pub Told : (T : Telling) (block : List ℕ) (out : Text) (ms : List Moment) → Turns T [] (beginning block out) ms → State → Type 0
Told T block out ms t state =
    (e : Ending)
    × Because (Err (Ended e)) state.unread.heard.said
    × ((rest : List ℕ) → Unseen e rest → left_in T [] (beginning block out) ms t ≡ text_of T (arrived_in T [] (beginning block out) ms t ++ rest))

abbrev pub BrokenOff : State → Type 0
BrokenOff state = (state.unread.heard.said ≡ Error) ⊎ (state.wrote.all ≡ false)

-- as many bytes as reads brought have arrived, and as many as left were handed to the system
pub record Accounted (T : Telling) (block : List ℕ) (out : Text) (ms : List Moment) (t : Turns T [] (beginning block out) ms) (state : State) : Type 0 where
  pub brought : state.unread.heard.total ≡ counted 0 (length (arrived_in T [] (beginning block out) ms t))
  pub handed : state.wrote.total ≡ counted 0 (length (left_in T [] (beginning block out) ms t))
