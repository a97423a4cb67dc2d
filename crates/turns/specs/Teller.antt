-- A program by what it tells: `knows T m past` says of its memory m that it tells by T, and that the entries of `past` are behind it.
use Rattle.std.specs.Prelude.{ℕ, ◌+◌, ◌≤◌, ◌≡◌, List, [], ◌∷◌, ◌++◌, length}
use Rattle.capture.specs.declared.Ending.{Ending}
use Rattle.text.specs.Put.{Put}
use Rattle.text.specs.declared.Text.{Text}
use Rattle.line.specs.Lines.{last_line}
use Rattle.turns.specs.declared.State.{State}
use Rattle.turns.specs.Turn.{Telling, Turn}
use Rattle.turns.specs.Run.{later, Ran}

-- the line of entry n is put, the datagram d, which fits its room, and d is behind the program
abbrev pub LineTold : {M : Type 0} → (Telling → M → List (List ℕ) → Type 0) → M → M → Text → Text → ℕ → List ℕ → Type 0
LineTold knows m m' before after n d =
    (T : Telling) (past : List (List ℕ)) → knows T m past → length past + 1 ≡ n →
    Put before after (T.line past d) × (length d ≤ 8192 → length (T.line past d) ≤ 40000) × knows T m' (past ++ (d ∷ []))

-- what stands before the last line is put
abbrev pub EndTold : {M : Type 0} → (Telling → M → List (List ℕ) → Type 0) → M → Text → Text → Type 0
EndTold knows m before after =
    (T : Telling) (past : List (List ℕ)) → knows T m past →
    (front : List ℕ)
    × Put before after front
    × (length front ≤ 30000)
    × ((e : Ending) → T.last past e ≡ front ++ last_line e (length past))

-- a turn, and the entries behind it
abbrev pub Leads : Telling → List (List ℕ) → State → List ℕ → List ℕ → Text → Text → State → List (List ℕ) → Type 0
Leads T past state block block' before after went grew =
    (turn : Turn T past state block block' before after went) × (later past (record { state = state; block = block; out = before }) turn.0 ≡ grew)

abbrev pub TurnTold : {M : Type 0} → (Telling → M → List (List ℕ) → Type 0) → M → M → ℕ → State → State → List ℕ → List ℕ → Text → Text → Type 0
TurnTold knows m m' n state state' block block' before after =
    (T : Telling) (past : List (List ℕ)) → knows T m past → length past ≡ n →
    (grew : List (List ℕ)) × Leads T past state block block' before after state' grew × knows T m' grew

-- the whole program, with nothing behind it at first
abbrev pub RunTold : {M : Type 0} → (Telling → M → List (List ℕ) → Type 0) → M → List ℕ → List ℕ → Text → Text → State → Type 0
RunTold knows m block block' out out' state = (T : Telling) → knows T m [] → Ran T block out block' out' state
