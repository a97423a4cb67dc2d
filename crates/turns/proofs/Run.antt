-- However the input arrives, turn after turn: the text put is that of the whole input. Assumes nothing.
use Rattle.std.proofs.Common.{ℕ, zero, suc, ◌+◌, ◌≤◌, ◌<◌, min, ◌≡◌, refl, sym, ap, ◌∙◌, subst, true, false, ◌⊎◌, inl, inr, List, [], ◌∷◌, ◌++◌, append_assoc, append-nil, length, take, drop, length-drop, length-append, Result, Ok, Err, arith, ⊎_elim}
use Rattle.std.proofs.Math.Seq.{sets, sets-eq, length-sets, length-take-le, take_at, drop-append-le, take-append-le}
use Rattle.refusal.specs.Check.{◌≤?◌, choose}
use Rattle.refusal.proofs.Tests.{true_not_false, chosen, passed_over, decide}
use Rattle.capture.specs.Entry.{entry_at, front_of}
use Rattle.capture.specs.declared.Entry.{Entry}
use Rattle.capture.specs.declared.Ending.{Ending}
use Rattle.capture.specs.declared.Ending.TheVariants.{End, Cut, Bad}
use Rattle.capture.proofs.Laws.{entry_within}
use Rattle.capture.proofs.More.{front_more}
use Rattle.standard_io.specs.System.{counted}
use Rattle.standard_io.specs.declared.Wrote.{Wrote}
use Rattle.standard_io.proofs.Laws.{counted_on}
use Rattle.text.specs.declared.Text.{Text}
use Rattle.capture_input.specs.Entries.{Because}
use Rattle.capture_input.specs.declared.Stop.{Stop}
use Rattle.capture_input.specs.declared.Stop.TheVariants.{Ended, Failed}
use Rattle.capture_input.proofs.Laws.{front_part}
use Rattle.turns.specs.declared.State.{State}
use Rattle.turns.specs.Turn.{Telling, begun, end_of, LinePut, LastPut, Turned, Turn}
use Rattle.turns.specs.Run.{line_at, grown, told, lines_from, text_from, text_of, Moment, unread_at, later, Turns, last_of, arrived_in, past_in, put_by, put_at, text_in, leaves_by, left_in, Finishes, Unseen, beginning, SoFar, Ran, Told, BrokenOff, Accounted}

-- how many entries may be told does not matter, where they are enough
enough : (T : Telling) (f g : ℕ) (past : List (List ℕ)) (s : List ℕ) → length s < f → length s < g → lines_from T f past s ≡ lines_from T g past s
unfolding lines_from
enough T zero g past s h k = absurd (omega arith)
enough T (suc f) zero past s h k = absurd (omega arith)
enough T (suc f) (suc g) past s h k = by (λ p l a b. enough T f g p l a b) (front_of s) refl
  where
    by : ((p : List (List ℕ)) (l : List ℕ) → length l < f → length l < g → lines_from T f p l ≡ lines_from T g p l) →
        (x : Result Entry Ending) → front_of s ≡ x → told T (lines_from T f) past s x ≡ told T (lines_from T g) past s x
    by less (Ok x) e =
        let w = entry_within s x.start x.len e in
        let d = take x.len (drop x.start s) in
        let rest = drop (x.start + x.len) s in
        let short : length rest < length s = omega (arith, length-drop (x.start + x.len) s, w.behind, w.inside) in
        ap (λ (l : List ℕ). T.line past d ++ l) (less (past ++ (d ∷ [])) rest (omega arith) (omega arith))
    by less (Err x) e = refl

-- the text of a capture by its front
text_entry : (T : Telling) (past : List (List ℕ)) (k m : ℕ) (s : List ℕ) → front_of s ≡ entry_at k m →
    text_from T past s ≡ T.line past (take m (drop k s)) ++ text_from T (past ++ (take m (drop k s) ∷ [])) (drop (k + m) s)
unfolding lines_from
text_entry T past k m s e =
    let w = entry_within s k m e in
    let short : length (drop (k + m) s) < length s = omega (arith, length-drop (k + m) s, w.behind, w.inside) in
    rw e
    (ap (λ (l : List ℕ). T.line past (take m (drop k s)) ++ l)
    (enough T (length s) (suc (length (drop (k + m) s))) (past ++ (take m (drop k s) ∷ [])) (drop (k + m) s) (omega arith) (omega arith)))

text_last : (T : Telling) (past : List (List ℕ)) (s : List ℕ) (e : Ending) → front_of s ≡ Err e → text_from T past s ≡ T.last past e
unfolding lines_from
text_last T past s e is = rw is

differs : (k m : ℕ) (s : List ℕ) → front_of s ≡ entry_at k m → (front_of s ≡ Err Cut → ⊥) × (front_of s ≡ Err End → ⊥)
differs k m s e = (λ f. cc, λ f. cc)

-- an entry at the front stays there, whatever follows
text_more : (T : Telling) (past : List (List ℕ)) (k m : ℕ) (s rest : List ℕ) → front_of s ≡ entry_at k m →
    text_from T past (s ++ rest) ≡ line_at T past s (front_of s) ++ text_from T (grown past s (front_of s)) (drop (k + m) s ++ rest)
text_more T past k m s rest e =
    let w = entry_within s k m e in
    let d = differs k m s e in
    let same : front_of (s ++ rest) ≡ entry_at k m = front_more s rest d.0 d.1 ∙ e in
    let fits : k ≤ length s = omega (arith, w.inside) in
    let left : drop (k + m) (s ++ rest) ≡ drop (k + m) s ++ rest = drop-append-le (k + m) s rest w.inside in
    let bytes : take m (drop k (s ++ rest)) ≡ take m (drop k s) =
    ap (take m) (drop-append-le k s rest fits) ∙ take-append-le m (drop k s) rest (omega (arith, length-drop k s, w.inside)) in
    text_entry T past k m (s ++ rest) same ∙ rw (e, left, bytes)

text_over : (T : Telling) (past : List (List ℕ)) (s rest : List ℕ) (e : Ending) → front_of s ≡ Err e → Unseen e rest → text_from T past (s ++ rest) ≡ T.last past e
text_over T past s rest End h none = text_last T past (s ++ rest) End (rw (none, append-nil s) h)
text_over T past s rest Cut h none = text_last T past (s ++ rest) Cut (rw (none, append-nil s) h)
text_over T past s rest Bad h none =
    let same : front_of (s ++ rest) ≡ Err Bad = front_more s rest (λ f. cc) (λ f. cc) ∙ h in
    text_last T past (s ++ rest) Bad same

-- a turn after which the program goes on took an entry
record Entered (T : Telling) (past : List (List ℕ)) (s : List ℕ) (left : List ℕ) (text : List ℕ) : Type 0 where
  start : ℕ
  size : ℕ
  found : front_of s ≡ entry_at start size
  rest : left ≡ drop (start + size) s
  line : text ≡ line_at T past s (front_of s)

stops : (last : List ℕ) (before after : Text) (was : Wrote) (state : State) → LastPut last before after was state → state.going ≡ true → ⊥
stops last before after was state p h = true_not_false (sym h ∙ ap (λ (x : State). x.going) p.done)

entered : (T : Telling) (past : List (List ℕ)) (s : List ℕ) (next : Result ℕ Stop) (left : List ℕ) (before after : Text) (was : Wrote) (state : State) →
    Turned T past s next left before after was state → state.going ≡ true → Entered T past s left (put_by T past s next)
entered T past s (Ok m) left before after was state t h = record { start = t.0; size = m; found = t.1; rest = t.2; line = refl }
entered T past s (Err (Ended e)) left before after was state t h = absurd (stops (T.last past e) before after was state t.2 h)
entered T past s (Err Failed) left before after was state t h = absurd (stops [] before after was state t.2 h)

-- of two moments, the second after a turn
entered_at : (T : Telling) (past : List (List ℕ)) (m m' : Moment) (t : Turn T past m.state m.block m'.block m.out m'.out m'.state) → m'.state.going ≡ true →
    Entered T past (unread_at m ++ t.0) (unread_at m') (put_at T past m t.0 t.1)
entered_at T past m m' t h =
    entered T past (unread_at m ++ t.0) t.1 (unread_at m') m.out m'.out m.state.wrote m'.state t.2 h

-- it is one entry more
pub one_later : (T : Telling) (past : List (List ℕ)) (m m' : Moment) (t : Turn T past m.state m.block m'.block m.out m'.out m'.state) → m'.state.going ≡ true →
    length (later past m t.0) ≡ length past + 1
one_later T past m m' t h =
    let w = entered_at T past m m' t h in
    rw w.found (length-append past (take w.size (drop w.start (unread_at m ++ t.0)) ∷ []))

-- a turn that took an entry, and the text of the rest
on_from : (T : Telling) (past : List (List ℕ)) (u arrived more rest left text others : List ℕ) → Entered T past (u ++ arrived) left text →
    others ≡ text_from T (grown past (u ++ arrived) (front_of (u ++ arrived))) (left ++ (more ++ rest)) → text ++ others ≡ text_from T past (u ++ ((arrived ++ more) ++ rest))
on_from T past u arrived more rest left text others w e =
    let s = u ++ arrived in
    let joined : u ++ ((arrived ++ more) ++ rest) ≡ s ++ (more ++ rest) = simp append_assoc in
    rw (w.line, e, w.rest, joined)
    (sym (text_more T past w.start w.size s (more ++ rest) w.found))

-- Turns that find how the capture ends put the text of all that arrived, and of whatever may follow.
put_all : (T : Telling) (past : List (List ℕ)) (m : Moment) (ms : List Moment) (t : Turns T past m ms) (e : Ending) (rest : List ℕ) → Finishes T past m ms t e → Unseen e rest →
    text_in T past m ms t ≡ text_from T past (unread_at m ++ (arrived_in T past m ms t ++ rest))
put_all T past m [] t e rest f none = absurd f
put_all T past m (m' ∷ []) t e rest f none =
    let s = unread_at m ++ t.0.0 in
    let turned : Turned T past s (Err (Ended e)) (unread_at m') m.out m'.out m.state.wrote m'.state = rw f at t.0.2 in
    let joined : unread_at m ++ ((t.0.0 ++ []) ++ rest) ≡ s ++ rest = simp (append-nil, append_assoc) in
    rw (f, joined, append-nil (T.last past e)) (sym (text_over T past s rest e turned.0 none))
put_all T past m (m' ∷ m'' ∷ ms) t e rest f none =
    let past' = later past m t.0.0 in
    on_from T past (unread_at m) t.0.0 (arrived_in T past' m' (m'' ∷ ms) t.2) rest (unread_at m') (put_at T past m t.0.0 t.0.1) (text_in T past' m' (m'' ∷ ms) t.2)
    (entered_at T past m m' t.0 t.2.1)
    (put_all T past' m' (m'' ∷ ms) t.2 e rest f none)

-- The program as it starts: nothing is unread.
put_whole : (T : Telling) (m : Moment) (ms : List Moment) (t : Turns T [] m ms) (e : Ending) (rest : List ℕ) → unread_at m ≡ [] → Finishes T [] m ms t e → Unseen e rest →
    text_in T [] m ms t ≡ text_of T (arrived_in T [] m ms t ++ rest)
put_whole T m ms t e rest start f none = put_all T [] m ms t e rest f none ∙ ap (λ (u : List ℕ). text_from T [] (u ++ (arrived_in T [] m ms t ++ rest))) start

behind : (l x : List ℕ) (at : ℕ) → at + length x ≤ length l → take (at + length x) (sets l at x) ≡ take at l ++ x
behind l x at h =
    let size : length (take at l) ≡ at = length-take-le at l (omega arith) in
    let long : length (take at l ++ x) ≡ at + length x = simp length-append (omega arith) in
    rw (sets-eq x l at h) (take_at (take at l ++ x) (drop (at + length x) l) (at + length x) long)

-- what leaves at a turn and what is left in the buffer, together: what was in it, and the text put; and as much leaves as was handed over
record Passed (before : Text) (text leaves : List ℕ) (after : Text) (was : Wrote) (state : State) : Type 0 where
  whole : leaves ++ take after.len after.bytes.now ≡ take before.len before.bytes.now ++ text
  roomy : after.len + 40000 ≤ length after.bytes.now
  handed : state.wrote.total ≡ counted was.total (length leaves)

-- text that was put where there is room for it
record There (before : Text) (text after : List ℕ) : Type 0 where
  long : length after ≡ length before.bytes.now
  ends : end_of before text ≡ before.len + length text
  all : take (end_of before text) after ≡ take before.len before.bytes.now ++ text

there : (before : Text) (text after : List ℕ) → after ≡ sets before.bytes.now before.len text → length text ≤ 40000 → before.len + 40000 ≤ length before.bytes.now →
    There before text after
there before text after put short room =
    let at = before.len in
    let ends : end_of before text ≡ at + length text = omega arith in
    record {
      long = ap length put ∙ length-sets before.bytes.now at text;
      ends = ends;
      all = ap (λ (k : ℕ). take k after) ends ∙ ap (take (at + length text)) put ∙ behind before.bytes.now text at (omega arith);
    }

line_passes : (line : List ℕ) (m : ℕ) (before after : Text) (was : Wrote) (state : State) → LinePut line before after was state →
    before.len + 40000 ≤ length before.bytes.now → Passed before line (leaves_by before line after (Ok m)) after was state
line_passes line m before after was state p room =
    let bytes = after.bytes.now in
    let room_of = length before.bytes.now in
    let w = there before line bytes p.text p.short room in
    let end = end_of before line in
    let fits = end + 40000 ≤? room_of in
    decide fits
    (λ h.
    let is : after.len ≡ end = p.place ∙ sym (chosen fits end 0 h refl) in
    let none : choose fits [] (take end bytes) ≡ [] = sym (chosen fits [] (take end bytes) h refl) in
    record {
      whole = rw (is, none) w.all;
      roomy = omega (arith, w.long);
      handed = p.handed ∙ ap (counted was.total) (sym (chosen fits 0 (min end room_of) h refl) ∙ rw none);
    })
    (λ h.
    let is : after.len ≡ 0 = p.place ∙ sym (passed_over fits end 0 h refl) in
    let out : choose fits [] (take end bytes) ≡ take end bytes = sym (passed_over fits [] (take end bytes) h refl) in
    let size : length (take end bytes) ≡ end = length-take-le end bytes (omega (arith, w.long, w.ends)) in
    record {
      whole = rw (is, out) (append-nil (take end bytes) ∙ w.all);
      roomy = omega (arith, w.long);
      handed = p.handed ∙ ap (counted was.total) (sym (passed_over fits 0 (min end room_of) h refl) ∙ rw (out, size) (omega (arith, w.ends)));
    })

last_passes : (last : List ℕ) (before after : Text) (was : Wrote) (state : State) → LastPut last before after was state →
    before.len + 40000 ≤ length before.bytes.now → Passed before last (take (end_of before last) after.bytes.now) after was state
last_passes last before after was state p room =
    let bytes = after.bytes.now in
    let w = there before last bytes p.text p.short room in
    let end = end_of before last in
    record {
      whole = rw p.empty (append-nil (take end bytes) ∙ w.all);
      roomy = omega (arith, p.empty, w.long);
      handed = p.handed ∙ ap (counted was.total) (sym (length-take-le end bytes (omega (arith, w.long, w.ends))));
    }

passes : (T : Telling) (past : List (List ℕ)) (s : List ℕ) (next : Result ℕ Stop) (left : List ℕ) (before after : Text) (was : Wrote) (state : State) →
    Turned T past s next left before after was state → before.len + 40000 ≤ length before.bytes.now →
    Passed before (put_by T past s next) (leaves_by before (put_by T past s next) after next) after was state
passes T past s (Ok m) left before after was state t room = rw t.1 (line_passes (T.line past (take m (drop t.0 s))) m before after was state t.3 room)
passes T past s (Err (Ended e)) left before after was state t room = last_passes (T.last past e) before after was state t.2 room
passes T past s (Err Failed) left before after was state t room = last_passes [] before after was state t.2 room

-- counts of two lists, one after the other
counts_on : (a b c : ℕ) (x y : List ℕ) → b ≡ counted a (length x) → c ≡ counted b (length y) → c ≡ counted a (length (x ++ y))
counts_on a b c x y e f = f ∙ rw e (counted_on a (length x) (length y)) ∙ ap (counted a) (sym (length-append x y))

-- a number that is a count
abbrev Count : ℕ → Type 0
Count t = t ≡ counted t 0

still : (a x t : ℕ) → t ≡ counted a x → Count t
still a x t e = omega arith

-- All turns: what left and what is still in the buffer is what was in it and the text put, and as many bytes as left were handed to the system.
record AllPassed (T : Telling) (past : List (List ℕ)) (m : Moment) (ms : List Moment) (t : Turns T past m ms) : Type 0 where
  whole : left_in T past m ms t ++ take (last_of m ms).out.len (last_of m ms).out.bytes.now ≡ take m.out.len m.out.bytes.now ++ text_in T past m ms t
  handed : (last_of m ms).state.wrote.total ≡ counted m.state.wrote.total (length (left_in T past m ms t))

all_passed : (T : Telling) (past : List (List ℕ)) (m : Moment) (ms : List Moment) (t : Turns T past m ms) → m.out.len + 40000 ≤ length m.out.bytes.now → Count m.state.wrote.total → AllPassed T past m ms t
all_passed T past m [] t room is = record { whole = sym (append-nil _); handed = is }
all_passed T past m (m' ∷ ms) t room is =
    let past' = later past m t.0.0 in
    let text = put_at T past m t.0.0 t.0.1 in
    let leaves = leaves_by m.out text m'.out t.0.1 in
    let was = m.state.wrote.total in
    let p =
    passes T past (unread_at m ++ t.0.0) t.0.1 (unread_at m') m.out m'.out m.state.wrote m'.state t.0.2 room in
    let more = all_passed T past' m' ms t.2 p.roomy (still was (length leaves) m'.state.wrote.total p.handed) in
    record {
      whole =
          append_assoc leaves (left_in T past' m' ms t.2) _
          ∙ ap (λ (l : List ℕ). leaves ++ l) more.whole
          ∙ sym (append_assoc leaves (take m'.out.len m'.out.bytes.now) (text_in T past' m' ms t.2))
          ∙ ap (λ (l : List ℕ). l ++ text_in T past' m' ms t.2) p.whole
          ∙ append_assoc (take m.out.len m.out.bytes.now) text (text_in T past' m' ms t.2);
      handed = counts_on was m'.state.wrote.total _ leaves (left_in T past' m' ms t.2) p.handed more.handed;
    }

-- As many bytes as reads brought have arrived.
all_brought : (T : Telling) (past : List (List ℕ)) (m : Moment) (ms : List Moment) (t : Turns T past m ms) → Count m.state.unread.heard.total →
    (last_of m ms).state.unread.heard.total ≡ counted m.state.unread.heard.total (length (arrived_in T past m ms t))
all_brought T past m [] t is = is
all_brought T past m (m' ∷ ms) t is =
    let was = m.state.unread.heard.total in
    let past' = later past m t.0.0 in
    counts_on was m'.state.unread.heard.total _ t.0.0 (arrived_in T past' m' ms t.2) t.0.3
    (all_brought T past' m' ms t.2 (still was (length t.0.0) m'.state.unread.heard.total t.0.3))

-- the last turn of a capture that ends: no text is left, and the system said why
record Closed (e : Ending) (last : Moment) : Type 0 where
  none : last.out.len ≡ 0
  because : Because (Err (Ended e)) last.state.unread.heard.said

closed : (T : Telling) (past : List (List ℕ)) (m : Moment) (ms : List Moment) (t : Turns T past m ms) (e : Ending) → Finishes T past m ms t e → Closed e (last_of m ms)
closed T past m [] t e f = absurd f
closed T past m (m' ∷ []) t e f =
    let turned : Turned T past (unread_at m ++ t.0.0) (Err (Ended e)) (unread_at m') m.out m'.out m.state.wrote m'.state = rw f at t.0.2 in
    record { none = turned.2.empty; because = turned.1 }
closed T past m (m' ∷ m'' ∷ ms) t e f = closed T (later past m t.0.0) m' (m'' ∷ ms) t.2 e f

-- One turn more.
record More (T : Telling) (past : List (List ℕ)) (m : Moment) (ms : List Moment) (t : Turns T past m ms) (m' : Moment) (grew : List (List ℕ)) : Type 0 where
  turns : Turns T past m (ms ++ (m' ∷ []))
  entries : past_in T past m (ms ++ (m' ∷ [])) turns ≡ grew

abbrev Next-turn : Telling → List (List ℕ) → Moment → Moment → Type 0
Next-turn T past m m' = Turn T past m.state m.block m'.block m.out m'.out m'.state

more : (T : Telling) (past : List (List ℕ)) (m : Moment) (ms : List Moment) (t : Turns T past m ms) (m' : Moment)
    (next : Next-turn T (past_in T past m ms t) (last_of m ms) m') → (last_of m ms).state.going ≡ true →
    More T past m ms t m' (later (past_in T past m ms t) (last_of m ms) next.0)
more T past m [] t m' next goes = record { turns = (next, goes, tt); entries = refl }
more T past m (x ∷ ms) t m' next goes =
    let w = more T (later past m t.0.0) x ms t.2 m' next goes in
    record { turns = (t.0, t.1, w.turns); entries = w.entries }

last_more : (m : Moment) (ms : List Moment) (m' : Moment) → last_of m (ms ++ (m' ∷ [])) ≡ m'
last_more m [] m' = refl
last_more m (x ∷ ms) m' = last_more x ms m'

-- as many entries as turns, while the program goes on
counts : (T : Telling) (past : List (List ℕ)) (m : Moment) (ms : List Moment) (t : Turns T past m ms) → (last_of m ms).state.going ≡ true →
    length (past_in T past m ms t) ≡ length past + length ms
counts T past m [] t h = omega arith
counts T past m (m' ∷ []) t h = one_later T past m m' t.0 h
counts T past m (m' ∷ m'' ∷ ms) t h =
    omega (arith, counts T (later past m t.0.0) m' (m'' ∷ ms) t.2 h, one_later T past m m' t.0 t.2.1)

pub entries_so_far : (T : Telling) (b : List ℕ) (o : Text) (b' : List ℕ) (o' : Text) (s : State) (n : ℕ) (past : List (List ℕ)) → SoFar T b o b' o' s n past → s.going ≡ true → length past ≡ n
entries_so_far T b o b' o' s n past (ms, t, e, k, is) goes =
    let going : (last_of (beginning b o) ms).state.going ≡ true = ap (λ (x : Moment). x.state.going) e ∙ goes in
    omega (arith, ap length is, counts T [] (beginning b o) ms t going)

-- a turn from a moment that is known by another name
abbrev Renamed : Telling → List (List ℕ) → Moment → Moment → List (List ℕ) → Type 0
Renamed T past m m' grew = (next : Next-turn T past m m') × (later past m next.0 ≡ grew)

renamed : (T : Telling) (past known : List (List ℕ)) (m here m' : Moment) → m ≡ here → past ≡ known → (next : Next-turn T known here m') →
    Renamed T past m m' (later known here next.0)
renamed T past known m here m' e f next =
    let grew = later known here next.0 in
    let from : Renamed T known m m' grew = subst (λ (x : Moment). Renamed T known x m' grew) (sym e) (next, refl) in
    subst (λ (p : List (List ℕ)). Renamed T p m m' grew) (sym f) from

pub turn_more : (T : Telling) (b : List ℕ) (o : Text) (b' : List ℕ) (o' : Text) (b'' : List ℕ) (o'' : Text) (s s' : State) (n : ℕ) (past : List (List ℕ)) → SoFar T b o b' o' s n past → s.going ≡ true →
    (turn : Turn T past s b' b'' o' o'' s') →
    SoFar T b o b'' o'' s' (n + 1) (later past (record { state = s; block = b'; out = o' }) turn.0)
turn_more T b o b' o' b'' o'' s s' n past (ms, t, e, k, is) goes turn =
    let m = beginning b o in
    let here : Moment = record { state = s; block = b'; out = o' } in
    let m' : Moment = record { state = s'; block = b''; out = o'' } in
    let next = renamed T (past_in T [] m ms t) past (last_of m ms) here m' e is turn in
    let w = more T [] m ms t m' next.0 (ap (λ (x : Moment). x.state.going) e ∙ goes) in
    (ms ++ (m' ∷ []), w.turns, last_more m ms m', simp length-append (omega arith), w.entries ∙ next.1)

-- A program that does not go on has found how the capture ends, or broke off.
last_turn : (T : Telling) (past : List (List ℕ)) (m : Moment) (arrived : List ℕ) (next : Result ℕ Stop) (left : List ℕ) (after : Text) (state : State) →
    Turned T past (unread_at m ++ arrived) next left m.out after m.state.wrote state → state.going ≡ false →
    ((e : Ending) × (next ≡ Err (Ended e))) ⊎ BrokenOff state
last_turn T past m arrived (Err (Ended e)) left after state t h = inl (e, refl)
last_turn T past m arrived (Err Failed) left after state t h = inr (inl t.1)
last_turn T past m arrived (Ok k) left after state t h = inr (inr (sym t.3.goes ∙ h))

ends : (T : Telling) (past : List (List ℕ)) (m : Moment) (ms : List Moment) (t : Turns T past m ms) → m.state.going ≡ true → (last_of m ms).state.going ≡ false →
    ((e : Ending) × Finishes T past m ms t e) ⊎ BrokenOff (last_of m ms).state
ends T past m [] t h k = absurd (true_not_false (sym h ∙ k))
ends T past m (m' ∷ []) t h k = last_turn T past m t.0.0 t.0.1 (unread_at m') m'.out m'.state t.0.2 k
ends T past m (m' ∷ m'' ∷ ms) t h k = ends T (later past m t.0.0) m' (m'' ∷ ms) t.2 t.2.1 k

-- From its start to a capture's end: what left, in whatever blocks, is the text of the whole input.
finished : (T : Telling) (block : List ℕ) (out : Text) (ms : List Moment) (t : Turns T [] (beginning block out) ms) (e : Ending) → 40000 ≤ length out.bytes.now →
    Finishes T [] (beginning block out) ms t e → Told T block out ms t (last_of (beginning block out) ms).state
finished T block out ms t e room f =
    let m = beginning block out in
    let last = closed T [] m ms t e f in
    let end = (last_of m ms).out in
    let kept : take end.len end.bytes.now ≡ [] = ap (λ (k : ℕ). take k end.bytes.now) last.none in
    let all = (all_passed T [] m ms t (omega arith) (omega arith)).whole in (
      e,
      last.because,
      λ rest none.
          sym (append-nil (left_in T [] m ms t))
          ∙ ap (λ (l : List ℕ). left_in T [] m ms t ++ l) (sym kept)
          ∙ all
          ∙ put_whole T m ms t e rest (front_part block 0 (omega arith)) f none,
    )

-- The program that ran, and does not go on: all text that was put has left, but for what is still in the buffer; the bytes that arrived and that
-- left are as many as the system brought and was handed; and it told the whole input, or broke off.
pub ran : (T : Telling) (block : List ℕ) (out : Text) (block' : List ℕ) (out' : Text) (state : State) (r : Ran T block out block' out' state) →
    40000 ≤ length out.bytes.now → state.going ≡ false →
    let m = beginning block out in
    let ms = r.2.0 in
    let t = r.2.1 in
    (left_in T [] m ms t ++ take out'.len out'.bytes.now ≡ text_in T [] m ms t)
    × Accounted T block out ms t state
    × (Told T block out ms t state ⊎ BrokenOff state)
ran T block out block' out' state r room stopped =
    let m = beginning block out in
    let ms = r.2.0 in
    let t = r.2.1 in
    let here = r.2.2 in
    let last : (last_of m ms).state ≡ state = ap (λ (x : Moment). x.state) here in
    let all = all_passed T [] m ms t (omega arith) (omega arith) in (
      ap (λ (x : Moment). left_in T [] m ms t ++ take x.out.len x.out.bytes.now) (sym here) ∙ all.whole,
      record {
        brought = ap (λ (x : State). x.unread.heard.total) (sym last) ∙ all_brought T [] m ms t (omega arith);
        handed = ap (λ (x : State). x.wrote.total) (sym last) ∙ all.handed;
      },
      ⊎_elim
          (λ (f : (e : Ending) × Finishes T [] m ms t e). inl (subst (Told T block out ms t) last (finished T block out ms t f.0 room f.1)))
          (λ (b : BrokenOff (last_of m ms).state). inr (subst BrokenOff last b))
          (ends T [] m ms t refl (ap (λ (x : State). x.going) last ∙ stopped)),
    )
