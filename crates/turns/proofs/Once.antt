-- Where the same bytes arrive and the system says the same, a program over a capture comes to one end. Assumes nothing.
use Rattle.std.proofs.Common.{ℕ, ◌+◌, ◌-◌, ◌≤◌, min, ◌≡◌, refl, sym, ap, ◌∙◌, subst, true, List, [], ◌∷◌, ◌++◌, length, take, drop, Result, Ok, Err, arith}
use Rattle.std.proofs.Math.Seq.{sets}
use Rattle.capture.specs.Entry.{front_of}
use Rattle.capture.proofs.Laws.{same_entry}
use Rattle.standard_io.specs.System.{counted}
use Rattle.text.specs.declared.Text.{Text}
use Rattle.capture_input.specs.Entries.{unread_in, Took, Because}
use Rattle.capture_input.specs.declared.Stop.{Stop}
use Rattle.capture_input.specs.declared.Stop.TheVariants.{Ended, Failed}
use Rattle.capture_input.proofs.Laws.{front_part}
use Rattle.capture_input.proofs.Once.{took_once}
use Rattle.turns.specs.declared.State.{State}
use Rattle.turns.specs.Turn.{Telling, room_in, leaving, end_of, LinePut, LastPut, Turned, Turn}
use Rattle.turns.specs.Run.{grown, Moment, unread_at, later, Turns, last_of, beginning, Ran, SameSystem}

-- Two moments of which the same is seen. Where in the block the unread bytes stand is left open.
pub record Alike (m n : Moment) : Type 0 where
  pub unread : unread_at m ≡ unread_at n
  pub heard : m.state.unread.heard ≡ n.state.unread.heard
  pub wrote : m.state.wrote ≡ n.state.wrote
  pub going : m.state.going ≡ n.state.going
  pub place : m.out.len ≡ n.out.len
  pub text : m.out.bytes.now ≡ n.out.bytes.now

-- of two moments, the second after a turn
abbrev TurnedTo : Telling → List (List ℕ) → List ℕ → Result ℕ Stop → Moment → Moment → Type 0
TurnedTo T past s next m m' = Turned T past s next (unread_at m') m.out m'.out m.state.wrote m'.state

-- what a turn finds can be taken, into a buffer that has no room, and the system said why
record Finds (s : List ℕ) (next : Result ℕ Stop) (m' : Moment) : Type 0 where
  rest : List ℕ
  entry : List ℕ
  took : Took s next rest [] entry
  because : Because next m'.state.unread.heard.said

finds : (T : Telling) (past : List (List ℕ)) (s : List ℕ) (next : Result ℕ Stop) (m m' : Moment) → TurnedTo T past s next m m' → Finds s next m'
finds T past s (Ok k) m m' t = record { rest = unread_at m'; entry = sets [] 0 (take k (drop t.0 s)); took = (t.0, t.1, refl, t.2); because = tt }
finds T past s (Err (Ended e)) m m' t = record { rest = s; entry = []; took = (t.0, refl, refl); because = t.1 }
finds T past s (Err Failed) m m' t = record { rest = s; entry = []; took = (t.0, refl, refl); because = t.1 }

-- so of the same bytes two turns find the same
finds_once : (s : List ℕ) (x y : Result ℕ Stop) (m' n' : Moment) → Finds s x m' → Finds s y n' → m'.state.unread.heard.said ≡ n'.state.unread.heard.said → x ≡ y
finds_once s x y m' n' p q said =
    (took_once s [] n'.state.unread.heard.said x y p.rest q.rest p.entry q.entry p.took q.took (rw said at p.because) q.because).next

-- Two turns from alike moments, once the system has said the same.
module _ (m n m' n' : Moment) (from : Alike m n) (heard : m'.state.unread.heard ≡ n'.state.unread.heard) (all : m'.state.wrote.all ≡ n'.state.wrote.all) where
  line_once : (line : List ℕ) → unread_at m' ≡ unread_at n' → LinePut line m.out m'.out m.state.wrote m'.state →
      LinePut line n.out n'.out n.state.wrote n'.state → Alike m' n'
  line_once line left p q =
      let room : length m.out.bytes.now ≡ length n.out.bytes.now = ap length from.text in
      let end : end_of m.out line ≡ end_of n.out line = λ i. min (from.place i + length line) (room i) in
      let total = p.handed ∙ (λ i. counted (from.wrote i).total (leaving (room i) (end i))) ∙ sym q.handed in
      record {
        unread = left;
        heard = heard;
        wrote = λ i. record { all = all i; total = total i };
        going = p.goes ∙ all ∙ sym q.goes;
        place = p.place ∙ (λ i. room_in (room i) (end i)) ∙ sym q.place;
        text = p.text ∙ (λ i. sets (from.text i) (from.place i) line) ∙ sym q.text;
      }

  last_once : (last : List ℕ) → LastPut last m.out m'.out m.state.wrote m'.state → LastPut last n.out n'.out n.state.wrote n'.state → Alike m' n'
  last_once last p q =
      let end : end_of m.out last ≡ end_of n.out last = λ i. min (from.place i + length last) (length (from.text i)) in
      let total = p.handed ∙ (λ i. counted (from.wrote i).total (end i)) ∙ sym q.handed in
      let none : unread_at m' ≡ [] = ap (λ (x : State). unread_in m'.block x.unread) p.done ∙ front_part m'.block 0 (omega arith) in
      let none' : unread_at n' ≡ [] = ap (λ (x : State). unread_in n'.block x.unread) q.done ∙ front_part n'.block 0 (omega arith) in
      record {
        unread = none ∙ sym none';
        heard = heard;
        wrote = λ i. record { all = all i; total = total i };
        going = ap (λ (x : State). x.going) p.done ∙ ap (λ (x : State). x.going) (sym q.done);
        place = p.empty ∙ sym q.empty;
        text = p.text ∙ (λ i. sets (from.text i) (from.place i) last) ∙ sym q.text;
      }

  turned_once : (T : Telling) (past : List (List ℕ)) (s : List ℕ) (next : Result ℕ Stop) → TurnedTo T past s next m m' → TurnedTo T past s next n n' → Alike m' n'
  turned_once T past s (Ok k) p q =
      let (start, size) = same_entry p.0 k q.0 k (sym p.1 ∙ q.1) in
      line_once (T.line past (take k (drop q.0 s))) (p.2 ∙ rw start (sym q.2)) (rw start at p.3) q.3
  turned_once T past s (Err (Ended e)) p q = last_once (T.last past e) p.2 q.2
  turned_once T past s (Err Failed) p q = last_once [] p.2 q.2

turn_once : (T : Telling) (past behind : List (List ℕ)) (m n m' n' : Moment) → past ≡ behind → Alike m n →
    (t : Turn T past m.state m.block m'.block m.out m'.out m'.state) (u : Turn T behind n.state n.block n'.block n.out n'.out n'.state) →
    t.0 ≡ u.0 → m'.state.unread.heard.said ≡ n'.state.unread.heard.said → m'.state.wrote.all ≡ n'.state.wrote.all →
    Alike m' n' × (later past m t.0 ≡ later behind n u.0)
turn_once T past behind m n m' n' same from t u arrived said all =
    let s = unread_at n ++ u.0 in
    let bytes : unread_at m ++ t.0 ≡ s = λ i. from.unread i ++ arrived i in
    let total = t.3 ∙ (λ i. counted (from.heard i).total (length (arrived i))) ∙ sym u.3 in
    let turned : TurnedTo T behind s t.1 m m' =
    subst (λ (l : List ℕ). TurnedTo T behind l t.1 m m') bytes (subst (λ (p : List (List ℕ)). TurnedTo T p (unread_at m ++ t.0) t.1 m m') same t.2) in
    let next = finds_once s t.1 u.1 m' n' (finds T behind s t.1 m m' turned) (finds T behind s u.1 n n' u.2) said in (
      turned_once m n m' n' from (λ i. record { said = said i; total = total i }) all T behind s u.1
          (subst (λ (x : Result ℕ Stop). TurnedTo T behind s x m m') next turned) u.2,
      λ i. grown (same i) (bytes i) (front_of (bytes i)),
    )

-- there are at most so many turns, and so many where the program would still go on
abbrev Stops : ℕ → Moment → List Moment → Type 0
Stops most m ms = (length ms ≤ most) × ((last_of m ms).state.going ≡ true → length ms ≡ most)

-- Two runs, from alike moments: neither goes on where the other has stopped.
turns_once : (T : Telling) (past behind : List (List ℕ)) (m n : Moment) (ms ns : List Moment) (t : Turns T past m ms) (u : Turns T behind n ns) (most : ℕ) →
    past ≡ behind → Alike m n → SameSystem T past behind m n ms ns t u → Stops most m ms → Stops most n ns → Alike (last_of m ms) (last_of n ns)
turns_once T past behind m n [] [] t u most same from system p q = from
turns_once T past behind m n [] (n' ∷ ns) t u most same from system p q = absurd (omega (arith, p.1 (from.going ∙ u.1), q.0))
turns_once T past behind m n (m' ∷ ms) [] t u most same from system p q = absurd (omega (arith, q.1 (sym from.going ∙ t.1), p.0))
turns_once T past behind m n (m' ∷ ms) (n' ∷ ns) t u most same from system p q =
    let next = turn_once T past behind m n m' n' same from t.0 u.0 system.0 system.1 system.2 in
    turns_once T (later past m t.0.0) (later behind n u.0.0) m' n' ms ns t.2 u.2 (most - 1) next.1 next.0 system.3
    (omega (arith, p.0), λ goes. omega (arith, p.1 goes))
    (omega (arith, q.0), λ goes. omega (arith, q.1 goes))

-- Two runs from one beginning.
pub ran_once : (T : Telling) (block : List ℕ) (out : Text) (b c : List ℕ) (o x : Text) (s r : State) (p : Ran T block out b o s) (q : Ran T block out c x r) →
    SameSystem T [] [] (beginning block out) (beginning block out) p.2.0 q.2.0 p.2.1 q.2.1 →
    Alike (record { state = s; block = b; out = o }) (record { state = r; block = c; out = x })
ran_once T block out b c o x s r p q system =
    let m = beginning block out in
    let start : Alike m m = record { unread = refl; heard = refl; wrote = refl; going = refl; place = refl; text = refl } in
    let alike = turns_once T [] [] m m p.2.0 q.2.0 p.2.1 q.2.1 0xffff_ffff_ffff_ffff refl start system
    (omega (arith, p.2.3, p.3), λ goes. p.2.3 ∙ p.4 (ap (λ (y : Moment). y.state.going) (sym p.2.2) ∙ goes))
    (omega (arith, q.2.3, q.3), λ goes. q.2.3 ∙ q.4 (ap (λ (y : Moment). y.state.going) (sym q.2.2) ∙ goes)) in
    subst (λ (y : Moment). Alike y (record { state = r; block = c; out = x })) p.2.2 (subst (Alike (last_of m p.2.0)) q.2.2 alike)
