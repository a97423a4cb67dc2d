-- Bytes that are moved to a block's front, bytes that arrive, and parts of parts. Assumes nothing.
use Rattle.std.proofs.Common.{ℕ, zero, suc, ◌+◌, ◌-◌, ◌≤◌, ◌<◌, ◌≡◌, refl, sym, ap, ◌∙◌, true, false, List, [], ◌∷◌, ◌++◌, append_assoc, append-nil, length, take, drop, length-drop, length-append, Result, Ok, arith}
use Rattle.std.proofs.Math.Seq.{sets, length-sets, take_at, take-add, take-nil, length-take-le, drop-drop}
use Rattle.std.specs.List.{copy_within}
use Rattle.refusal.specs.Check.{◌≤?◌}
use Rattle.refusal.proofs.Tests.{true_not_false, never, chosen, choice}
use Rattle.wire.specs.Fields.{part_of}
use Rattle.wire.proofs.Laws.{sets_front}
use Rattle.capture.specs.Entry.{entry_at, front_of}
use Rattle.capture.specs.declared.Entry.{Entry}
use Rattle.capture.specs.declared.Ending.{Ending}
use Rattle.capture.proofs.Laws.{entry_within}
use Rattle.standard_io.specs.System.{counted, reached_by, quiet_after, Arrived}
use Rattle.capture_input.specs.Entries.{unread_in, waits_at, More, Enough}
use Rattle.standard_io.specs.declared.Heard.{Heard}
use Rattle.capture_input.specs.declared.Unread.{Unread}
use Rattle.standard_io.specs.declared.Said.{Said}
use Rattle.standard_io.specs.declared.Said.TheVariants.{Nothing, Bytes, End, Error}
use Rattle.standard_io.proofs.Laws.{counted_on}

counted_none : (a x : ℕ) → counted (counted a 0) x ≡ counted a x
counted_none a x = omega arith

-- counted from the read before
pub after_quiet : (a b : List ℕ) (h q h' : Heard) → q ≡ quiet_after h → More a b q h' → More a b h h'
after_quiet a b h q h' e (x, is, count, none) = (
  x,
  is,
  count ∙ ap (λ (y : Heard). counted y.total (length x)) e ∙ counted_none h.total (length x),
  none,
)

-- more than that only where the front waits for it
pub more_then : (a b c : List ℕ) (h h' h'' : Heard) → More a b h h' → waits_at (front_of b) ≡ true → (y : List ℕ) → c ≡ b ++ y → h''.total ≡ counted h'.total (length y) → More a c h h''
more_then a b c h h' h'' (x, e, before, none) waits y f count = (
  x ++ y,
  f ∙ rw e (append_assoc a x y),
  count ∙ rw before (counted_on h.total (length x) (length y)) ∙ ap (counted h.total) (sym (length-append x y)),
  λ w.
      let same : b ≡ a = e ∙ ap (λ (l : List ℕ). a ++ l) (none w).0 ∙ append-nil a in
      let clash : true ≡ false = sym waits ∙ ap (λ (l : List ℕ). waits_at (front_of l)) same ∙ w in
      absurd (true_not_false clash),
)

pub arrive : (l m : List ℕ) (n k : ℕ) → n ≤ k → take n m ≡ take n l → take k m ≡ take n l ++ take (k - n) (drop n m)
arrive l m n k h e =
    let s : n + (k - n) ≡ k = omega arith in
    rw (← e, ← take-add n (k - n) m, s)

-- as many as lie between
pub arrive_long : (m : List ℕ) (n k : ℕ) → n ≤ k → k ≤ length m → length (take (k - n) (drop n m)) ≡ k - n
arrive_long m n k h g = length-take-le (k - n) (drop n m) (omega (arith, length-drop n m))

-- a part at the front, and a part that has bytes
pub front_part : (s : List ℕ) (n : ℕ) → n ≤ length s → part_of s 0 n ≡ take n s
unfolding part_of
front_part s n h = sym (chosen _ _ _ (omega arith) refl)

pub record Lies (s : List ℕ) (start n : ℕ) : Type 0 where
  pub inside : start + n ≤ length s
  pub part : part_of s start n ≡ take n (drop start s)
  pub size : length (part_of s start n) ≡ n

pub lies : (s : List ℕ) (start n : ℕ) → 0 < length (part_of s start n) → Lies s start n
unfolding part_of
lies s start n =
    choice (λ (l : List ℕ). (l ≡ part_of s start n) → 0 < length l → Lies s start n) (start + n ≤? length s) (take n (drop start s)) []
    (λ h e k.
    record {
      inside = h;
      part = sym e;
      size = ap length (sym e) ∙ length-take-le n (drop start s) (omega (arith, length-drop start s));
    })
    (λ h e k. absurd (omega arith)) refl

-- what is unread lies in the block, where it has bytes
pub record Held (b : List ℕ) (u : Unread) (s : List ℕ) : Type 0 where
  pub part : Lies b u.start u.len
  pub size : length s ≡ u.len
  pub inside : u.start + length s ≤ length b

pub held : (b : List ℕ) (u : Unread) (s : List ℕ) → s ≡ unread_in b u → 0 < length s → Held b u s
held b u s e h =
    let same = ap length e in
    let w = lies b u.start u.len (omega (arith, same)) in
    let n : length s ≡ u.len = same ∙ w.size in
    record { part = w; size = n; inside = omega (arith, n, w.inside) }

-- and an entry at its front lies in it
pub record EntryHeld (b : List ℕ) (u : Unread) (s : List ℕ) (k m : ℕ) : Type 0 where
  pub part : Lies b u.start u.len
  pub front : front_of (unread_in b u) ≡ entry_at k m
  pub within : k + m ≤ length s
  pub left : k + m ≤ u.len
  pub behind : u.start + (k + m) ≤ length b

pub entry_held : (b : List ℕ) (u : Unread) (s : List ℕ) (x : Entry) → s ≡ unread_in b u → Ok x ≡ front_of s → EntryHeld b u s x.start x.len
entry_held b u s x e is =
    let found : front_of s ≡ entry_at x.start x.len = sym is in
    let v = entry_within s x.start x.len found in
    let w = held b u s e (omega (arith, v.behind, v.inside)) in
    record {
      part = w.part;
      front = ap front_of (sym e) ∙ found;
      within = v.inside;
      left = omega (arith, v.inside, w.size);
      behind = omega (arith, v.inside, w.inside);
    }

-- the rest of a part is a part
drop_of_take : (e n : ℕ) (l : List ℕ) → drop e (take n l) ≡ take (n - e) (drop e l)
drop_of_take zero n l = let e : n - 0 ≡ n = omega arith in rw e
drop_of_take (suc e) zero l = let z : 0 - suc e ≡ 0 = omega arith in rw z
drop_of_take (suc e) (suc n) [] = sym (take-nil (suc n - suc e))
drop_of_take (suc e) (suc n) (x ∷ l) = let z : suc n - suc e ≡ n - e = omega arith in rw z (drop_of_take e n l)

pub rest_of_part : (s : List ℕ) (start n e : ℕ) → e ≤ n → Lies s start n → part_of s (start + e) (n - e) ≡ drop e (part_of s start n)
unfolding part_of
rest_of_part s start n e h w =
    sym (chosen _ _ _ (omega arith) refl)
    ∙ ap (take (n - e)) (sym (drop-drop e start s))
    ∙ sym (drop_of_take e n (drop start s))
    ∙ ap (drop e) (sym w.part)

-- a part that was moved to the front
pub moved : (b m : List ℕ) (start k n : ℕ) → Lies b start k → n ≡ k → m ≡ copy_within b start (start + n) 0 → take n m ≡ part_of b start k
moved b m start k n w e f =
    let s = drop start b in
    let size : start + n - start ≡ n = omega arith in
    let front = take_at (take n s) (drop (0 + n) b) n (length-take-le n s (omega (arith, e, w.inside, length-drop start b))) in
    ap (take n) f ∙ rw size front ∙ ap (λ (j : ℕ). take j s) e ∙ sym w.part

-- bytes that were put at the front of a buffer, taken as a part of it
pub put_part : (l x : List ℕ) (n : ℕ) → length x ≡ n → n ≤ length l → part_of (sets l 0 x) 0 n ≡ x
put_part l x n e h =
    let k : n ≤ length (sets l 0 x) = omega (arith, length-sets l 0 x) in
    front_part (sets l 0 x) n k ∙ rw (sets_front x l n e h) (take_at x (drop n l) n e)

-- where a read brings no bytes, the front still waits
pub no_more : (said : Said) (n room : ℕ) (x : Result Entry Ending) → Arrived n room said → reached_by said n ≤ n → waits_at x ≡ true → Enough said x
no_more Nothing n room x h none w = absurd h
no_more (Bytes m) n room x h none w = absurd (omega arith)
no_more End n room x h none w = w
no_more Error n room x h none w = w

-- where it brings some, they lie in the block, and neither an end nor an error was said
pub some_more : (said : Said) (n room : ℕ) (x : Result Entry Ending) → Arrived n room said → n < reached_by said n → waits_at x ≡ false →
    (reached_by said n ≤ room) × Enough said x
some_more Nothing n room x h some w = absurd h
some_more (Bytes m) n room x h some w = (h.1, w)
some_more End n room x h some w = absurd (omega arith)
some_more Error n room x h some w = absurd (omega arith)

-- and reading may stop at any front that waits for no more
pub stops_at : (said : Said) (x y : Result Entry Ending) → Enough said x → waits_at x ≡ false → waits_at y ≡ false → Enough said y
stops_at Nothing x y h w v = v
stops_at (Bytes m) x y h w v = v
stops_at End x y h w v = never (sym w ∙ h)
stops_at Error x y h w v = never (sym w ∙ h)
