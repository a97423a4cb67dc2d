-- Texts that are put one behind the other. Assumes nothing.
use Rattle.std.proofs.Common.{◌≡◌, ℕ, ◌+◌, min, List, [], ◌++◌, length, sym, ap, ◌∙◌, arith, length-append, append-nil}
use Rattle.std.proofs.Math.Seq.{sets, length-sets}
use Rattle.refusal.specs.Check.{◌≤?◌}
use Rattle.refusal.proofs.Tests.{decide}
use Rattle.wire.proofs.Laws.{sets_append, sets_past}
use Rattle.text.specs.Put.{Put}
use Rattle.text.specs.declared.Text.{Text}

-- past the end all places are alike
sets_clamped : (ws l : List ℕ) (i : ℕ) → sets l (min i (length l)) ws ≡ sets l i ws
sets_clamped ws l i =
    decide (i ≤? length l)
    (λ h. let e : min i (length l) ≡ i = omega arith in rw e)
    (λ h. let e : min i (length l) ≡ length l = omega arith in rw e (sets_past ws l (length l) (omega arith) ∙ sym (sets_past ws l i (omega arith))))

-- the buffer keeps its length
pub put_long : {a b : Text} {vs : List ℕ} → Put a b vs → length b.bytes.now ≡ length a.bytes.now
put_long {a} {vs = vs} p = ap length p.written ∙ length-sets a.bytes.now a.len vs

pub put_then : {a b c : Text} {vs ws : List ℕ} → Put a b vs → Put b c ws → Put a c (vs ++ ws)
put_then {a} {b} {c} {vs} {ws} p q =
    let l = a.bytes.now in
    let m = b.bytes.now in
    let i = a.len in
    let same : length m ≡ length l = put_long p in
    let at : b.len ≡ min (i + length vs) (length m) = p.place ∙ ap (min (i + length vs)) (sym same) in
    record {
      written =
          q.written
          ∙ ap (λ (x : ℕ). sets m x ws) at
          ∙ sets_clamped ws m (i + length vs)
          ∙ ap (λ (x : List ℕ). sets x (i + length vs) ws) p.written
          ∙ sym (sets_append vs ws l i);
      place = omega (arith, p.place, q.place, same, length-append vs ws);
      same_buffer = q.same_buffer ∙ p.same_buffer;
    }

-- the last segment of a text
pub put_last : {a b : Text} {vs : List ℕ} → Put a b vs → Put a b (vs ++ [])
put_last {vs = vs} p = rw (append-nil vs) p

-- the same text, said in another way
pub put_as : {a b : Text} {vs ws : List ℕ} → Put a b vs → ws ≡ vs → Put a b ws
put_as p e = rw e p
