-- One pass over a list: its first zero and its whole characters, told together. Assumes nothing.
use Prim.Native.Nat.{ℕ, zero, suc, ◌+◌, ◌-◌, ◌/◌, ◌%◌, ◌≤◌, ◌<◌}
use mathlib.Core.Path.{◌≡◌, refl, sym, ap, ◌∙◌}
use mathlib.Core.List.{List, [], ◌∷◌}
use native.Mathlib.Omega.{arith}
use native.Mathlib.Nat.{add-zero}
use lib.ListN.{length, take, drop, drop_of_length-le, get_or-eq_default}
use lib.Seq.{take_all}
use Rattle.refusal.specs.Check.{◌=?◌, ◌≤?◌, choose}
use Rattle.refusal.proofs.Tests.{chosen, passed_over, decide}
use Rattle.wire.specs.Bytes.{Bytes}
use Rattle.wire.specs.Fields.{byte_at}
use Rattle.wire.proofs.Laws.{drop_more}
use Rattle.name.specs.Utf8.{within, lead_of, step, marked, reach, whole_chars}
use Rattle.name.specs.Name.{zero_at, text_of, walked_of}
use Rattle.name.specs.Words.{word_of, Ascii, zero_in}
use Rattle.name.specs.declared.walk.Walked.{Walked}
use Rattle.name.specs.declared.utf8.Expect.{Expect}
use Rattle.name.specs.declared.utf8.Expect.TheVariants.{Lead, Trail, Malformed}
use Rattle.name.proofs.Laws.{zero_within, text_length}
use Rattle.name.proofs.Longest.{whole_within}
use Rattle.name.proofs.WordLaws.{word_next}

abbrev pub walked : ℕ → ℕ → Walked
walked len whole = record { len = len; whole = whole }

-- the pass over a list that begins at the place `at`
unfoldable pub passed : Expect → ℕ → ℕ → List ℕ → Walked
passed e whole at [] = walked at whole
passed e whole at (b ∷ s) = choose (b =? 0) (walked at whole) (passed (step e b) (marked (step e b) (at + 1) whole) (at + 1) s)

-- it tells what the definitions say
tells : (e : Expect) (whole at : ℕ) (s : List ℕ) → passed e whole at s ≡ walked (at + zero_at s) (reach e whole at (text_of s))
unfolding passed zero_at reach
tells e whole at [] = rw add-zero
tells e whole at (b ∷ s) =
    decide (b =? 0)
    (λ h. let z : 0 ≡ zero_at (b ∷ s) = chosen (b =? 0) 0 (suc (zero_at s)) h refl in
    sym (chosen (b =? 0) (walked at whole) _ h refl) ∙ rw (← z, add-zero))
    (λ f. let z : suc (zero_at s) ≡ zero_at (b ∷ s) = passed_over (b =? 0) 0 (suc (zero_at s)) f refl in
    let n : at + 1 + zero_at s ≡ at + suc (zero_at s) = omega arith in
    sym (passed_over (b =? 0) (walked at whole) _ f refl) ∙ tells (step e b) (marked (step e b) (at + 1) whole) (at + 1) s ∙ rw (← z, n))

pub pass_tells : (s : List ℕ) → passed Lead 0 0 s ≡ walked_of s
unfolding whole_chars
pass_tells s = tells Lead 0 0 s ∙ ap (λ (n : ℕ). walked n (reach Lead 0 0 (text_of s))) (omega arith)

-- What is left of a list from the place `at` on: a zero or the end, where it is over, and any other byte.
module _ (s : List ℕ) (at : ℕ) where
  pub not_past : (byte_at s at ≡ 0 → ⊥) → at < length s
  not_past f = decide (length s ≤? at) (λ h. absurd (f (get_or-eq_default s 0 h))) (λ k. k)

  pub pass_over : (e : Expect) (whole : ℕ) → byte_at s at ≡ 0 → passed e whole at (drop at s) ≡ walked at whole
  unfolding passed
  pass_over e whole z =
      decide (length s ≤? at) (λ h. rw (drop_of_length-le s h))
      (λ k. rw (drop_more s at k) (sym (chosen _ _ _ z refl)))

  pub pass_more : (e : Expect) (whole : ℕ) → (byte_at s at ≡ 0 → ⊥) →
      passed (step e (byte_at s at)) (marked (step e (byte_at s at)) (at + 1) whole) (at + 1) (drop (at + 1) s) ≡ passed e whole at (drop at s)
  unfolding passed
  pass_more e whole f = rw (drop_more s at (not_past f)) (passed_over _ _ _ f refl)

-- A word of bytes of at most 7f: the pass may go on at its first zero, or behind it where there is none.
pub record Skipped (s : List ℕ) (at n k : ℕ) : Type 0 where
  pub same : passed Lead (at + k) (at + k) (drop (at + k) s) ≡ passed Lead at at (drop at s)
  pub few : k ≤ n
  pub inside : at ≤ length s → at + k ≤ length s
  pub ends : k < n → byte_at s (at + k) ≡ 0

pub skipped : (n : ℕ) (s : List ℕ) (at word : ℕ) → Bytes s → word ≡ word_of (take n (drop at s)) → Ascii n word → Skipped s at n (zero_in n word)
unfolding Ascii zero_in lead_of
skipped zero s at word h t a = record {
  same = rw add-zero;
  few = omega arith;
  inside = λ i. omega arith;
  ends = λ i. absurd (omega arith);
}
skipped (suc n) s at word h t a =
    let next = word_next (suc n) s at h (omega arith) in
    let low : word % 0x100 ≡ byte_at s at = rw t next.0 in
    let m : suc n - 1 ≡ n = omega arith in
    decide (word % 0x100 =? 0)
    (λ z. rw (← chosen (word % 0x100 =? 0) 0 (suc (zero_in n (word / 0x100))) z refl) record {
      same = rw add-zero;
      few = omega arith;
      inside = λ i. omega arith;
      ends = λ i. rw add-zero (sym low ∙ z);
    })
    (λ f. let k = zero_in n (word / 0x100) in
    let r = skipped n s (at + 1) (word / 0x100) h (rw t (rw m at next.1)) a.1 in
    let b : byte_at s at ≡ 0 → ⊥ = λ e. f (low ∙ e) in
    let l : Lead ≡ lead_of (byte_at s at) = chosen (within 0x00 0x7f (byte_at s at)) Lead _ (omega arith, omega arith) refl in
    let e : at + suc k ≡ at + 1 + k = omega arith in
    rw (← passed_over (word % 0x100 =? 0) 0 (suc (zero_in n (word / 0x100))) f refl) record {
      same = rw e (r.same ∙ rw (← l) at (pass_more s at Lead at b));
      few = omega (arith, r.few);
      inside = λ i. rw e (r.inside (omega (arith, not_past s at b)));
      ends = λ i. rw e (r.ends (omega arith));
    })

-- Where the pass stands in a list: what it will tell from there is what is to be told.
pub record Stands (s : List ℕ) (e : Expect) (whole at : ℕ) : Type 0 where
  pub inside : at ≤ length s
  -- where a character may begin, all before are whole
  pub kept : marked e at whole ≡ whole
  pub left : passed e whole at (drop at s) ≡ walked_of s

-- a word that was taken at `at` is judged up to `end`, where it may have met a zero
pub record Judged (s : List ℕ) (e : Expect) (whole at end : ℕ) : Type 0 where
  pub stands : Stands s e whole end
  pub few : end ≤ at + 8
  pub ends : end < at + 8 → byte_at s end ≡ 0

marked_kept : (e : Expect) (at whole : ℕ) → marked e at (marked e at whole) ≡ marked e at whole
marked_kept Lead at whole = refl
marked_kept (Trail low high more) at whole = refl
marked_kept Malformed at whole = refl

module _ (s : List ℕ) where
  pub stands_first : Stands s Lead 0 0
  stands_first = record {
    inside = omega arith;
    kept = refl;
    left = pass_tells s;
  }

  -- at a zero, or at the end, it is over
  pub stands_over : (e : Expect) (whole at : ℕ) → Stands s e whole at → byte_at s at ≡ 0 → walked at whole ≡ walked_of s
  stands_over e whole at h z = sym (pass_over s at e whole z) ∙ h.left

  -- at any other byte it goes on
  pub stands_more : (e : Expect) (whole at b : ℕ) → Stands s e whole at → b ≡ byte_at s at → (b ≡ 0 → ⊥) →
      Stands s (step e b) (marked (step e b) (at + 1) whole) (at + 1)
  stands_more e whole at b h q f = rw q record {
    inside = omega (arith, not_past s at (λ z. f (q ∙ z)));
    kept = marked_kept (step e (byte_at s at)) (at + 1) whole;
    left = pass_more s at e whole (λ z. f (q ∙ z)) ∙ h.left;
  }

  -- where a character may begin, a word of bytes of at most 7f is skipped up to its zero
  pub judged_ascii : (e : Expect) (whole at word k : ℕ) → Bytes s → Stands s e whole at → e ≡ Lead → word ≡ word_of (take 8 (drop at s)) → Ascii 8 word →
      k ≡ zero_in 8 word → Judged s e (at + k) at (at + k)
  judged_ascii e whole at word k b h q t a z =
      let r = skipped 8 s at word b t a in
      let all : at ≡ whole = rw q at h.kept in
      rw (q, z) record {
        stands = record {
          inside = r.inside h.inside;
          kept = refl;
          left = r.same ∙ ap (λ (w : ℕ). passed Lead w at (drop at s)) all ∙ rw q at h.left;
        };
        few = omega (arith, r.few);
        ends = λ i. r.ends (omega arith);
      }

  -- any other is stepped through up to a zero byte of the word, which is that of the list or none that was taken
  pub judged_stepped : (e : Expect) (whole at end word : ℕ) → Bytes s → Stands s e whole end → end ≤ at + 8 → word ≡ word_of (take (at + 8 - end) (drop end s)) →
      word % 0x100 ≡ 0 → Judged s e whole at end
  judged_stepped e whole at end word b h f t z = record {
    stands = h;
    few = f;
    ends = λ i. sym (word_next (at + 8 - end) s end b (omega arith)).0 ∙ rw t at z;
  }

-- What the pass tells, as numbers.
pub record Tells (s : List ℕ) (w : Walked) : Type 0 where
  pub ends : w.len ≡ zero_at s
  pub inside : w.len ≤ length s
  pub long : w.len ≡ length (text_of s)
  pub good : w.whole ≡ whole_chars (text_of s)
  pub within : w.whole ≤ w.len

pub told : (s : List ℕ) (w : Walked) → w ≡ walked_of s → Tells s w
told s w e = rw e record {
  ends = refl;
  inside = zero_within s;
  long = sym (text_length s);
  good = refl;
  within = omega (arith, whole_within (text_of s), text_length s);
}

-- a name that has no zero is the whole list
pub told_all : (s : List ℕ) (w : Walked) → w ≡ walked_of s → length s ≤ w.len → w.whole ≡ whole_chars s
told_all s w e h = let t = told s w e in rw (take_all (zero_at s) s (omega arith)) at t.good
