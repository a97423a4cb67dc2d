-- Each length up to 8192 has one form: it is read back, whatever follows, and nothing else is read as a length. Assumes nothing.
use Rattle.std.proofs.Common.{ℕ, ◌+◌, ◌*◌, ◌/◌, ◌%◌, ◌≤◌, ◌<◌, ◌≡◌, refl, sym, ap, ◌∙◌, List, [], ◌∷◌, ◌++◌, length, drop, length-append, arith, Result, Ok, Err}
use Rattle.refusal.specs.Check.{◌≤?◌, ◌=?◌}
use Rattle.refusal.proofs.Tests.{chosen, passed_over, choice, decide}
use Rattle.refusal.proofs.Laws.{by_answer}
use Rattle.wire.specs.Fields.{byte_at}
use Rattle.wire.proofs.Laws.{drop_more}
use Rattle.capture.specs.Length.{length_bytes, two_groups, whole, Allowed, length_of}
use Rattle.capture.specs.Entry.{entry_at, after_length, front_of}
use Rattle.capture.specs.declared.Length.{Length}
use Rattle.capture.specs.declared.Entry.{Entry}
use Rattle.capture.specs.declared.Ending.{Ending}
use Rattle.capture.specs.declared.Ending.TheVariants.{End, Cut, Bad}

-- a length, and an entry, has one form as an answer
same_whole : (n k n' k' : ℕ) → whole n k ≡ whole n' k' → (n ≡ n') × (k ≡ k')
same_whole n k n' k' e =
    let same : ◌≡◌ {A = Length} (record { len = n; used = k }) (record { len = n'; used = k' }) = cc in
    (ap (λ (x : Length). x.len) same, ap (λ (x : Length). x.used) same)

pub same_entry : (k n k' n' : ℕ) → entry_at k n ≡ entry_at k' n' → (k ≡ k') × (n ≡ n')
same_entry k n k' n' e =
    let same : ◌≡◌ {A = Entry} (record { start = k; len = n }) (record { start = k'; len = n' }) = cc in
    (ap (λ (x : Entry). x.start) same, ap (λ (x : Entry). x.len) same)

-- the two shapes of the form
short : {n : ℕ} → n ≤ 0x7f → n ∷ [] ≡ length_bytes n
short h = chosen _ _ _ h refl

long : {n : ℕ} → 0x7f < n → (0x80 + n % 0x80) ∷ n / 0x80 ∷ [] ≡ length_bytes n
long h = passed_over _ _ _ h refl

module _ (n : ℕ) (l : List ℕ) (h : n ≤ 8192) where
  read_short : n ≤ 0x7f → length_of (length_bytes n ++ l) ≡ whole n (length (length_bytes n))
  unfolding length_of
  read_short k =
      rw (← short k)
      (sym (passed_over _ _ _ (omega arith) (chosen _ _ _ (omega arith) refl)))

  read_long : 0x7f < n → length_of (length_bytes n ++ l) ≡ whole n (length (length_bytes n))
  unfolding length_of
  read_long k =
      let e : n ≡ two_groups (0x80 + n % 0x80) (n / 0x80) = omega arith in
      rw (← long k)
      (sym (passed_over _ _ _ (omega arith) (passed_over _ _ _ (omega arith) (passed_over _ _ _ (omega arith) (chosen _ _ _ (omega arith) (ap (λ (m : ℕ). whole m 2) e))))))

  -- the form of a length is read as that length, whatever follows it
  pub read_back : length_of (length_bytes n ++ l) ≡ whole n (length (length_bytes n))
  read_back = decide (n ≤? 0x7f) read_short read_long

-- a list whose front is the form of n, which takes up k bytes
pub record Starts (s : List ℕ) (n k : ℕ) : Type 0 where
  pub small : n ≤ 8192
  pub within : k ≤ length s
  pub used : k ≡ length (length_bytes n)
  pub form : ((i : ℕ) → byte_at s i < 0x100) → s ≡ length_bytes n ++ drop k s

module _ (s : List ℕ) (n k : ℕ) where
  one_group : (length s ≡ 0 → ⊥) → byte_at s 0 ≤ 0x7f → whole (byte_at s 0) 1 ≡ whole n k → Starts s n k
  one_group f h e =
      let (a, b) = same_whole (byte_at s 0) 1 n k e in
      let h' : n ≤ 0x7f = omega arith in
      record {
        small = omega arith;
        within = omega arith;
        used = rw (← short h') (sym b);
        form = λ bytes. rw (← short h', ← b, ← a) (drop_more s 0 (omega arith));
      }

  two_groups_lem : (length s ≡ 0 → ⊥) → 0x7f < byte_at s 0 → (length s ≡ 1 → ⊥) → 1 ≤ byte_at s 1 → byte_at s 1 ≤ 0x7f →
      two_groups (byte_at s 0) (byte_at s 1) ≤ 8192 → whole (two_groups (byte_at s 0) (byte_at s 1)) 2 ≡ whole n k → Starts s n k
  two_groups_lem f g f' one seven small e =
      let (a, b) = same_whole (two_groups (byte_at s 0) (byte_at s 1)) 2 n k e in
      let h : 0x7f < n = omega arith in
      record {
        small = omega arith;
        within = omega arith;
        used = rw (← long h) (sym b);
        form = λ bytes.
            let low : byte_at s 0 % 0x80 + 0x80 ≡ byte_at s 0 = omega (arith, bytes 0) in
            let high : byte_at s 1 % 0x80 ≡ byte_at s 1 = omega arith in
            let sum : n ≡ 0x80 * byte_at s 1 + byte_at s 0 % 0x80 = omega (arith, a, high) in
            let x : byte_at s 0 ≡ 0x80 + n % 0x80 = omega (arith, low, sum) in
            let y : byte_at s 1 ≡ n / 0x80 = omega (arith, sum) in
            rw (← long h, ← b, ← x, ← y) (drop_more s 0 (omega arith) ∙ ap (λ (l : List ℕ). byte_at s 0 ∷ l) (drop_more s 1 (omega arith)));
      }

  -- what is read as a length starts with that length's form: every other form is bad, or cut, or no byte is there
  pub only_form : length_of s ≡ whole n k → Starts s n k
  unfolding length_of
  only_form =
      choice P (length s =? 0) (Err End) _ (λ h e. absurd (cc))
      (λ f.
      choice P (byte_at s 0 ≤? 0x7f) (whole (byte_at s 0) 1) _ (one_group f)
      (λ g.
      choice P (length s =? 1) (Err Cut) _ (λ h e. absurd (cc))
      (λ f'.
      choice P (Allowed (byte_at s 0) (byte_at s 1)) _ (Err Bad) (λ h. two_groups_lem f g f' h.0 h.1.0 h.1.1) (λ h e. absurd (cc)))))
    where
      P : Result Length Ending → Type 0
      P x = x ≡ whole n k → Starts s n k

-- an entry is read back: its bytes are found behind the length's form, and the rest follows
pub entry_back : (b l : List ℕ) → length b ≤ 8192 →
    front_of (length_bytes (length b) ++ (b ++ l)) ≡ entry_at (length (length_bytes (length b))) (length b)
unfolding front_of
entry_back b l h =
    let f = length_bytes (length b) in
    let e : length f + length b ≤ length (f ++ (b ++ l)) = omega (arith, length-append f (b ++ l), length-append b l) in
    sym (by_answer (after_length _) (length_of _) (whole (length b) (length f)) (read_back (length b) (b ++ l) h) (chosen _ _ _ e refl))

-- an entry that is found lies within the bytes, behind its length
pub record Within (s : List ℕ) (k n : ℕ) : Type 0 where
  pub small : n ≤ 8192
  pub behind : 1 ≤ k
  pub inside : k + n ≤ length s

form_some : (n : ℕ) → 1 ≤ length (length_bytes n)
form_some n = choice (λ (l : List ℕ). 1 ≤ length l) (n ≤? 0x7f) (n ∷ []) _ (λ h. omega arith) (λ h. omega arith)

pub entry_within : (s : List ℕ) (k n : ℕ) → front_of s ≡ entry_at k n → Within s k n
unfolding front_of
entry_within s k n = by (length_of s) refl
  where
    by : (x : Result Length Ending) → length_of s ≡ x → after_length s x ≡ entry_at k n → Within s k n
    by (Ok x) e =
        let w = only_form s x.len x.used e in
        choice (λ (y : Result Entry Ending). y ≡ entry_at k n → Within s k n) (x.used + x.len ≤? length s) (entry_at x.used x.len) (Err Cut)
        (λ h f.
        let (a, b) = same_entry x.used x.len k n f in
        record { small = omega arith; behind = omega (arith, form_some x.len, w.used); inside = omega arith })
        (λ h f. absurd (cc))
    by (Err y) e = λ f. absurd (cc)
