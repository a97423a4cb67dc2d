-- Of the same bytes, where the system said the same, one thing can be taken. Assumes nothing.
use Rattle.std.proofs.Common.{ℕ, ◌+◌, ◌≡◌, refl, sym, ap, ◌∙◌, true, List, take, drop, Result, Ok, Err}
use Rattle.std.proofs.Math.Seq.{sets}
use Rattle.capture.specs.Entry.{entry_at, front_of}
use Rattle.capture.specs.declared.Entry.{Entry}
use Rattle.capture.specs.declared.Ending.{Ending}
use Rattle.capture.specs.declared.Ending.TheVariants.{End, Cut, Bad}
use Rattle.capture.proofs.Laws as capture
use Rattle.capture_input.specs.Entries.{waits_at, Took, Because}
use Rattle.standard_io.specs.declared.Said.{Said}
use Rattle.capture_input.specs.declared.Stop.{Stop}
use Rattle.capture_input.specs.declared.Stop.TheVariants.{Ended, Failed}
use Rattle.refusal.proofs.Tests.{never}

pub record Same (x y : Result ℕ Stop) (left left' after after' : List ℕ) : Type 0 where
  pub next : x ≡ y
  pub rest : left ≡ left'
  pub entry : after ≡ after'

waits_none : {A : Type 0} (x : Result Entry Ending) (k n : ℕ) → x ≡ entry_at k n → waits_at x ≡ true → A
waits_none x k n h w = never (ap waits_at (sym h) ∙ w)

-- a read that fails leaves no answer by which a capture ends
no_failure : {A : Type 0} (x : Result Entry Ending) (e : Ending) (said : Said) → x ≡ Err e → waits_at x ≡ true → Because (Err (Ended e)) said → Because (Err Failed) said → A
no_failure x End said h w p q = absurd (cc)
no_failure x Cut said h w p q = absurd (cc)
no_failure x Bad said h w p q = never (ap waits_at (sym h) ∙ w)

same_entry : (s before : List ℕ) (k n k' n' : ℕ) (left left' after after' : List ℕ) → entry_at k n ≡ entry_at k' n' →
    after ≡ sets before 0 (take n (drop k s)) → left ≡ drop (k + n) s → after' ≡ sets before 0 (take n' (drop k' s)) → left' ≡ drop (k' + n') s →
    Same (Ok n) (Ok n') left left' after after'
same_entry s before k n k' n' left left' after after' e a l a' l' =
    let (start, size) = capture.same_entry k n k' n' e in
    record { next = ap Ok size; rest = l ∙ rw (start, size) (sym l'); entry = a ∙ rw (start, size) (sym a') }

pub took_once : (s before : List ℕ) (said : Said) (x y : Result ℕ Stop) (left left' after after' : List ℕ) → Took s x left before after → Took s y left' before after' →
    Because x said → Because y said → Same x y left left' after after'
took_once s b said (Ok n) (Ok m) l l' a a' p q i j = same_entry s b p.0 n q.0 m l l' a a' (sym p.1 ∙ q.1) p.2 p.3 q.2 q.3
took_once s b said (Ok n) (Err (Ended e)) l l' a a' p q i j = absurd (cc)
took_once s b said (Ok n) (Err Failed) l l' a a' p q i j = waits_none (front_of s) p.0 n p.1 q.0
took_once s b said (Err (Ended e)) (Ok m) l l' a a' p q i j = absurd (cc)
took_once s b said (Err (Ended e)) (Err (Ended f)) l l' a a' p q i j =
    let same : ◌≡◌ {A = Ending} e f = cc in
    record { next = ap (λ (x : Ending). Err (Ended x)) same; rest = p.2 ∙ sym q.2; entry = p.1 ∙ sym q.1 }
took_once s b said (Err (Ended e)) (Err Failed) l l' a a' p q i j = no_failure (front_of s) e said p.0 q.0 i j
took_once s b said (Err Failed) (Ok m) l l' a a' p q i j = waits_none (front_of s) q.0 m q.1 p.0
took_once s b said (Err Failed) (Err (Ended e)) l l' a a' p q i j = no_failure (front_of s) e said q.0 p.0 j i
took_once s b said (Err Failed) (Err Failed) l l' a a' p q i j = record { next = refl; rest = p.2 ∙ sym q.2; entry = p.1 ∙ sym q.1 }
