-- What stands at the front of a capture stands there whatever follows, but for an entry that is cut and for no bytes at all. Assumes nothing.
use Rattle.std.proofs.Common.{ℕ, ◌+◌, ◌≡◌, refl, sym, ap, ◌∙◌, List, [], ◌∷◌, ◌++◌, length, length-append, arith, Result, Ok, Err}
use Rattle.refusal.specs.Check.{◌≤?◌, choose}
use Rattle.refusal.proofs.Tests.{chosen, passed_over, decide}
use Rattle.capture.specs.Length.{whole, second_group, length_of}
use Rattle.capture.specs.Entry.{entry_at, after_length, front_of}
use Rattle.capture.specs.declared.Length.{Length}
use Rattle.capture.specs.declared.Ending.{Ending}
use Rattle.capture.specs.declared.Ending.TheVariants.{End, Cut, Bad}

-- a length by the bytes that are there
no_byte : length_of [] ≡ Err End
unfolding length_of
no_byte = sym (chosen _ _ _ refl refl)

one_byte : (x : ℕ) → length_of (x ∷ []) ≡ choose (x ≤? 0x7f) (whole x 1) (Err Cut)
unfolding length_of
one_byte x =
    sym (passed_over _ _ _ (λ e. omega arith)
    (ap (choose (x ≤? 0x7f) (whole x 1)) (chosen _ (Err Cut) _ refl refl)))

two_bytes : (x y : ℕ) (s : List ℕ) → length_of (x ∷ y ∷ s) ≡ choose (x ≤? 0x7f) (whole x 1) (second_group x y)
unfolding length_of
two_bytes x y s =
    sym (passed_over _ _ _ (λ e. omega arith)
    (ap (choose (x ≤? 0x7f) (whole x 1)) (passed_over _ (Err Cut) _ (λ e. omega arith) refl)))

length_more : (s t : List ℕ) → (length_of s ≡ Err Cut → ⊥) → (length_of s ≡ Err End → ⊥) → length_of (s ++ t) ≡ length_of s
length_more [] t cut end = absurd (end no_byte)
length_more (x ∷ []) [] cut end = refl
length_more (x ∷ []) (y ∷ t) cut end =
    decide (x ≤? 0x7f)
    (λ h.
    two_bytes x y t
    ∙ sym (chosen (x ≤? 0x7f) (whole x 1) (second_group x y) h refl)
    ∙ chosen (x ≤? 0x7f) (whole x 1) (Err Cut) h refl
    ∙ sym (one_byte x))
    (λ h. absurd (cut (one_byte x ∙ sym (passed_over (x ≤? 0x7f) (whole x 1) (Err Cut) h refl))))
length_more (x ∷ y ∷ s) t cut end = two_bytes x y (s ++ t) ∙ sym (two_bytes x y s)

pub front_more : (s t : List ℕ) → (front_of s ≡ Err Cut → ⊥) → (front_of s ≡ Err End → ⊥) → front_of (s ++ t) ≡ front_of s
unfolding front_of
front_more s t cut end = by (length_of s) refl
  where
    stays : (x : Result Length Ending) → length_of s ≡ x → (x ≡ Err Cut → ⊥) → (x ≡ Err End → ⊥) → length_of (s ++ t) ≡ x
    stays x e c d = length_more s t (λ f. c (sym e ∙ f)) (λ f. d (sym e ∙ f)) ∙ e

    by : (x : Result Length Ending) → length_of s ≡ x → after_length (s ++ t) (length_of (s ++ t)) ≡ after_length s (length_of s)
    by (Ok x) e =
        let fits = x.used + x.len ≤? length s in
        decide fits
        (λ h.
        rw (stays (Ok x) e (λ f. cc) (λ f. cc), e)
        (sym (chosen (x.used + x.len ≤? length (s ++ t)) (entry_at x.used x.len) (Err Cut) (simp length-append (omega arith)) refl)
        ∙ chosen fits (entry_at x.used x.len) (Err Cut) h refl))
        (λ h. absurd (cut (rw e (sym (passed_over fits (entry_at x.used x.len) (Err Cut) h refl)))))
    by (Err Bad) e = rw (stays (Err Bad) e (λ f. cc) (λ f. cc), e)
    by (Err Cut) e = absurd (cut (rw e))
    by (Err End) e = absurd (end (rw e))
