-- What an answer tells. Assumes nothing.
use mathlib.Core.Path.{◌≡◌, refl, subst}
use mathlib.Core.Bool.{Bool, true, false}
use Rattle.name_pattern.specs.Walk.{Tells}

pub so : {A : Type 0} {b : Bool} → b ≡ true → Tells b A → A
so {A} e t = subst (λ (b : Bool). Tells b A) e t

pub not_so : {A : Type 0} {b : Bool} → b ≡ false → Tells b A → A → ⊥
not_so {A} e t = subst (λ (b : Bool). Tells b A) e t

-- what is so is told
pub told_so : {A : Type 0} (b : Bool) → Tells b A → A → b ≡ true
told_so true t a = refl
told_so false t a = absurd (t a)

pub told_not : {A : Type 0} (b : Bool) → Tells b A → (A → ⊥) → b ≡ false
told_not true t f = absurd (f t)
told_not false t f = refl
