use mathlib.Core.Path.{◌≡◌, refl}
use native.Mathlib.Omega.{arith}
use Rattle.refusal.specs.declared.Refusal.{Refusal}
use Rattle.refusal.specs.Check.{framing, ◌=?◌, ◌or◌}
use Rattle.failed_check.specs.Tell.{Refuses}
use Rattle.failed_check.proofs.Laws.{by_last, among}
use Rattle.failed_check.proofs.Layers.{synchronized, discovered, in_extended}
use Rattle.failed_check.proofs.extended_framing.in_framing.Goals as goal

pub returns-in-1 : goal.returns-in-1
returns-in-1 c = let refused : Refusal = c.args.refusal in
    let p = c.args.p.now in
    let number : (refused).number ≡ 1 = omega arith in
    in_extended c.args.whole p (refused) c.requires.0 _ c.requires.1
    (λ v e. by_last 1 framing (synchronized c.args.whole p) (refused) _ e number c.requires.1 c.at.ensures)
    (λ v e. by_last 1 framing (discovered c.args.whole p) (refused) _ e number c.requires.1 c.at.ensures)

pub returns-in-3 : goal.returns-in-3
returns-in-3 c = let refused : Refusal = c.args.refusal in
    let p = c.args.p.now in
    let number : (refused).number ≡ 3 = omega arith in
    in_extended c.args.whole p (refused) c.requires.0 _ c.requires.1
    (λ v e. by_last 3 framing (synchronized c.args.whole p) (refused) _ e number c.requires.1 c.at-in-3.ensures)
    (λ v e. by_last 3 framing (discovered c.args.whole p) (refused) _ e number c.requires.1 c.at-in-3.ensures)

pub returns-in-4 : goal.returns-in-4
returns-in-4 c = let refused : Refusal = c.args.refusal in
    let p = c.args.p.now in
    let number : (refused).number ≡ 4 = omega arith in
    in_extended c.args.whole p (refused) c.requires.0 _ c.requires.1
    (λ v e. by_last 4 framing (synchronized c.args.whole p) (refused) _ e number c.requires.1 c.at-in-4.ensures)
    (λ v e. by_last 4 framing (discovered c.args.whole p) (refused) _ e number c.requires.1 c.at-in-4.ensures)

pub returns-in-6 : goal.returns-in-6
returns-in-6 c = let refused : Refusal = c.args.refusal in
    let p = c.args.p.now in
    let number : (refused).number ≡ 6 = omega arith in
    in_extended c.args.whole p (refused) c.requires.0 _ c.requires.1
    (λ v e. by_last 6 framing (synchronized c.args.whole p) (refused) _ e number c.requires.1 tt)
    (λ v e. by_last 6 framing (discovered c.args.whole p) (refused) _ e number c.requires.1 c.at-in-6.ensures)

pub returns-in-7 : goal.returns-in-7
returns-in-7 c = let refused : Refusal = c.args.refusal in
    let p = c.args.p.now in
    let number : (refused).number ≡ 7 = omega arith in
    in_extended c.args.whole p (refused) c.requires.0 _ c.requires.1
    (λ v e. by_last 7 framing (synchronized c.args.whole p) (refused) _ e number c.requires.1 tt)
    (λ v e. by_last 7 framing (discovered c.args.whole p) (refused) _ e number c.requires.1 c.at-in-7.ensures)

pub returns-in_default : goal.returns-in_default
returns-in_default c = let refused : Refusal = c.args.refusal in
    let number-nine : Refuses (synchronized c.args.whole c.args.p.now) (refused) → ((refused).number ≡ 1 → ⊥) → ((refused).number ≡ 3 → ⊥) → ((refused).number ≡ 14 → ⊥) → ((refused).number ≡ 4 → ⊥) → ((refused).number ≡ 5 → ⊥) → (refused).number ≡ 9 = λ e. among (λ (r : Refusal). r.number =? 1 or r.number =? 3 or r.number =? 14 or r.number =? 4 or r.number =? 5 or r.number =? 9) (synchronized c.args.whole c.args.p.now) (refused) refl e in
    let none_left : Refuses (discovered c.args.whole c.args.p.now) (refused) → ((refused).number ≡ 1 → ⊥) → ((refused).number ≡ 3 → ⊥) → ((refused).number ≡ 14 → ⊥) → ((refused).number ≡ 4 → ⊥) → ((refused).number ≡ 5 → ⊥) → ((refused).number ≡ 6 → ⊥) → (refused).number ≡ 7 = λ e. among (λ (r : Refusal). r.number =? 1 or r.number =? 3 or r.number =? 14 or r.number =? 4 or r.number =? 5 or r.number =? 6 or r.number =? 7) (discovered c.args.whole c.args.p.now) (refused) refl e in
    let p = c.args.p.now in
    let gone = c.in_default.in_default-own.rest in
    let x = c.at-in_default.result in
    in_extended c.args.whole p (refused) c.requires.0 x c.requires.1
    (λ v e.
    let number = number-nine e gone.0.0.0.0.0.0.1 gone.0.0.0.0.0.1 gone.0.0.0.0.1 gone.0.0.0.1 gone.0.0.1 in
    by_last 9 framing (synchronized c.args.whole p) (refused) x e number c.requires.1 c.at-in_default.ensures)
    (λ v e.
    absurd
    (gone.1
    (none_left e gone.0.0.0.0.0.0.1 gone.0.0.0.0.0.1 gone.0.0.0.0.1 gone.0.0.0.1 gone.0.0.1 gone.0.1)))
