use Prim.Native.Nat.{ℕ}
use mathlib.Core.Path.{◌≡◌, refl}
use mathlib.Core.List.{List}
use native.Mathlib.Omega.{arith}
use Rattle.refusal.specs.declared.Refusal.{Refusal}
use Rattle.refusal.specs.declared.Identity.{Identity}
use Rattle.refusal.specs.Check.{Check, root, ◌=?◌, ◌≠?◌, ◌or◌}
use Rattle.pdu.specs.declared.Edition.{Edition}
use Rattle.pdu.specs.declared.Edition.TheVariants.{E2018, E2009}
use Rattle.failed_check.specs.Tell.{vector_identity, outer_checks, Refuses, Names}
use Rattle.failed_check.proofs.Laws.{by_last, by_last_in, among_in}
use Rattle.failed_check.proofs.outer.in_root.Goals as goal

of-its-vector : (edition : Edition) (d : List ℕ) (r : Refusal) (x : Identity) → Refuses (outer_checks edition d) r → r.number ≡ 4 → r.place ≡ root →
    x ≡ vector_identity edition → Names (outer_checks edition d) r x
of-its-vector E2018 d r x e f g is = by_last 4 root (outer_checks E2018 d) r x e f g is
of-its-vector E2009 d r x e f g is = by_last 4 root (outer_checks E2009 d) r x e f g is

pub returns-in-1 : goal.returns-in-1
returns-in-1 c = let checks : Edition → List Check = λ edition. outer_checks edition c.args.d.now in
    let refused : Refusal = c.args.refusal in
    by_last_in (checks) (refused) c.args.edition 1 root _ c.requires.0 (omega arith) c.requires.1 c.at.ensures c.at.ensures

pub returns-in-3 : goal.returns-in-3
returns-in-3 c = let checks : Edition → List Check = λ edition. outer_checks edition c.args.d.now in
    let refused : Refusal = c.args.refusal in
    by_last_in (checks) (refused) c.args.edition 3 root _ c.requires.0 (omega arith) c.requires.1 c.at-in-3.ensures c.at-in-3.ensures

pub returns-in-14 : goal.returns-in-14
returns-in-14 c = let checks : Edition → List Check = λ edition. outer_checks edition c.args.d.now in
    let refused : Refusal = c.args.refusal in
    by_last_in (checks) (refused) c.args.edition 14 root _ c.requires.0 (omega arith) c.requires.1 c.at-in-14.ensures c.at-in-14.ensures

pub returns-in-4 : goal.returns-in-4
returns-in-4 c = let refused : Refusal = c.args.refusal in
    of-its-vector c.args.edition c.args.d.now (refused) _ c.requires.0 (omega arith) c.requires.1 c.of_vector.ensures

pub returns-in_default : goal.returns-in_default
returns-in_default c = let refused : Refusal = c.args.refusal in
    let checks : Edition → List Check = λ edition. outer_checks edition c.args.d.now in
    let number-thirteen : ((refused).number ≡ 1 → ⊥) → ((refused).number ≡ 3 → ⊥) → ((refused).number ≡ 14 → ⊥) → ((refused).number ≡ 4 → ⊥) → (refused).number ≡ 13 = λ a b c₁ d. among_in (checks) (refused) c.args.edition (λ (r : Refusal). r.place ≠? root or r.number =? 1 or r.number =? 3 or r.number =? 14 or r.number =? 4 or r.number =? 13) refl refl c.requires.0 c.requires.1 a b c₁ d in
    let n = number-thirteen (omega arith) (omega arith) (omega arith) (omega arith) in
    by_last_in (checks) (refused) c.args.edition 13 root _ c.requires.0 n c.requires.1 c.at-in_default.ensures c.at-in_default.ensures
