use mathlib.Core.Path.{◌≡◌, refl}
use mathlib.Core.List.{List}
use native.Mathlib.Omega.{arith}
use Rattle.refusal.specs.declared.Refusal.{Refusal}
use Rattle.refusal.specs.Check.{Check, preamble, ◌=?◌, ◌≠?◌, ◌or◌}
use Rattle.pdu.specs.declared.Edition.{Edition}
use Rattle.failed_check.specs.Tell.{outer_checks}
use Rattle.failed_check.proofs.Laws.{by_last_in, by_test_in, among_in}
use Rattle.failed_check.proofs.outer.in_preamble.Goals as goal

pub returns-then-refusal-eq-PART_TOO_SHORT : goal.returns-then-refusal-eq-PART_TOO_SHORT
returns-then-refusal-eq-PART_TOO_SHORT c = let checks : Edition → List Check = λ edition. outer_checks edition c.args.d.now in
    let refused : Refusal = c.args.refusal in
    by_last_in (checks) (refused) c.args.edition 1 preamble _ c.requires.0 (omega arith) c.requires.1 c.at.ensures c.at.ensures

pub returns-then-u16_at-ne-E131_PREAMBLE_SIZE : goal.returns-then-u16_at-ne-E131_PREAMBLE_SIZE
returns-then-u16_at-ne-E131_PREAMBLE_SIZE c = let checks : Edition → List Check = λ edition. outer_checks edition c.args.d.now in
    let refused : Refusal = c.args.refusal in
    let number-two : ((refused).number ≡ 1 → ⊥) → (refused).number ≡ 2 = λ other. among_in (checks) (refused) c.args.edition (λ (r : Refusal). r.place ≠? preamble or r.number =? 1 or r.number =? 2) refl refl c.requires.0 c.requires.1 other in
    by_test_in (checks) (refused) c.args.edition 2 preamble _ 0 0 c.requires.0 (number-two (omega arith)) c.requires.1 (omega arith) c.at-then-u16_at-ne-E131_PREAMBLE_SIZE.ensures (omega arith)
    c.at-then-u16_at-ne-E131_PREAMBLE_SIZE.ensures

pub returns-then-u16_at-ne-E131_POSTAMBLE_SIZE : goal.returns-then-u16_at-ne-E131_POSTAMBLE_SIZE
returns-then-u16_at-ne-E131_POSTAMBLE_SIZE c = let checks : Edition → List Check = λ edition. outer_checks edition c.args.d.now in
    let refused : Refusal = c.args.refusal in
    let number-two : ((refused).number ≡ 1 → ⊥) → (refused).number ≡ 2 = λ other. among_in (checks) (refused) c.args.edition (λ (r : Refusal). r.place ≠? preamble or r.number =? 1 or r.number =? 2) refl refl c.requires.0 c.requires.1 other in
    by_test_in (checks) (refused) c.args.edition 2 preamble _ 1 1 c.requires.0 (number-two (omega arith)) c.requires.1 (omega arith) c.at-then-u16_at-ne-E131_POSTAMBLE_SIZE.ensures (omega arith)
    c.at-then-u16_at-ne-E131_POSTAMBLE_SIZE.ensures

pub returns : goal.returns
returns c = let checks : Edition → List Check = λ edition. outer_checks edition c.args.d.now in
    let refused : Refusal = c.args.refusal in
    let number-two : ((refused).number ≡ 1 → ⊥) → (refused).number ≡ 2 = λ other. among_in (checks) (refused) c.args.edition (λ (r : Refusal). r.place ≠? preamble or r.number =? 1 or r.number =? 2) refl refl c.requires.0 c.requires.1 other in
    by_last_in (checks) (refused) c.args.edition 2 preamble _ c.requires.0 (number-two (omega arith)) c.requires.1
    (omega arith, (omega arith, c.at-2.ensures)) (omega arith, (omega arith, c.at-2.ensures))
