use Rattle.std.proofs.Common.{◌+◌, ◌-◌, ◌/◌, ◌%◌, ◌<◌, ◌≡◌, arith, length, take, drop}
use Rattle.std.proofs.Math.ListN.{get_or-eq_default}
use Rattle.wire.specs.Bytes.{Bytes}
use Rattle.wire.specs.Fields.{byte_at}
use Rattle.name.specs.Words.{word_of}
use Rattle.name.proofs.WordLaws.{word_next, word_some}
use Rattle.name.proofs.Pass.{not_past, Judged, stands_first, stands_over, stands_more, judged_ascii, judged_stepped}
use Rattle.name.proofs.walk.walk.Goals.{then-skips, else-skips+else-loop-word-test}
use Rattle.name.proofs.walk.walk.Goals as goal

pub loop-at-init : goal.loop-at-init
loop-at-init c = stands_first c.args.s.now

pub zero_in-end-requires : goal.zero_in-end-requires
zero_in-end-requires c = (c.skips.ensures c.if-skips.true).1

pub overflow_add-end : goal.overflow_add-end
overflow_add-end c = let bytes : Bytes c.args.s.now = λ i. (c.type_inv.s i).fits in
    let skipped : let end = c.loop-at.at + c.zero_in-end.result in Judged c.args.s.now c.loop-at.expect end c.loop-at.at end = let skips = c.skips.ensures c.if-skips.true in judged_ascii c.args.s.now c.loop-at.expect c.loop-at.whole c.loop-at.at c.word_at-word.result c.zero_in-end.result bytes c.loop-at.invariant skips.0 c.word_at-word.ensures skips.1 c.zero_in-end.ensures in
    omega (arith, skipped.stands.inside)

pub loop-word-init : goal.loop-word-init
loop-word-init c = let n : c.loop-at.at + 8 - c.loop-at.at ≡ 8 = omega arith in
    (c.loop-at.invariant, omega arith, rw n c.word_at-word.ensures)

pub overflow_add-end-in-loop-word : goal.overflow_add-end-in-loop-word
overflow_add-end-in-loop-word c = let bytes : Bytes c.args.s.now = λ i. (c.type_inv.s i).fits in
    let lowest : let s = c.args.s.now in let n = c.loop-at.at + 8 - c.loop-word.end in (0 < n) × (c.loop-word.word % 0x100 ≡ byte_at s c.loop-word.end) × (c.loop-word.word / 0x100 ≡ word_of (take (n - 1) (drop (c.loop-word.end + 1) s))) = let w = c.loop-word in let s = c.args.s.now in let n = c.loop-at.at + 8 - w.end in let some = word_some n w.word (drop w.end s) w.invariant.2 (λ z. omega arith) in let next = word_next n s w.end bytes some in (some, rw w.invariant.2 next.0, rw w.invariant.2 next.1) in
    omega (arith, not_past c.args.s.now c.loop-word.end (λ z. omega (arith, lowest.1)))

pub loop-word-preserved : goal.loop-word-preserved
loop-word-preserved c = let bytes : Bytes c.args.s.now = λ i. (c.type_inv.s i).fits in
    let lowest : let s = c.args.s.now in let n = c.loop-at.at + 8 - c.loop-word.end in (0 < n) × (c.loop-word.word % 0x100 ≡ byte_at s c.loop-word.end) × (c.loop-word.word / 0x100 ≡ word_of (take (n - 1) (drop (c.loop-word.end + 1) s))) = let w = c.loop-word in let s = c.args.s.now in let n = c.loop-at.at + 8 - w.end in let some = word_some n w.word (drop w.end s) w.invariant.2 (λ z. omega arith) in let next = word_next n s w.end bytes some in (some, rw w.invariant.2 next.0, rw w.invariant.2 next.1) in
    let w = c.loop-word in
    let s = c.args.s.now in
    let b = lowest in
    let n : c.loop-at.at + 8 - (w.end + 1) ≡ c.loop-at.at + 8 - w.end - 1 = omega arith in (
      rw (c.mark-whole.ensures, c.next-expect.ensures) (stands_more s w.expect w.whole w.end _ w.invariant.0 b.1 (λ z. omega arith)),
      omega (arith, b.0),
      rw n b.2,
    )

pub returns-then-end-at : goal.returns-then-end-at
returns-then-end-at c = let bytes : Bytes c.args.s.now = λ i. (c.type_inv.s i).fits in
    let judged : Judged c.args.s.now c.if-skips.expect c.if-skips.whole c.loop-at.at c.if-skips.end =
    elim c.if-skips.branch [
      | then-skips w ↦ let k = c.skips.ensures w.if-skips.true in
          rw (w.expect-is, w.whole-is, w.end-is)
          (judged_ascii c.args.s.now c.loop-at.expect c.loop-at.whole c.loop-at.at c.word_at-word.result w.zero_in-end.result
          bytes c.loop-at.invariant k.0 c.word_at-word.ensures k.1 w.zero_in-end.ensures)
      | else-skips+else-loop-word-test w ↦ let l = w.loop-word in
          rw (w.expect-is, w.whole-is, w.end-is)
          (judged_stepped c.args.s.now l.expect l.whole c.loop-at.at l.end l.word bytes l.invariant.0 l.invariant.1 l.invariant.2 (omega arith))
    ] in
    stands_over c.args.s.now c.if-skips.expect c.if-skips.whole c.if-skips.end judged.stands (judged.ends (omega arith))

pub loop-at-preserved : goal.loop-at-preserved
loop-at-preserved c = let bytes : Bytes c.args.s.now = λ i. (c.type_inv.s i).fits in
    let judged : Judged c.args.s.now c.if-skips.expect c.if-skips.whole c.loop-at.at c.if-skips.end =
    elim c.if-skips.branch [
      | then-skips w ↦ let k = c.skips.ensures w.if-skips.true in
          rw (w.expect-is, w.whole-is, w.end-is)
          (judged_ascii c.args.s.now c.loop-at.expect c.loop-at.whole c.loop-at.at c.word_at-word.result w.zero_in-end.result
          bytes c.loop-at.invariant k.0 c.word_at-word.ensures k.1 w.zero_in-end.ensures)
      | else-skips+else-loop-word-test w ↦ let l = w.loop-word in
          rw (w.expect-is, w.whole-is, w.end-is)
          (judged_stepped c.args.s.now l.expect l.whole c.loop-at.at l.end l.word bytes l.invariant.0 l.invariant.1 l.invariant.2 (omega arith))
    ] in
    let e : c.if-skips.end ≡ c.loop-at.at + 8 = omega (arith, judged.few) in
    rw e at judged.stands

pub returns-else-end-at : goal.returns-else-end-at
returns-else-end-at c = let bytes : Bytes c.args.s.now = λ i. (c.type_inv.s i).fits in
    let judged : Judged c.args.s.now c.if-skips.expect c.if-skips.whole c.loop-at.at c.if-skips.end =
    elim c.if-skips.branch [
      | then-skips w ↦ let k = c.skips.ensures w.if-skips.true in
          rw (w.expect-is, w.whole-is, w.end-is)
          (judged_ascii c.args.s.now c.loop-at.expect c.loop-at.whole c.loop-at.at c.word_at-word.result w.zero_in-end.result
          bytes c.loop-at.invariant k.0 c.word_at-word.ensures k.1 w.zero_in-end.ensures)
      | else-skips+else-loop-word-test w ↦ let l = w.loop-word in
          rw (w.expect-is, w.whole-is, w.end-is)
          (judged_stepped c.args.s.now l.expect l.whole c.loop-at.at l.end l.word bytes l.invariant.0 l.invariant.1 l.invariant.2 (omega arith))
    ] in
    let e : c.if-skips.end ≡ length c.args.s.now = omega (arith, judged.stands.inside, judged.few) in
    rw (← e) (stands_over c.args.s.now c.if-skips.expect c.if-skips.whole c.if-skips.end judged.stands (get_or-eq_default c.args.s.now 0 (omega arith)))

pub returns : goal.returns
returns c = let s = c.args.s.now in
    let e : c.loop-at.at ≡ length s = omega (arith, c.loop-at.invariant.inside) in
    rw (← e) (stands_over s c.loop-at.expect c.loop-at.whole c.loop-at.at c.loop-at.invariant (get_or-eq_default s 0 (omega arith)))
