use Rattle.std.proofs.Common.{◌≤◌, ◌-◌, ◌≡◌, refl, sym, ap, ◌∙◌, true, false, [], append-nil, length, take, drop, Err, arith}
use Rattle.capture.specs.Entry.{front_of}
use Rattle.capture.specs.declared.Ending.TheVariants.{Bad}
use Rattle.standard_io.specs.System.{counted, reached_by}
use Rattle.standard_io.specs.declared.Heard.{Heard}
use Rattle.capture_input.specs.Entries.{waits_at}
use Rattle.capture_input.proofs.Laws.{after_quiet, more_then, arrive, arrive_long, front_part, no_more, some_more, stops_at}
use Rattle.capture_input.proofs.Unread.read_entry.Goals as goal

pub returns-then-more-len : goal.returns-then-more-len
returns-then-more-len g c = let l = c.loop-block in
    let read = c.read_more-heard in
    let z : l.len - 0 ≡ l.len = omega arith in
    let here = front_of (take l.len l.block) in
    let waits : waits_at here ≡ true = rw z at (sym c.waits.ensures ∙ c.loop-block-test.true) in
    let m = read.new.block in
    let quiet = c.quiet-heard in
    let stuck : reached_by read.result.said l.len ≤ l.len = omega (arith, c.reached-more.ensures) in
    let none : reached_by read.result.said l.len - l.len ≡ 0 = omega arith in
    rw (front_part m l.len (omega arith), read.ensures.block_unchanged) (record {
      more = after_quiet (take c.args.len c.args.block.now) (take l.len l.block) c.args.before quiet.result read.result quiet.ensures
          (more_then (take c.args.len c.args.block.now) (take l.len l.block) (take l.len l.block) quiet.result l.heard read.result l.invariant.2 waits
          [] (sym (append-nil (take l.len l.block))) (ap (λ (h : Heard). h.total) read.ensures.arrived.1 ∙ ap (counted l.heard.total) none));
      enough = no_more read.result.said l.len (length l.block) here read.ensures.arrived.0 stuck waits;
    })

pub loop-block-preserved : goal.loop-block-preserved
loop-block-preserved g c = let l = c.loop-block in
    let read = c.read_more-heard in
    let z : l.len - 0 ≡ l.len = omega arith in
    let waits : waits_at (front_of (take l.len l.block)) ≡ true = rw z at (sym c.waits.ensures ∙ c.loop-block-test.true) in
    let m = c.reached-more.result in
    let some = some_more read.result.said l.len (length l.block) (Err Bad) read.ensures.arrived.0 (omega (arith, c.reached-more.ensures)) refl in
    let long : m ≤ length read.new.block = omega (arith, some.0, c.reached-more.ensures) in
    let brought : reached_by read.result.said l.len - l.len ≡ length (take (m - l.len) (drop l.len read.new.block)) = omega (arith, c.reached-more.ensures, arrive_long read.new.block l.len m (omega arith) long) in (
      omega (arith, some.0, c.reached-more.ensures),
      omega arith,
      more_then (take c.args.len c.args.block.now) (take l.len l.block) (take m read.new.block) c.quiet-heard.result l.heard read.result l.invariant.2 waits
          (take (m - l.len) (drop l.len read.new.block)) (arrive l.block read.new.block l.len m (omega arith) read.ensures.block_unchanged) (ap (λ (h : Heard). h.total) read.ensures.arrived.1 ∙ ap (counted l.heard.total) brought),
      some.1,
    )

pub returns-after-loop-block : goal.returns-after-loop-block
returns-after-loop-block g c = let l = c.loop-block in
    let z : l.len - 0 ≡ l.len = omega arith in
    let quiet = c.quiet-heard in
    let here = front_of (take l.len l.block) in
    let rests : waits_at here ≡ false = rw z at (sym c.waits.ensures ∙ c.loop-block-test.false) in
    rw (front_part l.block l.len (omega arith)) (record { more = after_quiet _ _ c.args.before quiet.result l.heard quiet.ensures l.invariant.2; enough = stops_at l.heard.said (Err Bad) here l.invariant.3 refl rests })
