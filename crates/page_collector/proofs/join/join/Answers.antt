use Rattle.std.proofs.Common.{Option, ◌≡◌, ℕ, true, List, sym, refl, ap, ◌∙◌}
use Rattle.refusal.specs.Check.{outcome}
use Rattle.refusal.proofs.Tests.{Holds, Fails, holds, fails}
use Rattle.universe_pages.proofs.Rising.{rising}
use Rattle.page_collector.specs.Memory.{all_pages_there, joined}
use Rattle.page_collector.specs.Collect.{list_of}
use Rattle.page_collector.proofs.Memory.{all_joined, one_missing}
use Rattle.page_collector.proofs.Answered.{risen, risen_list, fallen, fallen_list}
use Rattle.page_collector.proofs.join.join.Goals as goal

-- all pages are there, as the code was told
there : (cs : List (Option ℕ)) → true ≡ outcome (all_pages_there cs) → Holds (all_pages_there cs)
there cs e = holds (all_pages_there cs) (sym e)

pub returns-then-not-has_all_pages : goal.returns-then-not-has_all_pages
returns-then-not-has_all_pages c =
    let cs = c.args.counts.now in
    let m = c.args.memory.now in
    rw (one_missing cs m (fails (all_pages_there cs) (sym c.if-not-has_all_pages.ensures))) (record { answer = refl; list = refl })

pub returns-then-not-ascend : goal.returns-then-not-ascend
returns-then-not-ascend c =
    let cs = c.args.counts.now in
    let m = c.args.memory.now in
    let fall : Fails (rising (joined cs m)) = fails (rising (joined cs m)) (sym c.if-not-ascend.ensures) in
    rw (all_joined cs m (there cs c.if-not-has_all_pages.ensures)) (record {
      answer = c.refuse.ensures ∙ sym (fallen (joined cs m) fall);
      list = sym (fallen_list (joined cs m) c.args.list.now fall);
    })

pub returns : goal.returns
returns c =
    let cs = c.args.counts.now in
    let m = c.args.memory.now in
    let rise : Holds (rising (joined cs m)) = holds (rising (joined cs m)) (sym c.if-not-ascend.ensures) in
    rw (all_joined cs m (there cs c.if-not-has_all_pages.ensures)) (record {
      answer = ap list_of c.copy_to-count.ensures.count ∙ sym (risen (joined cs m) rise);
      list = c.copy_to-count.ensures.list ∙ sym (risen_list (joined cs m) c.args.list.now rise);
    })
