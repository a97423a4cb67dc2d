use Rattle.std.proofs.Common.{◌+◌, ◌-◌, ◌≤◌, ◌<◌, ℕ, List, length, sym, ap, ◌∙◌, take_all, arith}
use Rattle.std.proofs.lemmas.List.Edits.{sets}
use Rattle.std.proofs.Math.Seq.{length-sets}
use Rattle.wire.proofs.Laws.{copied_part}
use Rattle.page_collector.proofs.Memory.{left, left_put, left_length, none_left}
use Rattle.page_collector.proofs.join.AllPages.copy_to.Goals as goal

pub loop-k-preserved : goal.loop-k-preserved
loop-k-preserved c = let cs = c.args.self.now.counts.now in
    let m = c.args.self.now.memory.now in
    let k = c.loop-k.k in
    let l = c.loop-k.list in
    let at = c.loop-k.at in
    let page = c.page-page.result.now in
    let is = c.page-page.ensures.page in
    let inside : k < length cs = omega arith in
    let room : at + length page ≤ length l = omega (arith, inside, c.page-page.ensures.few, c.loop-k.invariant.0, c.loop-k.invariant.1) in
    let put =
    copied_part page l at (at + length page - at) (length page) (c.copy_from_slice.ensures.after ∙ sym (take_all (length page) page (omega arith))) (omega arith) (omega arith) (omega arith) in (
      omega (arith, c.page-page.ensures.few, c.loop-k.invariant.0),
      ap length put ∙ length-sets l at page ∙ c.loop-k.invariant.1,
      omega (arith, left_length cs m k inside, ap length is, c.loop-k.invariant.2),
      ap (λ (x : List ℕ). sets x (at + length page) (left cs m (k + 1))) put
          ∙ ap (λ (p : List ℕ). sets (sets l at p) (at + length p) (left cs m (k + 1))) is
          ∙ sym (left_put cs m l k at inside)
          ∙ c.loop-k.invariant.3,
    )

pub returns : goal.returns
returns c = let none = none_left c.args.self.now.counts.now c.args.self.now.memory.now c.loop-k.list c.loop-k.k c.loop-k.at (omega arith) in
    record { count = omega (arith, none.1, c.loop-k.invariant.2); list = sym none.0 ∙ c.loop-k.invariant.3 }
