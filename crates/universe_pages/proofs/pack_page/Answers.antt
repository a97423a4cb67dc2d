use Rattle.std.proofs.Common.{◌≡◌, ◌-◌, ◌*◌, ◌≤◌, length, take, drop, sym, ◌∙◌, arith}
use Rattle.refusal.proofs.Laws.{stop}
use Rattle.pack.specs.Writing.{packed_of}
use Rattle.pack.proofs.Writing.{left_as_found}
use Rattle.universe_pages.specs.Pages.{last_page_of, page_of}
use Rattle.universe_pages.proofs.Rising.{passed→rising}
use Rattle.universe_pages.proofs.Pages.{few_pages, page_cut}
use Rattle.universe_pages.proofs.Writing.{order_refused, order_passed, page_packed}
use Rattle.universe_pages.proofs.pack_page.Goals as goal

pub returns-in_err-check_order : goal.returns-in_err-check_order
returns-in_err-check_order c = record { answer = order_refused _ _ _ _ _ c.in_err-check_order.ensures c.from_residual.ensures.1; bytes = left_as_found _ _ _ _ c.from_residual.ensures.1 }

pub returns-then-pages-page : goal.returns-then-pages-page
unfolding packed_of
returns-then-pages-page c =
    record { answer = order_passed _ _ _ _ _ c.in_ok-check_order.ensures (stop 0 _ _ _ (omega arith) c.refuse.ensures); bytes = cc }

pub overflow_cast-last_page : goal.overflow_cast-last_page
overflow_cast-last_page c =
    let us = c.args.universes.now in
    let few = few_pages us (λ i h. omega (arith, c.type_inv.universes i)) (passed→rising us (sym c.in_ok-check_order.ensures)) in
    omega (arith, few, c.page_count-pages.ensures)

pub returns : goal.returns
returns c =
    let us = c.args.universes.now in
    let k = c.args.page in
    let ascends = passed→rising us (sym c.in_ok-check_order.ensures) in
    let there : k ≤ last_page_of us = omega arith in
    let last : c.page_count-pages.result - 1 ≡ last_page_of us = omega (arith, c.page_count-pages.ensures) in
    let page : take (c.min-end.result - 512 * k) (drop (512 * k) us) ≡ page_of us k =
    rw c.min-end.ensures (page_cut us (512 * k) (omega arith)) in
    let done = rw (page, last) at c.pack_discovery.ensures in
    record {
      answer = order_passed _ _ _ _ _ c.in_ok-check_order.ensures (done.answer ∙ page_packed (length c.args.buf.now) c.args.name.now us k there ascends);
      bytes = done.bytes;
    }
