use Rattle.std.proofs.Common.{take, sym, ◌∙◌, arith}
use Rattle.wire.proofs.Laws.{sets_past, sets_take, lent_rest}
use Rattle.wire.proofs.copy.Goals as goal

pub returns-then-buf-at : goal.returns-then-buf-at
returns-then-buf-at c = sym (sets_past c.args.src.now _ _ (omega arith))

pub returns : goal.returns
returns c = let a = c.args in
    let b = a.buf.now in
    let n = c.least-n.result in
    lent_rest (take n a.src.now) b a.at c.copy_run.ensures
    ∙ sets_take a.src.now b a.at n (omega arith)
