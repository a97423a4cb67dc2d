use Rattle.std.proofs.Common.{sym, arith, add-one, length-set}
use Rattle.std.proofs.Math.Seq.{set_out}
use Rattle.wire.specs.Fields.{be16}
use Rattle.wire.proofs.Laws.{sets_past}
use Rattle.wire.proofs.put_u16.Goals as goal

pub returns-then-buf-at : goal.returns-then-buf-at
returns-then-buf-at c = let a = c.args in
    sym (sets_past (be16 a.v) a.buf.now a.at c.if-buf-at.true)

pub returns-then-at-buf : goal.returns-then-at-buf
returns-then-at-buf c = rw (c.to_be_bytes.ensures, add-one)

pub returns-else-at-buf : goal.returns-else-at-buf
returns-else-at-buf c = let a = c.args in
    rw c.to_be_bytes.ensures (sym (set_out _ _ _ (simp length-set (omega (arith, simp length-set at c.if-at-buf.false)))))
