use Rattle.std.proofs.Common.{ℕ, ◌+◌, List, sym, ap, ◌∙◌, arith}
use Rattle.std.proofs.lemmas.List.Edits.{sets}
use Rattle.wire.proofs.Laws.{sets_past, sets_append}
use Rattle.pdu.specs.Head.{layer_head}
use Rattle.extended.specs.Bytes.{sync_field_bytes, synchronization_framing_bytes}
use Rattle.extended.proofs.synchronization.pack.Goals as goal

pub returns-then-buf-at : goal.returns-then-buf-at
returns-then-buf-at c = let a = c.args in
    sym (sets_past (synchronization_framing_bytes a.fields) a.buf.now a.at (omega arith))

pub returns : goal.returns
unfolding synchronization_framing_bytes
returns c = let a = c.args in
    let f = sync_field_bytes a.fields in
    (rw c.to_be_bytes.ensures at c.copy.ensures)
    ∙ ap (λ (b : List ℕ). sets b (a.at + 6) f) c.put_head.ensures
    ∙ sym (sets_append (layer_head 11 1) f a.buf.now a.at)
