use Rattle.std.proofs.Common.{ℕ, ◌+◌, List, ◌∷◌, ◌++◌, ◌≡◌, sym, arith, length}
use Rattle.std.proofs.lemmas.List.Edits.{sets}
use Rattle.wire.specs.Fields.{be16}
use Rattle.wire.proofs.Laws.{sets_append, sets_past}
use Rattle.pdu.specs.Head.{flags_field}
use Rattle.dmp.specs.Layer.{dmp_bytes, dmp_head}
use Rattle.dmp.proofs.pack.Goals as goal

pub returns-then-buf-at : goal.returns-then-buf-at
unfolding dmp_bytes
returns-then-buf-at c = let a = c.args in
    sym (sets_past (dmp_bytes a.values.now) a.buf.now a.at (omega arith))

-- the layer's start, and the values written into what that left
written : (l headed copied : List ℕ) (at flags : ℕ) (values : List ℕ) →
    flags ≡ flags_field (10 + length values) →
    headed ≡ sets l at (be16 flags ++ (2 ∷ 0xa1 ∷ be16 0 ++ (be16 1 ++ be16 (length values)))) →
    copied ≡ sets headed (at + 10) values →
    copied ≡ sets l at (dmp_bytes values)
unfolding dmp_bytes
written l headed copied at flags values p q r = cc (sets_append (dmp_head (length values)) values l at)

pub returns : goal.returns
returns c = let a = c.args in
    written a.buf.now _ _ a.at _ a.values.now c.flags_and_length-flags.ensures
    (rw (c.to_be_bytes.ensures, c.to_be_bytes-2.ensures, c.to_be_bytes-3.ensures, c.to_be_bytes-4.ensures) at c.copy.ensures) c.copy-2.ensures
