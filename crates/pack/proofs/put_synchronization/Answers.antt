use Rattle.std.proofs.Common.{◌≡◌, length, refl, rules}
use Rattle.extended.specs.Bytes.{synchronization_framing_bytes}
use Rattle.pack.proofs.Writing.{framed_then}
use Rattle.pack.specs.Writing.{root_head, synchronization_bytes}
use Rattle.pack.proofs.put_synchronization.Goals as goal

pub returns : goal.returns
unfolding synchronization_bytes
returns c = let sixteen : length c.args.cid ≡ 16 = search rules in
    let a = c.args in
    framed_then a.buf.now _ _ (root_head 33 8) a.cid (synchronization_framing_bytes a.fields) refl (sixteen)
    c.put_root.ensures c.pack.ensures
