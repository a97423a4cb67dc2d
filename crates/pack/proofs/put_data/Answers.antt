use Rattle.std.proofs.Common.{◌≡◌, ◌+◌, length, refl, rules}
use Rattle.framing.specs.Bytes.{data_framing_bytes}
use Rattle.pack.proofs.Writing.{framed_then}
use Rattle.pack.specs.Writing.{root_head, data_bytes}
use Rattle.pack.proofs.put_data.Goals as goal

pub returns : goal.returns
unfolding data_bytes
returns c = let sixteen : length c.args.cid ≡ 16 = search rules in
    let a = c.args in
    framed_then a.buf.now _ _ (root_head (109 + length a.values.now) 4) a.cid (data_framing_bytes a.fields a.name.now a.values.now) refl (sixteen)
    c.put_root.ensures c.pack.ensures
