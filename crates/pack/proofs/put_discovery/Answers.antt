use Rattle.std.proofs.Common.{◌≡◌, ◌+◌, ◌*◌, length, refl, rules}
use Rattle.extended.specs.Bytes.{discovery_framing_bytes}
use Rattle.pack.proofs.Writing.{framed_then}
use Rattle.pack.specs.Writing.{root_head, discovery_bytes}
use Rattle.pack.proofs.put_discovery.Goals as goal

pub returns : goal.returns
unfolding discovery_bytes
returns c = let sixteen : length c.args.cid ≡ 16 = search rules in
    let a = c.args in
    framed_then a.buf.now _ _ (root_head (104 + 2 * length a.universes.now) 8) a.cid (discovery_framing_bytes a.fields a.name.now a.universes.now) refl (sixteen)
    c.put_root.ensures c.pack.ensures
