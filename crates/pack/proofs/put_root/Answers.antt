use Rattle.std.proofs.Common.{◌≡◌, ◌∙◌, ℕ, List, [], ◌∷◌, ◌++◌}
use Rattle.std.proofs.lemmas.List.Edits.{sets}
use Rattle.wire.specs.Fields.{be16, be32, join}
use Rattle.wire.proofs.Laws.{be32_bytes}
use Rattle.pdu.specs.Head.{flags_field}
use Rattle.pack.specs.Writing.{identifier, root_head}
use Rattle.pack.proofs.put_root.Goals as goal

-- the bytes before the CID, and the CID written into what they left
written : (l headed copied : List ℕ) (flags n vector : ℕ) (cid : List ℕ) →
    flags ≡ flags_field n →
    headed ≡ sets l 0 (join (be16 0x0010 ∷ be16 0 ∷ identifier ∷ be16 flags ∷ be32 vector ∷ [])) →
    copied ≡ sets headed 22 cid →
    copied ≡ sets l 0 (root_head n vector ++ cid)
written l headed copied flags n vector cid p q r = cc

pub returns : goal.returns
returns c = written c.args.buf.now _ _ _ c.args.length c.args.vector c.args.cid c.flags_and_length.ensures
    (rw (c.to_be_bytes.ensures, c.to_be_bytes-2.ensures, c.to_be_bytes-3.ensures, c.to_be_bytes-4.ensures ∙ be32_bytes c.args.vector) at c.copy.ensures) c.copy-2.ensures
