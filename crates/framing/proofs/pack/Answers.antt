use Prim.Native.Nat.{ℕ, ◌+◌}
use mathlib.Core.List.{List}
use mathlib.Core.Path.{◌≡◌, refl, sym}
use native.Mathlib.Omega.{arith}
use lib.ListN.{length}
use lib.Seq.{sets}
use Rattle.wire.proofs.Laws.{sets_past}
use Rattle.name.specs.Name.{name_bytes}
use Rattle.name.proofs.Laws.{bytes_64}
use Rattle.dmp.specs.Layer.{dmp_bytes}
use Rattle.framing.specs.Bytes.{field_bytes, data_framing_bytes}
use Rattle.framing.specs.declared.DataFields.{DataFields}
use Rattle.pdu.specs.Head.{layer_head}
use Rattle.pdu.proofs.Segments.{four_segments}
use Rattle.framing.proofs.pack.Goals as goal

pub returns-then-buf-at : goal.returns-then-buf-at
returns-then-buf-at c = let a = c.args in
    sym (sets_past (data_framing_bytes a.fields a.name.now a.values.now) a.buf.now a.at (omega arith))

-- the four runs of the layer, each written into what the one before it left
written : (l headed named filled packed : List ℕ) (at : ℕ) (f : DataFields) (name values : List ℕ) →
    headed ≡ sets l at (layer_head (87 + length values) 2) →
    named ≡ sets headed (at + 6) (name_bytes name) →
    filled ≡ sets named (at + 70) (field_bytes f) →
    packed ≡ sets filled (at + 77) (dmp_bytes values) →
    packed ≡ sets l at (data_framing_bytes f name values)
unfolding data_framing_bytes
written l headed named filled packed at f name values p q r s =
    let e : at + 70 + 7 ≡ at + 77 = omega arith in
    cc (four_segments l at (layer_head (87 + length values) 2) (name_bytes name) (field_bytes f) (dmp_bytes values) 7 refl (bytes_64 name) refl)

pub returns : goal.returns
returns c = let a = c.args in
    written a.buf.now _ _ _ _ a.at a.fields a.name.now a.values.now c.put_head.ensures c.pack_source_name.ensures
    c.put_fields.ensures c.pack.ensures
