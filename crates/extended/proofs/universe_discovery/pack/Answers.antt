use Prim.Native.Nat.{ℕ, ◌+◌, ◌*◌}
use mathlib.Core.Path.{◌≡◌, refl, sym}
use mathlib.Core.List.{List}
use native.Mathlib.Omega.{arith}
use lib.Seq.{sets}
use lib.ListN.{length}
use Rattle.wire.specs.Fields.{be32}
use Rattle.wire.proofs.Laws.{sets_past}
use Rattle.name.specs.Name.{name_bytes}
use Rattle.name.proofs.Laws.{bytes_64}
use Rattle.discovery.specs.Layer.{discovery_bytes}
use Rattle.discovery.specs.declared.DiscoveryFields.{DiscoveryFields}
use Rattle.pdu.specs.Head.{layer_head}
use Rattle.pdu.proofs.Segments.{four_segments}
use Rattle.extended.specs.Bytes.{discovery_framing_bytes}
use Rattle.extended.proofs.universe_discovery.pack.Goals as goal

pub returns-then-buf-at : goal.returns-then-buf-at
returns-then-buf-at c = let a = c.args in
    sym (sets_past (discovery_framing_bytes a.fields a.name.now a.universes.now) a.buf.now a.at (omega arith))

-- the four runs of the layer, each written into what the one before it left
written : (l headed named reserved packed : List ℕ) (at : ℕ) (f : DiscoveryFields) (name us : List ℕ) →
    headed ≡ sets l at (layer_head (82 + 2 * length us) 2) →
    named ≡ sets headed (at + 6) (name_bytes name) →
    reserved ≡ sets named (at + 70) (be32 0) →
    packed ≡ sets reserved (at + 74) (discovery_bytes f us) →
    packed ≡ sets l at (discovery_framing_bytes f name us)
unfolding discovery_framing_bytes
written l headed named reserved packed at f name us p q r s =
    let e : at + 70 + 4 ≡ at + 74 = omega arith in
    cc (four_segments l at (layer_head (82 + 2 * length us) 2) (name_bytes name) (be32 0) (discovery_bytes f us) 4 refl (bytes_64 name) refl)

pub returns : goal.returns
returns c = let a = c.args in
    written a.buf.now _ _ _ _ a.at a.fields a.name.now a.universes.now c.put_head.ensures c.pack_source_name.ensures
    c.put_u32.ensures c.pack.ensures
