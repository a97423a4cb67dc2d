use Prim.Native.Nat.{ℕ, ◌+◌, ◌*◌}
use mathlib.Core.List.{List, [], ◌∷◌, ◌++◌}
use mathlib.Core.Path.{◌≡◌, sym}
use native.Mathlib.Omega.{arith}
use lib.ListN.{length}
use lib.Seq.{sets}
use Rattle.wire.specs.Fields.{be16, be32}
use Rattle.wire.proofs.Laws.{sets_append, sets_past}
use Rattle.pdu.specs.Head.{flags_field}
use Rattle.discovery.specs.Universes.{universe_bytes}
use Rattle.discovery.specs.Layer.{discovery_bytes, discovery_head}
use Rattle.discovery.specs.declared.DiscoveryFields.{DiscoveryFields}
use Rattle.discovery.proofs.pack.Goals as goal

pub returns-then-buf-at : goal.returns-then-buf-at
unfolding discovery_bytes
returns-then-buf-at c = let a = c.args in
    sym (sets_past (discovery_bytes a.fields a.universes.now) a.buf.now a.at (omega arith))

-- the layer's start, and the list written into what that left
written : (l headed listed : List ℕ) (at flags : ℕ) (f : DiscoveryFields) (us : List ℕ) →
    flags ≡ flags_field (8 + 2 * length us) →
    headed ≡ sets l at (be16 flags ++ (be32 1 ++ (f.page ∷ f.last_page ∷ []))) →
    listed ≡ sets headed (at + 8) (universe_bytes us) →
    listed ≡ sets l at (discovery_bytes f us)
unfolding discovery_bytes
written l headed listed at flags f us p q r = cc (sets_append (discovery_head f (length us)) (universe_bytes us) l at)

pub returns : goal.returns
returns c = let a = c.args in
    written a.buf.now _ _ a.at _ a.fields a.universes.now c.flags_and_length-flags.ensures
    (rw (c.to_be_bytes.ensures, c.to_be_bytes-2.ensures) at c.copy.ensures) c.put_universes.ensures
