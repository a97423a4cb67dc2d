-- The framing layers under root vector 8 as bytes, segment by segment in document 01's layout. Lengths follow from the counts; reserved places are zero.
use Rattle.std.specs.Prelude.{ℕ, ◌+◌, ◌*◌, List, [], ◌∷◌, ◌++◌, length}
use Rattle.wire.specs.Fields.{be16, be32, join}
use Rattle.name.specs.Name.{name_bytes}
use Rattle.discovery.specs.declared.DiscoveryFields.{DiscoveryFields}
use Rattle.discovery.specs.Layer.{discovery_bytes}
use Rattle.pdu.specs.Head.{layer_head}
use Rattle.extended.specs.declared.synchronization.SynchronizationFields.{SynchronizationFields}

-- sync: flags and length, vector 1; sequence, sync address, two reserved bytes
abbrev pub sync_field_bytes : SynchronizationFields → List ℕ
sync_field_bytes f = join ((f.sequence_number ∷ []) ∷ be16 f.synchronization_address ∷ be16 0 ∷ [])

unfoldable pub synchronization_framing_bytes : SynchronizationFields → List ℕ
synchronization_framing_bytes f = layer_head 11 1 ++ sync_field_bytes f

-- discovery: flags and length, vector 2; name; four reserved bytes; the discovery layer
unfoldable pub discovery_framing_bytes : DiscoveryFields → List ℕ → List ℕ → List ℕ
discovery_framing_bytes f name us = layer_head (82 + 2 * length us) 2 ++ (name_bytes name ++ (be32 0 ++ discovery_bytes f us))
