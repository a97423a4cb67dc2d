-- A data packet's framing layer as bytes, segment by segment in document 01's layout. Lengths follow from the counts.
use Rattle.std.specs.Prelude.{ℕ, ◌+◌, Bool, true, false, List, [], ◌∷◌, ◌++◌, length}
use Rattle.wire.specs.Fields.{be16, join}
use Rattle.name.specs.Name.{name_bytes}
use Rattle.pdu.specs.Head.{layer_head}
use Rattle.dmp.specs.Layer.{dmp_bytes}
use Rattle.framing.specs.declared.DataFields.{DataFields}

-- 0x80 preview, 0x40 terminated, 0x20 force synchronization; the low five bits are zero
abbrev pub bit_of : Bool → ℕ → ℕ
bit_of true bit = bit
bit_of false bit = 0

abbrev pub options_of : DataFields → ℕ
options_of f = bit_of f.preview_data 0x80 + bit_of f.stream_terminated 0x40 + bit_of f.force_synchronization 0x20

-- priority, sync address, sequence, options, universe
abbrev pub field_bytes : DataFields → List ℕ
field_bytes f =
    join ((f.priority ∷ []) ∷ be16 f.synchronization_address ∷ (f.sequence_number ∷ []) ∷ (options_of f ∷ []) ∷ be16 f.universe ∷ [])

-- data: flags and length, vector 2; name; the fields; the DMP layer
unfoldable pub data_framing_bytes : DataFields → List ℕ → List ℕ → List ℕ
data_framing_bytes f name values = layer_head (87 + length values) 2 ++ (name_bytes name ++ (field_bytes f ++ dmp_bytes values))
