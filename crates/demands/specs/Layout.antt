-- Document 01's byte layout: the packets, field by field, with the place where each field begins. Offsets count from the datagram's first
-- byte; numbers are big-endian.
use Rattle.std.specs.Prelude.{ℕ, ◌+◌, ◌-◌, ◌*◌, ◌≡◌, List, [], ◌∷◌, ◌++◌, map, length, take, drop, replicate}
use Rattle.wire.specs.Fields.{be16, be32, join}
use Rattle.refusal.specs.Check.{pick}
use Rattle.discovery.specs.declared.DiscoveryFields.{DiscoveryFields}
use Rattle.framing.specs.declared.DataFields.{DataFields}
use Rattle.extended.specs.declared.synchronization.SynchronizationFields.{SynchronizationFields}

-- a place, and the bytes that stand there
pub record Field : Type 0 where
  pub place : ℕ
  pub bytes : List ℕ

infix 10 ◌holds◌
abbrev pub ◌holds◌ : ℕ → List ℕ → Field
place holds bytes = record { place = place; bytes = bytes }

-- each field's bytes stand in d at its place
abbrev pub Laid : List Field → List ℕ → Type 0
Laid [] d = Unit {0}
Laid (f ∷ fs) d = (take (length f.bytes) (drop f.place d) ≡ f.bytes) × Laid fs d

-- the first field begins at a place, each other where the one before ends, and the last ends at byte n
abbrev pub Gapless : ℕ → List Field → ℕ → Type 0
Gapless begin [] n = begin ≡ n
Gapless begin (f ∷ fs) n = (f.place ≡ begin) × Gapless (f.place + length f.bytes) fs n

-- upper four bits 0x70, lower twelve the layer's length: from its own first byte to the packet's end
abbrev pub flags_to : ℕ → ℕ → List ℕ
flags_to end first = be16 (0x7000 + (end - first))

-- a name in 64 bytes: those after it are zero
abbrev pub named : List ℕ → List ℕ
named name = name ++ replicate (64 - length name) 0

-- how each packet of n bytes starts: root vector 4 for data or 8 for extended, and the framing vector of its kind
abbrev pub head_layout : ℕ → ℕ → List ℕ → ℕ → List Field
head_layout n root cid framing =
    (0 holds be16 0x0010)  -- preamble size
    ∷ (2 holds be16 0)  -- postamble
    ∷ (4 holds (0x41 ∷ 0x53 ∷ 0x43 ∷ 0x2d ∷ 0x45 ∷ 0x31 ∷ 0x2e ∷ 0x31 ∷ 0x37 ∷ 0x00 ∷ 0x00 ∷ 0x00 ∷ []))  -- identifier
    ∷ (16 holds flags_to n 16)  -- root flags and length
    ∷ (18 holds be32 root)  -- root vector
    ∷ (22 holds cid)
    ∷ (38 holds flags_to n 38)  -- framing flags and length
    ∷ (40 holds be32 framing)  -- framing vector
    ∷ []

-- 0x80 preview, 0x40 terminated, 0x20 force synchronization
abbrev pub options : DataFields → ℕ
options f = pick f.preview_data 0x80 0 + pick f.stream_terminated 0x40 0 + pick f.force_synchronization 0x20 0

-- data, framing vector 2
abbrev pub data_layout : List ℕ → DataFields → List ℕ → List ℕ → List Field
data_layout cid f name values =
    head_layout (125 + length values) 4 cid 2
    ++ (44 holds named name)
    ∷ (108 holds (f.priority ∷ []))
    ∷ (109 holds be16 f.synchronization_address)
    ∷ (111 holds (f.sequence_number ∷ []))
    ∷ (112 holds (options f ∷ []))
    ∷ (113 holds be16 f.universe)
    ∷ (115 holds flags_to (125 + length values) 115)  -- DMP flags and length
    ∷ (117 holds (2 ∷ []))  -- vector
    ∷ (118 holds (0xa1 ∷ []))  -- address type
    ∷ (119 holds be16 0)  -- first address
    ∷ (121 holds be16 1)  -- increment
    ∷ (123 holds be16 (length values))  -- count
    ∷ (125 holds values)
    ∷ []

-- sync, framing vector 1
abbrev pub synchronization_layout : List ℕ → SynchronizationFields → List Field
synchronization_layout cid f =
    head_layout 49 8 cid 1
    ++ (44 holds (f.sequence_number ∷ []))
    ∷ (45 holds be16 f.synchronization_address)
    ∷ (47 holds replicate 2 0)  -- reserved
    ∷ []

-- discovery, framing vector 2 under root vector 8
abbrev pub discovery_layout : List ℕ → DiscoveryFields → List ℕ → List ℕ → List Field
discovery_layout cid f name us =
    head_layout (120 + 2 * length us) 8 cid 2
    ++ (44 holds named name)
    ∷ (108 holds replicate 4 0)  -- reserved
    ∷ (112 holds flags_to (120 + 2 * length us) 112)  -- flags and length
    ∷ (114 holds be32 1)  -- vector
    ∷ (118 holds (f.page ∷ []))
    ∷ (119 holds (f.last_page ∷ []))
    ∷ (120 holds join (map be16 us))
    ∷ []
