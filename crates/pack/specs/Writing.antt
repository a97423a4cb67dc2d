-- Packets as bytes, in document 01's layout; what refuses a write, in its order; and the buffer afterwards.
use Rattle.std.specs.Prelude.{ℕ, ◌+◌, ◌*◌, List, [], ◌∷◌, ◌++◌, length, drop, Result, Ok, Err}
use Rattle.wire.specs.Fields.{be16, be32, join}
use Rattle.refusal.specs.declared.Refusal.{Refusal}
use Rattle.refusal.specs.Check.{Numbered, numbered, refusal, nowhere, ◌≤?◌, reading}
use Rattle.name.specs.Name.{written_name_checks}
use Rattle.pdu.specs.Head.{flags_and_length}
use Rattle.discovery.specs.Universes.{order_checks}
use Rattle.discovery.specs.declared.DiscoveryFields.{DiscoveryFields}
use Rattle.framing.specs.Bytes.{data_framing_bytes}
use Rattle.framing.specs.declared.DataFields.{DataFields}
use Rattle.extended.specs.Bytes.{synchronization_framing_bytes, discovery_framing_bytes}
use Rattle.extended.specs.declared.synchronization.SynchronizationFields.{SynchronizationFields}

abbrev pub identifier : List ℕ
identifier = 0x41 ∷ 0x53 ∷ 0x43 ∷ 0x2d ∷ 0x45 ∷ 0x31 ∷ 0x2e ∷ 0x31 ∷ 0x37 ∷ 0x00 ∷ 0x00 ∷ 0x00 ∷ []

-- 0: preamble size; 2: postamble; 4: identifier; 16: root flags and length; 18: root vector
abbrev pub root_head : ℕ → ℕ → List ℕ
root_head len vector = join (be16 0x0010 ∷ be16 0 ∷ identifier ∷ flags_and_length len ∷ be32 vector ∷ [])

-- 22: CID; 38: the framing layer
unfoldable pub data_bytes : List ℕ → DataFields → List ℕ → List ℕ → List ℕ
data_bytes cid f name values = root_head (109 + length values) 4 ++ (cid ++ data_framing_bytes f name values)

unfoldable pub synchronization_bytes : List ℕ → SynchronizationFields → List ℕ
synchronization_bytes cid f = root_head 33 8 ++ (cid ++ synchronization_framing_bytes f)

unfoldable pub discovery_bytes : List ℕ → DiscoveryFields → List ℕ → List ℕ → List ℕ
discovery_bytes cid f name us = root_head (104 + 2 * length us) 8 ++ (cid ++ discovery_framing_bytes f name us)

-- packet lengths: data 125 + values, sync 49, discovery 120 + 2 × universes
abbrev pub data_length : List ℕ → ℕ
data_length values = 125 + length values

abbrev pub synchronization_length : ℕ
synchronization_length = 49

abbrev pub discovery_length : List ℕ → ℕ
discovery_length us = 120 + 2 * length us

-- 20: write buffer below packet length
abbrev pub room_check : ℕ → ℕ → Numbered
room_check len room = numbered (len ≤? room) (refusal 20 nowhere 0)

-- 27: no values
abbrev pub values_check : ℕ → Numbered
values_check count = numbered (1 ≤? count) (refusal 27 nowhere 0)

-- 24: above 513 values or 512 universes
abbrev pub count_check : ℕ → ℕ → Numbered
count_check most count = numbered (count ≤? most) (refusal 24 nowhere 0)

-- the order: 20, 21, 22, 23, for data 27, then 24, and for universes 25 or 26 at the first bad pair
abbrev pub data_write_checks : ℕ → List ℕ → List ℕ → List Numbered
data_write_checks room name values =
    room_check (data_length values) room ∷ written_name_checks name ++ values_check (length values) ∷ count_check 513 (length values) ∷ []

abbrev pub synchronization_write_checks : ℕ → List Numbered
synchronization_write_checks room = room_check synchronization_length room ∷ []

abbrev pub discovery_write_checks : ℕ → List ℕ → List ℕ → List Numbered
discovery_write_checks room name us =
    room_check (discovery_length us) room ∷ written_name_checks name ++ count_check 512 (length us) ∷ order_checks us

-- the answer: the packet's length, or the first refusal
abbrev pub Packed : Type 0
Packed = Result ℕ Refusal

unfoldable pub packed_of : List Numbered → ℕ → Packed
packed_of cs len = reading Err cs (Ok len)

-- the buffer afterwards: the packet, then what stood there before; at a refusal all as found
abbrev pub after_pack : Packed → List ℕ → List ℕ → List ℕ
after_pack (Ok n) packet buf = packet ++ drop n buf
after_pack (Err r) packet buf = buf
