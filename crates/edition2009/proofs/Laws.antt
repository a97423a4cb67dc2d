-- A datagram's answer by its root layer, and the room for its CID. Assumes nothing.
use Prim.Native.Nat.{ℕ, ◌-◌, ◌≤◌}
use mathlib.Core.Path.{◌≡◌, refl, ◌∙◌}
use mathlib.Core.List.{List, ◌++◌}
use native.Mathlib.Omega.{arith}
use lib.ListN.{length, take, drop}
use Rattle.refusal.proofs.Laws.{found, all_front, reading_++, after, after_all}
use Rattle.pdu.specs.Head.{length_of}
use Rattle.pdu.specs.declared.Edition.TheVariants.{E2009}
use Rattle.framing.specs.Data.{data_checks}
use Rattle.root.specs.Root.{preamble_checks, root_part, root_checks, found_in, root_of}
use Rattle.root.specs.declared.RootLayer.{RootLayer}
use Rattle.root.proofs.Laws.{within}
use Rattle.packet.specs.Packet.{root_vector, framing_part}
use Rattle.edition2009.specs.Packet.{packet_checks2009, data_record2009, packet2009_of, data_packet2009_of}
use Rattle.packet.specs.declared.DataRecord.{DataRecord}
use Rattle.edition2009.specs.declared.DataFields2009.{DataFields2009}
use Rattle.edition2009.specs.declared.Packet2009.{Packet2009}
use Rattle.edition2009.specs.declared.Packet2009.TheVariants.{Data, Refused}

-- a datagram that is read as a data packet has room for the CID
pub packet_within : (d : List ℕ) (x : DataRecord DataFields2009) → packet2009_of d ≡ Data x → 38 ≤ length d
unfolding packet2009_of
packet_within d x e =
    let p = framing_part d in
    let f =
    found Refused (packet_checks2009 d) (Data (data_record2009 p)) (Data x) (λ r q. let z : ◌≡◌ {A = ℕ} 0 1 = cc in omega arith) e in
    omega (arith, within E2009 d (all_front (preamble_checks d ++ root_checks E2009 (root_part d)) (data_checks E2009 p) f.0))

-- what a datagram is read as, by its root layer
abbrev pub framed : List ℕ → RootLayer → Packet2009
framed d l = data_packet2009_of (take (l.end - 22) (drop 22 (root_part d)))

pub by_root : (d : List ℕ) → packet2009_of d ≡ after Refused (framed d) (root_of E2009 d)
unfolding packet2009_of root_of data_packet2009_of
by_root d =
    let outer = preamble_checks d ++ root_checks E2009 (root_part d) in
    let p = framing_part d in
    reading_++ Refused outer (data_checks E2009 p) (Data (data_record2009 p))
    ∙ after_all Refused (framed d) outer (found_in (root_part d))
