-- A datagram's answer by its root layer, and its CID. Assumes nothing.
use Prim.Native.Nat.{ℕ, ◌+◌, ◌-◌, ◌≤◌}
use mathlib.Core.Path.{◌≡◌, refl, sym, ap, ◌∙◌}
use mathlib.Core.List.{List, ◌++◌}
use native.Mathlib.Omega.{arith}
use lib.ListN.{length, take, drop, replicate}
use lib.Seq.{drop-drop}
use Rattle.refusal.specs.declared.Refusal.{Refusal}
use Rattle.refusal.specs.Check.{◌≤?◌, ◌=?◌, choose, reading}
use Rattle.refusal.proofs.Tests.{chosen}
use Rattle.refusal.proofs.Laws.{found, all_front, reading_++, reading_choose, after, after_all}
use Rattle.pdu.specs.Head.{length_of}
use Rattle.pdu.specs.declared.Edition.TheVariants.{E2018}
use Rattle.framing.specs.Data.{data_checks}
use Rattle.extended.specs.Extended.{extended_checks}
use Rattle.root.specs.Root.{preamble_checks, root_part, root_checks, found_in, root_of}
use Rattle.root.proofs.Laws.{within}
use Rattle.root.specs.declared.RootLayer.{RootLayer}
use Rattle.packet.specs.Packet.{cid_of, cid_in, root_vector, framing_part, framing_checks, packet_checks, record_of, data_record, extended_record, packet_of, data_packet_of, extended_packet_of}
use Rattle.packet.specs.declared.Packet.{Packet}
use Rattle.packet.specs.declared.Packet.TheVariants.{Data, Refused}

-- a datagram that is read as a packet has room for the CID
pub packet_within : (d : List ℕ) (x : Packet) → ((r : Refusal) → Refused r ≡ x → ⊥) → packet_of d ≡ x → 38 ≤ length d
unfolding packet_of
packet_within d x none e =
    let f = found Refused (packet_checks d) (record_of d) x none e in
    omega (arith, within E2018 d (all_front (preamble_checks d ++ root_checks E2018 (root_part d)) (framing_checks d) f.0))

-- the CID of a datagram that has room for it
pub cid_known : (d : List ℕ) → 38 ≤ length d → cid_in d ≡ cid_of d
unfolding cid_in
cid_known d h = sym (chosen (38 ≤? length d) (cid_of d) (replicate 16 0) h refl)

-- the framing layer's part as the code cuts it
pub framing_part_lem : (d : List ℕ) (n : ℕ) → take (16 + n - 38) (drop 38 d) ≡ take (n - 22) (drop 22 (root_part d))
framing_part_lem d n =
    let e : 16 + n - 38 ≡ n - 22 = omega arith in
    rw (e, drop-drop 22 16 d)

-- what a datagram is read as, by its root layer
abbrev pub framed : List ℕ → RootLayer → Packet
framed d l =
    let p = take (l.end - 22) (drop 22 (root_part d)) in
    choose (l.vector =? 4) (data_packet_of p) (extended_packet_of (length (root_part d)) p)

pub by_root : (d : List ℕ) → packet_of d ≡ after Refused (framed d) (root_of E2018 d)
unfolding packet_of root_of data_packet_of extended_packet_of
by_root d =
    let outer = preamble_checks d ++ root_checks E2018 (root_part d) in
    let p = framing_part d in
    reading_++ Refused outer (framing_checks d) (record_of d)
    ∙ ap (reading Refused outer)
    (reading_choose Refused (root_vector d =? 4) (data_checks E2018 p) (extended_checks (length (root_part d)) p) (Data (data_record p)) (extended_record p))
    ∙ after_all Refused (framed d) outer (found_in (root_part d))
