-- The numbers of a datagram's reading have the sizes of their fields, and so has each number that a refusal carries. Assumes nothing.
use Prim.Native.Nat.{ℕ, ◌-◌, ◌≤◌}
use mathlib.Core.List.{List, ◌++◌}
use native.Mathlib.Omega.{arith}
use lib.ListN.{length, take, drop, length-take}
use Rattle.wire.specs.Bytes.{Bytes}
use Rattle.wire.proofs.Bytes.{bytes_drop, bytes_take, u16_small, u32_small}
use Rattle.refusal.specs.Check.{framing, dmp, discovery}
use Rattle.refusal.proofs.Laws.{Every, every_++}
use Rattle.name.specs.Name.{zero_at, name_field, source_name_checks}
use Rattle.name.proofs.Laws.{zero_within}
use Rattle.name.proofs.Good.{every_named}
use Rattle.pdu.specs.Head.{head_checks, length_of, vector_of}
use Rattle.pdu.specs.declared.VectorLength.TheVariants.{One, Four}
use Rattle.dmp.specs.Layer as dmpLayer
use Rattle.dmp.specs.Layer.{count_checks, dmp_checks}
use Rattle.discovery.specs.Layer.{own_checks, list_part, count_in}
use Rattle.discovery.proofs.Laws.{universes_words}
use Rattle.pdu.specs.declared.Edition.TheVariants.{E2018}
use Rattle.framing.specs.Data as dataLayer
use Rattle.framing.specs.Data.{dmp_part, priority_checks, sync_address_checks, universe_checks, field_checks}
use Rattle.extended.specs.Synchronization.{synchronization_checks}
use Rattle.extended.specs.UniverseDiscovery.{discovery_part, start_checks}
use Rattle.extended.specs.Extended.{kind_checks}
use Rattle.root.specs.Root.{preamble_checks, root_part, root_checks}
use Rattle.packet.specs.Packet.{framing_part, packet_of}
use Rattle.packet.specs.Sizes.{SizedRefusal, Sized}
use Rattle.packet.proofs.Whole.{each_check, each_answer}

-- a part of bytes is bytes
part_bytes : (n k : ℕ) (l : List ℕ) → Bytes l → Bytes (take n (drop k l))
part_bytes n k l b = bytes_take n (drop k l) (bytes_drop k l b)

-- the checks of each layer, in a part of bytes
outer_sized : (d r : List ℕ) → Bytes r → Every SizedRefusal (preamble_checks d ++ root_checks E2018 r)
outer_sized d r b = omega (arith, b 0, u32_small r 2 b)

dmp_sized : (q : List ℕ) → Bytes q → Every SizedRefusal (dmp_checks q)
dmp_sized q b =
    let head = head_checks One dmp q in
    let start = dmpLayer.start_checks q (length_of q) (vector_of One q) in
    let count = count_checks q (length_of q) in
    let first : Every SizedRefusal head = omega (arith, b 0) in
    let second : Every SizedRefusal start = omega (arith, b 2) in
    every_++ SizedRefusal head (start ++ count) first (λ a. every_++ SizedRefusal start count second (λ c. omega (arith, u16_small q 8 b)))

start_sized : (p : List ℕ) → Bytes p → Every SizedRefusal (head_checks Four framing p ++ dataLayer.start_checks p (length_of p) (vector_of Four p))
start_sized p b = omega (arith, b 0, u32_small p 2 b)

name_checks_sized : (p : List ℕ) → Every SizedRefusal (source_name_checks (name_field p))
name_checks_sized p =
    every_named SizedRefusal p (omega arith) (λ n few g. omega (arith, few))

fields_sized : (p : List ℕ) → Bytes p → Every SizedRefusal (field_checks E2018 p (length_of p))
fields_sized p b =
    let len = length_of p in
    let q = dmp_part p len in
    let fields = priority_checks p ++ (sync_address_checks E2018 p ++ universe_checks p len) in
    let own : Every SizedRefusal fields = omega (arith, b 70, u16_small p 71 b, u16_small p 75 b) in
    every_++ SizedRefusal fields (dmp_checks q) own (λ a. dmp_sized q (part_bytes (len - 77) 77 p b))

kind_sized : (whole : ℕ) (p : List ℕ) → Bytes p → Every SizedRefusal (head_checks Four framing p ++ kind_checks whole (length_of p) (vector_of Four p))
kind_sized whole p b = omega (arith, b 0, u32_small p 2 b)

synchronization_sized : (p : List ℕ) → Bytes p → Every SizedRefusal (synchronization_checks p (length_of p))
synchronization_sized p b = omega (arith, u16_small p 7 b)

framed_sized : (p : List ℕ) → Every SizedRefusal (start_checks p (length_of p))
framed_sized p = omega arith

own_sized : (q : List ℕ) → Bytes q → Every SizedRefusal (head_checks Four discovery q ++ own_checks q (length_of q) (vector_of Four q))
own_sized q b = omega (arith, b 0, u32_small q 2 b)

-- a name in its field
name_sized : (p : List ℕ) → zero_at (name_field p) ≤ 64
name_sized p = omega (arith, zero_within (name_field p), length-take 64 (drop 6 p))

-- A datagram of bytes: each number of its reading has the size of its field.
pub sized : (d : List ℕ) → Bytes d → Sized (packet_of d)
sized d b =
    let r = root_part d in
    let p = framing_part d in
    let len = length_of p in
    let e = dmp_part p len in
    let q = discovery_part p len in
    let rb : Bytes r = bytes_drop 16 d b in
    let pb : Bytes p = part_bytes (length_of r - 22) 22 r rb in
    let eb : Bytes e = part_bytes (len - 77) 77 p pb in
    let qb : Bytes q = part_bytes (len - 74) 74 p pb in
    let words = universes_words (count_in (length_of q)) (list_part q) (bytes_drop 8 q qb) in
    each_answer Sized d
    (each_check SizedRefusal d (outer_sized d r rb) (start_sized p pb) (λ room. name_checks_sized p) (fields_sized p pb) (kind_sized (length r) p pb) (synchronization_sized p pb) (framed_sized p) (λ room. own_sized q qb) (omega arith) (λ i. omega (arith, words i)))
    ((pb 70, u16_small p 71 pb, pb 73, u16_small p 75 pb), name_sized p, u16_small e 8 eb)
    (pb 6, u16_small p 7 pb)
    ((qb 6, qb 7), name_sized p, (omega arith))
