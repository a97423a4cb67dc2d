-- What 7 and 23 tell: of the name in the datagram, and of the name lent, how many leading bytes make whole characters. They are never all of it.
-- In both readers, and in both writers that take a name. Assumes nothing.
use Rattle.std.specs.Prelude.{Err}
use Prim.Native.Nat.{ℕ, ◌-◌, ◌≤◌}
use mathlib.Core.Path.{◌≡◌, refl, sym, ap, subst, ◌∙◌}
use mathlib.Core.Bool.{true}
use mathlib.Core.List.{List, [], ◌∷◌, ◌++◌}
use native.Mathlib.Omega.{arith}
use lib.ListN.{length, take, drop, get_or, length-take, length-drop}
use lib.Seq.{drop-drop, get_or-drop}
use Rattle.refusal.specs.declared.Refusal.{Refusal}
use Rattle.refusal.specs.Check.{CheckOf, Numbered, framing, discovery, ◌≠?◌}
use Rattle.refusal.proofs.Laws.{Every, every, computed, every_map, every_++}
use Rattle.name.specs.CodePoint.{GoodBytes}
use Rattle.name.specs.Name.{name_field, text_of, source_name_checks, written_name_checks}
use Rattle.name.proofs.Good.{every_named, every_written}
use Rattle.pdu.specs.Head.{head_checks, length_of, vector_of}
use Rattle.pdu.specs.declared.Edition.TheVariants.{E2018, E2009}
use Rattle.pdu.specs.declared.VectorLength.TheVariants.{Four}
use Rattle.discovery.specs.Layer.{own_checks}
use Rattle.discovery.specs.Universes.{rises, order_checks}
use Rattle.discovery.proofs.Laws.{every_pairs}
use Rattle.framing.specs.Data.{start_checks, field_checks}
use Rattle.extended.specs.Synchronization.{synchronization_checks}
use Rattle.extended.specs.UniverseDiscovery as discoveryFraming
use Rattle.extended.specs.UniverseDiscovery.{discovery_part}
use Rattle.extended.specs.Extended.{kind_checks}
use Rattle.root.specs.Root.{preamble_checks, root_checks, root_part}
use Rattle.packet.specs.Packet.{framing_part, reading_of}
use Rattle.packet.specs.declared.Packet.TheVariants.{Refused}
use Rattle.packet.proofs.Whole.{read, each_check, refused_with}
use Rattle.edition2009.specs.Packet.{reading2009_of}
use Rattle.edition2009.specs.declared.Packet2009.TheVariants as old
use Rattle.edition2009.proofs.Editions.{refused_with as refused-with-2009, each_check_2009}
use Rattle.pack.specs.Writing.{room_check, values_check, count_check, data_length, discovery_length, data_write_checks, discovery_write_checks, packed_of}
use Rattle.pack.proofs.Table.{refused_with as write-refused-with, each_write}
use Rattle.demands.specs.Spans.{name_text}
use Rattle.demands.proofs.Segments.{same_cut}
use Rattle.demands.proofs.Spans.{framed_at}

-- where a refusal has the number, its value is how many leading bytes of the name are good
abbrev Tells : ℕ → List ℕ → Refusal → Type 0
Tells number name r = r.number ≡ number → GoodBytes name r.value

-- checks that never tell the number
others : {I : Type 0} (number : ℕ) (name : List ℕ) (cs : List (CheckOf I)) → every (λ (r : Refusal). r.number ≠? number) cs ≡ true → Every (Tells number name) cs
others number name cs e =
    every_map (λ (r : Refusal). r.number ≡ number → ⊥) (Tells number name) (λ r f q. absurd (f q)) cs
    (computed (λ (r : Refusal). r.number ≠? number) cs e)

-- a framing layer that holds a name's field has it at byte 44 of the datagram
pub field_at : (d : List ℕ) → 70 ≤ length (framing_part d) → name_field (framing_part d) ≡ take 64 (drop 44 d)
field_at d h =
    let p = framing_part d in
    let n = length_of (root_part d) - 22 in
    let l = drop 38 d in
    let room : (70 ≤ n) × (70 ≤ length l) =
    omega (arith, h, length-take n (drop 22 (root_part d)), length-drop 22 (root_part d), length-drop 16 d, length-drop 38 d) in
    same_cut 6 64 p l (omega (arith, h)) (omega (arith, room.1))
    (λ k least most. framed_at d k (omega (arith, most, room.0)) ∙ sym (get_or-drop 38 d k 0))
    ∙ ap (take 64) (drop-drop 6 38 d)

-- the checks of a name in a datagram
named : (d : List ℕ) → 70 ≤ length (framing_part d) → Every (Tells 7 (name_text d)) (source_name_checks (name_field (framing_part d)))
named d room =
    every_named (Tells 7 (name_text d)) (framing_part d) (λ q. absurd (omega (arith, q)))
    (λ n few g q. subst (λ (s : List ℕ). GoodBytes (text_of s) n) (field_at d room) g)

-- At reading, by either edition.
pub good_bytes_read : (d : List ℕ) (r : Refusal) → (reading_of d).packet ≡ Refused r → r.number ≡ 7 → GoodBytes (name_text d) r.value
good_bytes_read d r e =
    let p = framing_part d in
    let len = length_of p in
    let vec = vector_of Four p in
    let q = discovery_part p len in
    let other = others 7 (name_text d) in
    refused_with (Tells 7 (name_text d)) d r
    (each_check (Tells 7 (name_text d)) d (other (preamble_checks d ++ root_checks E2018 (root_part d)) refl)
    (other (head_checks Four framing p ++ start_checks p len vec) refl)
    (named d)
    (other (field_checks E2018 p len) refl)
    (other (head_checks Four framing p ++ kind_checks (length (root_part d)) len vec) refl)
    (other (synchronization_checks p len) refl)
    (other (discoveryFraming.start_checks p len) refl)
    (λ room. other (head_checks Four discovery q ++ own_checks q (length_of q) (vector_of Four q)) refl)
    (λ f. absurd (omega (arith, f)))
    (λ i f. absurd (omega (arith, f))))
    (sym (read d) ∙ e)

pub good_bytes_read_2009 : (d : List ℕ) (r : Refusal) →
    (reading2009_of d).packet ≡ old.Refused r → r.number ≡ 7 → GoodBytes (name_text d) r.value
good_bytes_read_2009 d r e =
    let p = framing_part d in
    let other = others 7 (name_text d) in
    refused-with-2009 (Tells 7 (name_text d)) d r
    (each_check_2009 (Tells 7 (name_text d)) d (other (preamble_checks d ++ root_checks E2009 (root_part d)) refl)
    (other (head_checks Four framing p ++ start_checks p (length_of p) (vector_of Four p)) refl)
    (named d)
    (other (field_checks E2009 p (length_of p)) refl))
    e

-- At writing: the checks of a name lent, and those beside them.
written : (len room : ℕ) (name : List ℕ) (rest : List Numbered) → Every (Tells 23 name) rest → (r : Refusal) →
    packed_of (room_check len room ∷ (written_name_checks name ++ rest)) len ≡ Err r → Tells 23 name r
written len room name rest rests r e =
    let names =
    every_written (Tells 23 name) name (λ q. absurd (omega (arith, q))) (λ q. absurd (omega (arith, q))) (λ n few g q. g) in
    write-refused-with (Tells 23 name) (room_check len room ∷ (written_name_checks name ++ rest)) len r
    (each_write (Tells 23 name) len room name rest (λ q. absurd (omega (arith, q))) names rests) e

pub good_bytes_data : (room : ℕ) (name values : List ℕ) (r : Refusal) →
    packed_of (data_write_checks room name values) (data_length values) ≡ Err r → r.number ≡ 23 → GoodBytes name r.value
good_bytes_data room name values r e =
    let rest = values_check (length values) ∷ count_check 513 (length values) ∷ [] in
    written (data_length values) room name rest (others 23 name rest refl) r e

pub good_bytes_discovery : (room : ℕ) (name us : List ℕ) (r : Refusal) →
    packed_of (discovery_write_checks room name us) (discovery_length us) ≡ Err r → r.number ≡ 23 → GoodBytes name r.value
good_bytes_discovery room name us r e =
    let counted = count_check 512 (length us) ∷ [] in
    let order = every_pairs rises (Tells 23 name) us (λ u i. others 23 name (rises u (get_or us i 0)) refl) in
    let rest = every_++ (Tells 23 name) counted (order_checks us) (others 23 name counted refl) (λ a. order) in
    written (discovery_length us) room name (counted ++ order_checks us) rest r e
