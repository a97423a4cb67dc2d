-- What an accepted framing layer under root vector 8 says, by the kind that was read. Assumes nothing.
use Prim.Native.Nat.{ℕ}
use mathlib.Core.Path.{◌≡◌, refl, sym, ap, ◌∙◌}
use mathlib.Core.List.{List, ◌++◌}
use native.Mathlib.Omega.{arith}
use lib.ListN.{take, length}
use lib.Seq.{take-add}
use Rattle.wire.specs.Bytes.{Bytes}
use Rattle.wire.specs.Fields.{u16_at}
use Rattle.refusal.specs.declared.Refusal.{Refusal}
use Rattle.refusal.specs.Check.{Test, Check, ◌=?◌, ◌or◌, choose, root, framing}
use Rattle.refusal.proofs.Tests.{Holds, Fails, chosen, passed_over, decide}
use Rattle.refusal.proofs.Laws.{All, all_front, all_back, found}
use Rattle.pdu.specs.Head.{head_checks, length_of, vector_of, flags_field}
use Rattle.pdu.specs.declared.VectorLength.TheVariants.{Four}
use Rattle.pdu.specs.declared.Edition.TheVariants.{E2018}
use Rattle.pdu.specs.Head.{layer_head}
use Rattle.extended.specs.Extended.{kind_checks, extended_checks}
use Rattle.extended.specs.Synchronization.{synchronization_checks}
use Rattle.extended.specs.UniverseDiscovery.{discovery_framing_checks}
use Rattle.root.specs.Root.{preamble_checks, root_part, vector_checks, length_checks, cid_checks, body_checks, root_checks}
use Rattle.packet.specs.declared.DataRecord.{DataRecord}
use Rattle.framing.specs.declared.DataFields.{DataFields}
use Rattle.packet.specs.declared.SynchronizationRecord.{SynchronizationRecord}
use Rattle.packet.specs.declared.DiscoveryRecord.{DiscoveryRecord}
use Rattle.packet.specs.declared.Packet.{Packet}
use Rattle.packet.specs.declared.Packet.TheVariants.{Data, Synchronization, Discovery, Refused}
use Rattle.packet.specs.Packet.{root_vector, framing_part, framing_checks, packet_checks, record_of, data_record, synchronization_record, discovery_record, extended_record, packet_of}
use Rattle.demands.proofs.Segments.{field16, field32, flags_back}
use Rattle.demands.proofs.Root.{Rooted, rooted}

-- a root layer by its numbers and parts
pub rooted_by : {n m v w : ℕ} {c cid p q : List ℕ} → n ≡ m → v ≡ w → c ≡ cid → p ≡ q → rooted n v c p ≡ rooted m w cid q
rooted_by {n} {m} {v} {w} {c} {cid} {p} {q} e f g h = rw (e, f, g, h)

-- a record that only one side of a choice gives: that side was chosen, and its checks hold
module _ (t : Test) (cs ds : List Check) (a b x : Packet) (h : All (choose t cs ds)) (e : choose t a b ≡ x) where
  only_first : (b ≡ x → ⊥) → Holds t × All cs × (a ≡ x)
  only_first not =
      decide t (λ y. (y, rw (← chosen t cs ds y refl) at h, chosen t a b y refl ∙ e))
      (λ n. absurd (not (passed_over t a b n refl ∙ e)))

  only_second : (a ≡ x → ⊥) → Fails t × All ds × (b ≡ x)
  only_second not =
      decide t (λ y. absurd (not (chosen t a b y refl ∙ e)))
      (λ n. (n, rw (← passed_over t cs ds n refl) at h, passed_over t a b n refl ∙ e))

-- kinds differ, and a kind has one record
apart : (x : SynchronizationRecord) (y : DiscoveryRecord) → Synchronization x ≡ Discovery y → ⊥
apart x y e = let z : ◌≡◌ {A = ℕ} 0 1 = cc in omega arith

same_synchronization : (x y : SynchronizationRecord) → Synchronization x ≡ Synchronization y → x ≡ y
same_synchronization x y e = cc

same_discovery : (x y : DiscoveryRecord) → Discovery x ≡ Discovery y → x ≡ y
same_discovery x y e = cc

-- the bytes of an accepted layer's start, by its length and its vector
pub head_bytes : (place n v : ℕ) (p : List ℕ) → All (head_checks Four place p) → Bytes p → length_of p ≡ n → vector_of Four p ≡ v →
    take 6 p ≡ layer_head n v
head_bytes place n v p h b len vec =
    let flags : u16_at p 0 ≡ flags_field n = flags_back p b h.1.0 ∙ ap flags_field len in
    take-add 2 4 p ∙ rw (field16 p b 0 (flags_field n) (omega arith) flags, field32 p b 2 v (omega arith) vec)

-- the root vector of an accepted root layer
root_vector_lem : (d : List ℕ) → Rooted d → Holds (root_vector d =? 4 or root_vector d =? 8)
root_vector_lem d h =
    let p = root_part d in
    let len = length_of p in
    let vectors = vector_checks E2018 (root_vector d) in
    let body = all_back (head_checks Four root p) (body_checks E2018 p len (root_vector d)) (all_back (preamble_checks d) (root_checks E2018 p) h) in
    (all_front vectors (cid_checks len) (all_back (length_checks p len) (vectors ++ cid_checks len) body)).0

-- a datagram read as a packet that is no data: what the root layer says, and the checks of the framing layer
pub extended_says : (d : List ℕ) (x : Packet) → ((r : Refusal) → Refused r ≡ x → ⊥) → ((y : DataRecord DataFields) → Data y ≡ x → ⊥) → packet_of d ≡ x →
    Rooted d × (root_vector d ≡ 8) × All (extended_checks (length (root_part d)) (framing_part d)) × (extended_record (framing_part d) ≡ x)
unfolding packet_of
extended_says d x some other e =
    let outer = preamble_checks d ++ root_checks E2018 (root_part d) in
    let g = found Refused (packet_checks d) (record_of d) x some e in
    let h : Rooted d = all_front outer (framing_checks d) g.0 in
    let k = only_second (root_vector d =? 4) _ _ _ _ x (all_back outer (framing_checks d) g.0) g.1 (other (data_record (framing_part d))) in
    (h, root_vector_lem d h k.0, k.1, k.2)

-- and what the framing layer says, by its record
module _ (whole : ℕ) (p : List ℕ) (h : All (extended_checks whole p)) where
  abbrev heads : List Check
  heads = head_checks Four framing p

  abbrev kinds : List Check
  kinds = kind_checks whole (length_of p) (vector_of Four p)

  abbrev bodies : List Check
  bodies = choose (vector_of Four p =? 1) (synchronization_checks p (length_of p)) (discovery_framing_checks p (length_of p))

  body : All bodies
  body = all_back kinds bodies (all_back heads (kinds ++ bodies) h)

  pub synchronization_says : (x : SynchronizationRecord) → extended_record p ≡ Synchronization x →
      All (head_checks Four framing p) × (vector_of Four p ≡ 1) × All (synchronization_checks p (length_of p)) × (synchronization_record p ≡ x)
  synchronization_says x e =
      let k = only_first (vector_of Four p =? 1) _ _ _ _ (Synchronization x) body e (λ q. apart x (discovery_record p) (sym q)) in
      (all_front heads (kinds ++ bodies) h, k.0, k.1, same_synchronization _ _ k.2)

  pub discovery_says : (x : DiscoveryRecord) → extended_record p ≡ Discovery x →
      All (head_checks Four framing p) × (vector_of Four p ≡ 2) × All (discovery_framing_checks p (length_of p)) × (discovery_record p ≡ x)
  discovery_says x e =
      let kind : All kinds = all_front kinds bodies (all_back heads (kinds ++ bodies) h) in
      let k = only_second (vector_of Four p =? 1) _ _ _ _ (Discovery x) body e (λ q. apart (synchronization_record p) x q) in
      (all_front heads (kinds ++ bodies) h, kind.1.0 k.0, k.1, same_discovery _ _ k.2)
