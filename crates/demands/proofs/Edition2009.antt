-- Demand 3, of the 2009 reader: it returns the same content for each field it knows, or refuses a packet that is no data packet by its root
-- vector; and so it answers alike whatever stands in the ignored places and behind the packet. Assumes nothing.
use Rattle.std.specs.Prelude.{Ok, Err}
use Prim.Native.Nat.{ℕ, ◌≤◌}
use mathlib.Core.Path.{◌≡◌, refl, sym, ap, ◌∙◌}
use mathlib.Core.List.{List, ◌++◌}
use mathlib.Core.Logic.{⊎_elim}
use native.Mathlib.Omega.{arith}
use lib.ListN.{length}
use Rattle.refusal.specs.declared.Refusal.{Refusal}
use Rattle.refusal.specs.Check.{root, ◌=?◌, checked_of}
use Rattle.refusal.proofs.Tests.{passed_over, choice}
use Rattle.refusal.proofs.Laws.{All, found, all_hold, all_++, all_front, all_back}
use Rattle.pdu.specs.Head.{head_checks, length_of, vector_of}
use Rattle.pdu.specs.declared.VectorLength.TheVariants.{Four}
use Rattle.discovery.specs.declared.DiscoveryFields.{DiscoveryFields}
use Rattle.pdu.specs.declared.Edition.TheVariants.{E2018}
use Rattle.framing.specs.declared.DataFields.{DataFields}
use Rattle.extended.specs.declared.synchronization.SynchronizationFields.{SynchronizationFields}
use Rattle.root.specs.Root.{preamble_checks, root_part, vector_checks, length_checks, cid_checks, body_checks, root_checks}
use Rattle.packet.specs.Packet.{root_vector, framing_part, packet_checks, record_of, data_record, synchronization_record, discovery_record, extended_record, packet_of, with_cid, reading_of}
use Rattle.packet.specs.declared.DataRecord.{DataRecord}
use Rattle.packet.specs.declared.Packet.{Packet}
use Rattle.packet.specs.declared.Packet.TheVariants.{Data, Synchronization, Discovery, Refused}
use Rattle.pack.specs.Writing.{data_bytes, data_length, synchronization_bytes, synchronization_length, discovery_bytes, discovery_length, after_pack}
use Rattle.edition2009.specs.Editions.{dropped_fields, dropped_reading, before_vector}
use Rattle.edition2009.specs.Packet.{reading2009_of}
use Rattle.packet.specs.declared.Reading.{Reading}
use Rattle.edition2009.specs.declared.Packet2009.{Packet2009}
use Rattle.edition2009.proofs.Editions.{editions, eight}
use Rattle.demands.specs.Content.{data_content, synchronization_content, discovery_content, content_of, meaning}
use Rattle.demands.specs.Content2009.{data_content2009, content_with2009, meaning2009, refused_by_vector}
use Rattle.demands.specs.Limits.{ReadableData, ReadableSynchronization, ReadableDiscovery}
use Rattle.demands.specs.Ignored.{AlikeData, AlikeSynchronization, AlikeDiscovery}
use Rattle.demands.proofs.Root.{Rooted}
use Rattle.demands.proofs.Meaning.{synchronization_meant, discovery_meant}
use Rattle.demands.proofs.Extended.{extended_says}
use Rattle.demands.proofs.Data.{return_data, ignored_data}
use Rattle.demands.proofs.Synchronization.{return_synchronization, ignored_synchronization}
use Rattle.demands.proofs.Discovery.{return_discovery, ignored_discovery}

-- a data record has another root vector than 8
not_eight : (d : List ℕ) (x : DataRecord DataFields) → packet_of d ≡ Data x → root_vector d ≡ 8 → ⊥
unfolding packet_of
not_eight d x e v =
    let p = framing_part d in
    let f = found Refused (packet_checks d) (record_of d) (Data x) (λ r q. let z : ◌≡◌ {A = ℕ} 0 1 = cc in omega arith) e in
    let extended : extended_record p ≡ Data x = passed_over (root_vector d =? 4) (Data (data_record p)) (extended_record p) (omega arith) refl ∙ f.1 in
    choice (λ (y : Packet). y ≡ Data x → ⊥) (vector_of Four p =? 1) (Synchronization (synchronization_record p)) (Discovery (discovery_record p))
    (λ h q. let z : ◌≡◌ {A = ℕ} 0 1 = cc in omega arith) (λ h q. let z : ◌≡◌ {A = ℕ} 0 1 = cc in omega arith) extended

-- so the 2009 reader answers with the two fields dropped
kept : (d : List ℕ) (x : DataRecord DataFields) → packet_of d ≡ Data x → reading2009_of d ≡ dropped_reading (with_cid d (Data x))
unfolding reading_of
kept d x e =
    ⊎_elim
    (λ (n : (r : Refusal) × (r.number ≡ 9) × ((reading_of d).packet ≡ Refused r)).
    let w : (with_cid d (Data x)).packet ≡ Refused n.0 = rw e at n.2 in
    let z : ◌≡◌ {A = ℕ} 0 1 = cc in
    absurd (omega arith))
    (λ (q : reading2009_of d ≡ dropped_reading (reading_of d)). q ∙ ap (λ (y : Packet). dropped_reading (with_cid d y)) e)
    (editions d (not_eight d x e))

-- of whatever datagram the present reader takes for a data record
dropped_2009 : (d cid : List ℕ) (f : DataFields) (name values : List ℕ) → meaning d ≡ data_content cid f name values →
    (reading2009_of d ≡ dropped_reading (reading_of d)) × (meaning2009 d ≡ data_content2009 cid (dropped_fields f) name values)
unfolding reading_of
dropped_2009 d cid f name values = by (packet_of d) refl
  where
    by : (y : Packet) → packet_of d ≡ y → content_of d (with_cid d y) ≡ data_content cid f name values →
        (reading2009_of d ≡ dropped_reading (with_cid d (packet_of d))) × (meaning2009 d ≡ data_content2009 cid (dropped_fields f) name values)
    by (Data x) e m = (
      kept d x e ∙ sym (ap (λ (y : Packet). dropped_reading (with_cid d y)) e),
      ap (λ (r : Reading Packet2009). content_with2009 d r.cid r.packet) (kept d x e) ∙ cc,
    )
    by (Synchronization x) e m = let z : ◌≡◌ {A = ℕ} 0 1 = cc in absurd (omega arith)
    by (Discovery x) e m = let z : ◌≡◌ {A = ℕ} 0 1 = cc in absurd (omega arith)
    by (Refused r) e m = let z : ◌≡◌ {A = ℕ} 0 1 = cc in absurd (omega arith)

-- The 2009 reader returns the same content for each field it knows.
pub known_2009 : (d cid : List ℕ) (f : DataFields) (name values : List ℕ) → meaning d ≡ data_content cid f name values →
    meaning2009 d ≡ data_content2009 cid (dropped_fields f) name values
known_2009 d cid f name values m = (dropped_2009 d cid f name values m).1

-- Or it refuses a packet that is no data packet by its root vector: 4 at span 2 with value 8.
by_vector : (d : List ℕ) → Rooted d → root_vector d ≡ 8 → reading2009_of d ≡ refused_by_vector d
unfolding checked_of
by_vector d h v =
    let p = root_part d in
    let len = length_of p in
    let inner = all_back (preamble_checks d) (root_checks E2018 p) h in
    let body = all_back (head_checks Four root p) (body_checks E2018 p len (vector_of Four p)) inner in
    let start : All (head_checks Four root p ++ length_checks p len) =
    all_++ (head_checks Four root p) (length_checks p len) (all_front (head_checks Four root p) (body_checks E2018 p len (vector_of Four p)) inner)
    (all_front (length_checks p len) (vector_checks E2018 (vector_of Four p) ++ cid_checks len) body) in
    eight d v
    (all_hold Err (before_vector d) (Ok tt)
    (all_++ (preamble_checks d) (head_checks Four root p ++ length_checks p len) (all_front (preamble_checks d) (root_checks E2018 p) h) start))

extended_2009 : (d : List ℕ) (x : Packet) → ((r : Refusal) → Refused r ≡ x → ⊥) → ((y : DataRecord DataFields) → Data y ≡ x → ⊥) → packet_of d ≡ x →
    reading2009_of d ≡ refused_by_vector d
extended_2009 d x a b e = let s = extended_says d x a b e in by_vector d s.0 s.1

pub synchronization_2009 : (d cid : List ℕ) (f : SynchronizationFields) → meaning d ≡ synchronization_content cid f → reading2009_of d ≡ refused_by_vector d
synchronization_2009 d cid f m =
    extended_2009 d (Synchronization (record { fields = f })) (λ r q. let z : ◌≡◌ {A = ℕ} 0 1 = cc in omega arith)
    (λ y q. let z : ◌≡◌ {A = ℕ} 0 1 = cc in omega arith) (synchronization_meant d cid f m).0

pub discovery_2009 : (d cid : List ℕ) (f : DiscoveryFields) (name us : List ℕ) → meaning d ≡ discovery_content cid f name us →
    reading2009_of d ≡ refused_by_vector d
discovery_2009 d cid f name us m =
    let w = discovery_meant d cid f name us m in
    extended_2009 d (Discovery w.0) (λ r q. let z : ◌≡◌ {A = ℕ} 0 1 = cc in omega arith) (λ y q. let z : ◌≡◌ {A = ℕ} 0 1 = cc in omega arith) w.1

-- Of a record that was written within the readable limits:
pub return_data_2009 : (cid : List ℕ) (f : DataFields) (name values buf : List ℕ) → ReadableData cid f name values → data_length values ≤ length buf →
    meaning2009 (after_pack (Ok (data_length values)) (data_bytes cid f name values) buf) ≡ data_content2009 cid (dropped_fields f) name values
return_data_2009 cid f name values buf h k = known_2009 _ cid f name values (return_data cid f name values buf h k).1

pub return_synchronization_2009 : (cid : List ℕ) (f : SynchronizationFields) (buf : List ℕ) → ReadableSynchronization cid f →
    synchronization_length ≤ length buf →
    let d = after_pack (Ok synchronization_length) (synchronization_bytes cid f) buf in reading2009_of d ≡ refused_by_vector d
return_synchronization_2009 cid f buf h k = synchronization_2009 _ cid f (return_synchronization cid f buf h k).1

pub return_discovery_2009 : (cid : List ℕ) (f : DiscoveryFields) (name us buf : List ℕ) → ReadableDiscovery cid f name us →
    discovery_length us ≤ length buf →
    let d = after_pack (Ok (discovery_length us)) (discovery_bytes cid f name us) buf in reading2009_of d ≡ refused_by_vector d
return_discovery_2009 cid f name us buf h k = discovery_2009 _ cid f name us (return_discovery cid f name us buf h k).1

-- Of a datagram with other bytes in the ignored places, or more behind the packet:
pub ignored_data_2009 : (cid : List ℕ) (f : DataFields) (name values d : List ℕ) → ReadableData cid f name values →
    AlikeData name (data_bytes cid f name values) d →
    (reading2009_of d ≡ reading2009_of (data_bytes cid f name values)) × (meaning2009 d ≡ data_content2009 cid (dropped_fields f) name values)
ignored_data_2009 cid f name values d h a =
    let packet = data_bytes cid f name values in
    let itself : AlikeData name packet packet = record { outside = λ i k m n. refl; options = refl; long = omega arith } in
    let there = ignored_data cid f name values d h a in
    let here = ignored_data cid f name values packet h itself in
    let w = dropped_2009 d cid f name values there.1 in
    (w.0 ∙ ap dropped_reading there.0 ∙ sym (dropped_2009 packet cid f name values here.1).0, w.1)

pub ignored_synchronization_2009 : (cid : List ℕ) (f : SynchronizationFields) (d : List ℕ) → ReadableSynchronization cid f →
    AlikeSynchronization (synchronization_bytes cid f) d → reading2009_of d ≡ refused_by_vector d
ignored_synchronization_2009 cid f d h a = synchronization_2009 d cid f (ignored_synchronization cid f d h a).1

pub ignored_discovery_2009 : (cid : List ℕ) (f : DiscoveryFields) (name us d : List ℕ) → ReadableDiscovery cid f name us →
    AlikeDiscovery name (discovery_bytes cid f name us) d → reading2009_of d ≡ refused_by_vector d
ignored_discovery_2009 cid f name us d h a = discovery_2009 d cid f name us (ignored_discovery cid f name us d h a).1
