use Prim.Native.Nat.{ℕ}
use mathlib.Core.List.{List}
use mathlib.Core.Path.{◌≡◌, refl, sym, ap, ◌∙◌}
use native.Mathlib.Omega.{arith}
use Rattle.refusal.proofs.Laws.{by_answer}
use Rattle.refusal.specs.declared.Refusal.{Refusal}
use Rattle.packet.specs.Packet.{packet_of, cid_of, cid_in, with_cid, reading_of}
use Rattle.packet.specs.declared.DataRecord.{DataRecord}
use Rattle.framing.specs.declared.DataFields.{DataFields}
use Rattle.packet.specs.declared.SynchronizationRecord.{SynchronizationRecord}
use Rattle.packet.specs.declared.DiscoveryRecord.{DiscoveryRecord}
use Rattle.packet.specs.declared.Packet.{Packet}
use Rattle.packet.specs.declared.Packet.TheVariants.{Data, Synchronization, Discovery, Refused}
use Rattle.packet.proofs.Laws.{packet_within, cid_known}
use Rattle.packet.proofs.parse.Goals as goal

-- what is no refusal
data-read : (x : DataRecord DataFields) (r : Refusal) → Refused r ≡ Data x → ⊥
data-read x r q = let z : ◌≡◌ {A = ℕ} 0 1 = cc in omega arith

synchronization-read : (x : SynchronizationRecord) (r : Refusal) → Refused r ≡ Synchronization x → ⊥
synchronization-read x r q = let z : ◌≡◌ {A = ℕ} 0 1 = cc in omega arith

discovery-read : (x : DiscoveryRecord) (r : Refusal) → Refused r ≡ Discovery x → ⊥
discovery-read x r q = let z : ◌≡◌ {A = ℕ} 0 1 = cc in omega arith

-- a packet that is no refusal, beside the CID that was copied
beside : (d cid : List ℕ) (x : Packet) → ((r : Refusal) → Refused r ≡ x → ⊥) → packet_of d ≡ x → cid ≡ cid_in d →
    record { cid = cid_of d; packet = x } ≡ with_cid d x → record { cid = cid; packet = x } ≡ reading_of d
unfolding reading_of
beside d cid x none e copied held =
    by_answer (with_cid d) (packet_of d) x e
    (ap (λ (bytes : List ℕ). record { cid = bytes; packet = x }) (copied ∙ cid_known d (packet_within d x none e)) ∙ held)

pub returns-in-Refused : goal.returns-in-Refused
unfolding reading_of
returns-in-Refused c = by_answer (with_cid c.args.datagram.now) (packet_of c.args.datagram.now) (Refused _) (sym c.parse_packet.ensures ∙ c.in-Refused.is) refl

pub returns-in-Data : goal.returns-in-Data
returns-in-Data c = beside _ _ _ (data-read _) (sym c.parse_packet.ensures ∙ c.in-Data.is) c.cid.ensures refl

pub returns-in-Synchronization : goal.returns-in-Synchronization
returns-in-Synchronization c = beside _ _ _ (synchronization-read _) (sym c.parse_packet.ensures ∙ c.in-Synchronization.is) c.cid-in-Synchronization.ensures refl

pub returns-in-Discovery : goal.returns-in-Discovery
returns-in-Discovery c = beside _ _ _ (discovery-read _) (sym c.parse_packet.ensures ∙ c.in-Discovery.is) c.cid-in-Discovery.ensures refl
