-- A datagram's meaning and its record, there and back, for the kinds under root vector 8. Assumes nothing.
use Prim.Native.Nat.{ℕ}
use mathlib.Core.Path.{◌≡◌, refl, ap}
use mathlib.Core.List.{List}
use native.Mathlib.Omega.{arith}
use Rattle.extended.specs.declared.synchronization.SynchronizationFields.{SynchronizationFields}
use Rattle.discovery.specs.declared.DiscoveryFields.{DiscoveryFields}
use Rattle.packet.specs.declared.SynchronizationRecord.{SynchronizationRecord}
use Rattle.packet.specs.declared.DiscoveryRecord.{DiscoveryRecord}
use Rattle.packet.specs.declared.Packet.{Packet}
use Rattle.packet.specs.declared.Packet.TheVariants.{Data, Synchronization, Discovery, Refused}
use Rattle.packet.specs.declared.Reading.{Reading}
use Rattle.packet.specs.Packet.{packet_of, cid_of, with_cid, reading_of}
use Rattle.parts.specs.Parts.{shown_at, listed_at}
use Rattle.demands.specs.Content.{synchronization_content, discovery_content, content_of, meaning}

-- a reading with its CID
abbrev pub read_as : List ℕ → Packet → Reading Packet
read_as cid x = record { cid = cid; packet = x }

module _ (d cid : List ℕ) where
  pub synchronization_read : (x : SynchronizationRecord) → packet_of d ≡ Synchronization x → cid_of d ≡ cid →
      reading_of d ≡ read_as cid (Synchronization x)
  unfolding reading_of
  synchronization_read x e c = rw (e, c)

  pub discovery_read : (x : DiscoveryRecord) → packet_of d ≡ Discovery x → cid_of d ≡ cid → reading_of d ≡ read_as cid (Discovery x)
  unfolding reading_of
  discovery_read x e c = rw (e, c)

  -- what a datagram means by its reading
  pub means : (x : Packet) → reading_of d ≡ read_as cid x → meaning d ≡ content_of d (read_as cid x)
  means x e = ap (content_of d) e

  pub synchronization_meant : (f : SynchronizationFields) → meaning d ≡ synchronization_content cid f →
      (packet_of d ≡ Synchronization (record { fields = f })) × (cid_of d ≡ cid)
  unfolding reading_of
  synchronization_meant f = by (packet_of d)
    where
      by : (x : Packet) → content_of d (with_cid d x) ≡ synchronization_content cid f → (x ≡ Synchronization (record { fields = f })) × (cid_of d ≡ cid)
      by (Data x) e = let z : ◌≡◌ {A = ℕ} 0 1 = cc in absurd (omega arith)
      by (Synchronization x) e =
          let fields : x.fields ≡ f = cc in
          let c : cid_of d ≡ cid = cc in
          (ap (λ (g : SynchronizationFields). Synchronization (record { fields = g })) fields, c)
      by (Discovery x) e = let z : ◌≡◌ {A = ℕ} 0 1 = cc in absurd (omega arith)
      by (Refused r) e = let z : ◌≡◌ {A = ℕ} 0 1 = cc in absurd (omega arith)

  -- of a discovery packet the record x, and its parts
  pub discovery_meant : (f : DiscoveryFields) (name us : List ℕ) → meaning d ≡ discovery_content cid f name us →
      (x : DiscoveryRecord) × (packet_of d ≡ Discovery x) × (cid_of d ≡ cid) × (x.fields ≡ f) × (shown_at d x.name ≡ name)
      × (listed_at d x.universes ≡ us)
  unfolding reading_of
  discovery_meant f name us = by (packet_of d)
    where
      by : (y : Packet) → content_of d (with_cid d y) ≡ discovery_content cid f name us →
          (x : DiscoveryRecord) × (y ≡ Discovery x) × (cid_of d ≡ cid) × (x.fields ≡ f) × (shown_at d x.name ≡ name)
          × (listed_at d x.universes ≡ us)
      by (Data y) e = let z : ◌≡◌ {A = ℕ} 0 1 = cc in absurd (omega arith)
      by (Synchronization y) e = let z : ◌≡◌ {A = ℕ} 0 1 = cc in absurd (omega arith)
      by (Discovery y) e =
          let c : cid_of d ≡ cid = cc in
          let fields : y.fields ≡ f = cc in
          let shown : shown_at d y.name ≡ name = cc in
          let listed : listed_at d y.universes ≡ us = cc in
          (y, refl, c, fields, shown, listed)
      by (Refused r) e = let z : ◌≡◌ {A = ℕ} 0 1 = cc in absurd (omega arith)
