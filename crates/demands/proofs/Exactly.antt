-- Demand 3, ignored places and nothing else in one: among datagrams of the packet's own size, exactly those that differ from it in ignored
-- places only are taken for the record. Assumes nothing.
use Prim.Native.Nat.{ℕ}
use mathlib.Core.Path.{◌≡◌}
use mathlib.Core.List.{List}
use lib.ListN.{length}
use Rattle.wire.specs.Bytes.{Bytes}
use Rattle.discovery.specs.declared.DiscoveryFields.{DiscoveryFields}
use Rattle.framing.specs.declared.DataFields.{DataFields}
use Rattle.extended.specs.declared.synchronization.SynchronizationFields.{SynchronizationFields}
use Rattle.pack.specs.Writing.{data_bytes, data_length, synchronization_bytes, synchronization_length, discovery_bytes, discovery_length}
use Rattle.demands.specs.Content.{data_content, synchronization_content, discovery_content, meaning}
use Rattle.demands.specs.Limits.{Iff, ReadableData, ReadableSynchronization, ReadableDiscovery}
use Rattle.demands.specs.Ignored.{AlikeData, AlikeSynchronization, AlikeDiscovery}
use Rattle.demands.proofs.Data.{ignored_data, nothing_else_data}
use Rattle.demands.proofs.Synchronization.{ignored_synchronization, nothing_else_synchronization}
use Rattle.demands.proofs.Discovery.{ignored_discovery, nothing_else_discovery}

module _ (cid d : List ℕ) (b : Bytes d) where
  pub exactly_data : (f : DataFields) (name values : List ℕ) → ReadableData cid f name values → length d ≡ data_length values →
      Iff (meaning d ≡ data_content cid f name values) (AlikeData name (data_bytes cid f name values) d)
  exactly_data f name values h n =
      (λ m. nothing_else_data cid f name values d n b m, λ a. (ignored_data cid f name values d h a).1)

  pub exactly_synchronization : (f : SynchronizationFields) → ReadableSynchronization cid f → length d ≡ synchronization_length →
      Iff (meaning d ≡ synchronization_content cid f) (AlikeSynchronization (synchronization_bytes cid f) d)
  exactly_synchronization f h n =
      (λ m. nothing_else_synchronization cid f d n b m, λ a. (ignored_synchronization cid f d h a).1)

  pub exactly_discovery : (f : DiscoveryFields) (name us : List ℕ) → ReadableDiscovery cid f name us → length d ≡ discovery_length us →
      Iff (meaning d ≡ discovery_content cid f name us) (AlikeDiscovery name (discovery_bytes cid f name us) d)
  exactly_discovery f name us h n =
      (λ m. nothing_else_discovery cid f name us d n b m, λ a. (ignored_discovery cid f name us d h a).1)
