-- Demand 2: what reading, writing, range and address are equal to. Reading is the flat list of checks in document 01's order, and then the record.
-- Writing is the list of write checks, and then the bytes of its layout in front of what stood behind; a refusal leaves the buffer as found. The
-- range is 1..63999 and 64214, and the address 239.255.high.low, port 5568. Last, four numbers that the crate has no kind for, and two whose kind is
-- that the crate takes the packet. Assumes nothing.
use Rattle.std.specs.Prelude.{Result, Ok, Err}
use Prim.Native.Nat.{ℕ, ◌/◌, ◌%◌, ◌≤◌}
use mathlib.Core.Path.{◌≡◌, refl, ap}
use mathlib.Core.List.{List, [], ◌∷◌, map}
use mathlib.Core.Logic.{◌⊎◌, inl, inr, ⊎_elim}
use native.Mathlib.Omega.{arith}
use lib.ListN.{length}
use Rattle.refusal.specs.declared.Refusal.{Refusal}
use Rattle.refusal.specs.Check.{Numbered, ◌≤?◌, ◌=?◌, ◌and◌, choose, reading, checked_of, refusal, nowhere}
use Rattle.refusal.proofs.Tests.{decide}
use Rattle.refusal.proofs.Laws.{All, Stops, refusal_at, decides, all_hold, first_fails}
use Rattle.universe.specs.Universe.{universe_checks, multicast_of}
use Rattle.discovery.specs.declared.DiscoveryFields.{DiscoveryFields}
use Rattle.framing.specs.declared.DataFields.{DataFields}
use Rattle.extended.specs.declared.synchronization.SynchronizationFields.{SynchronizationFields}
use Rattle.packet.specs.Packet.{packet_checks, record_of, packet_of, with_cid, reading_of, framing_part}
use Rattle.packet.specs.declared.Packet.TheVariants as packet
use Rattle.packet.proofs.Whole.{whole}
use Rattle.pack.specs.Writing.{data_bytes, synchronization_bytes, discovery_bytes, data_length, synchronization_length, discovery_length, data_write_checks, synchronization_write_checks, discovery_write_checks, packed_of, after_pack}
use Rattle.edition2009.specs.Packet.{packet_checks2009, data_record2009, packet2009_of, with_cid2009, reading2009_of}
use Rattle.edition2009.specs.declared.Packet2009.TheVariants as old
use Rattle.demands.specs.Definitions.{Writes, ByRange}
use Rattle.demands.specs.Kinds.{kind_of, Ours, Taken}

-- The present reader is its list of checks, and then the record, with the CID beside it.
pub reading_is : (d : List ℕ) → reading_of d ≡ with_cid d (reading packet.Refused (packet_checks d) (record_of d))
unfolding reading_of packet_of
reading_is d = refl

-- It answers with the record where all checks hold, and else by the first that fails, those before it holding.
pub first_that_fails : (d : List ℕ) →
    (All (packet_checks d) × (packet_of d ≡ record_of d))
    ⊎ ((k : ℕ) × Stops k (packet_checks d) × (packet_of d ≡ packet.Refused (refusal_at k (packet_checks d))))
first_that_fails d = whole d

-- The 2009 reader is its own list of checks, and then its record.
pub reading_2009_is : (d : List ℕ) →
    reading2009_of d ≡ with_cid2009 d (reading old.Refused (packet_checks2009 d) (old.Data (data_record2009 (framing_part d))))
unfolding reading2009_of packet2009_of
reading_2009_is d = refl

-- One law of every write, over its checks, the packet's length, its bytes and the buffer.
writes : (cs : List Numbered) (n : ℕ) (bytes buf : List ℕ) → Writes cs n bytes buf
unfolding packed_of
writes cs n bytes buf = by (decides cs)
  where
    left : Result ℕ Refusal → List ℕ
    left r = after_pack r bytes buf

    by : All cs ⊎ ((k : ℕ) × Stops k cs) → Writes cs n bytes buf
    by (inl a) = let e = all_hold Err cs (Ok n) a in inl (a, e, ap left e)
    by (inr s) = let e = first_fails Err s.0 cs (Ok n) s.1 in inr (s.0, s.1, e, ap left e)

-- Writing, for each kind: by its checks at the buffer's length, its packet length and its bytes.
pub writing_data_is : (cid : List ℕ) (f : DataFields) (name values buf : List ℕ) →
    Writes (data_write_checks (length buf) name values) (data_length values) (data_bytes cid f name values) buf
writing_data_is cid f name values buf = writes (data_write_checks (length buf) name values) (data_length values) (data_bytes cid f name values) buf

pub writing_synchronization_is : (cid : List ℕ) (f : SynchronizationFields) (buf : List ℕ) →
    Writes (synchronization_write_checks (length buf)) synchronization_length (synchronization_bytes cid f) buf
writing_synchronization_is cid f buf = writes (synchronization_write_checks (length buf)) synchronization_length (synchronization_bytes cid f) buf

pub writing_discovery_is : (cid : List ℕ) (f : DiscoveryFields) (name us buf : List ℕ) →
    Writes (discovery_write_checks (length buf) name us) (discovery_length us) (discovery_bytes cid f name us) buf
writing_discovery_is cid f name us buf = writes (discovery_write_checks (length buf) name us) (discovery_length us) (discovery_bytes cid f name us) buf

-- One law of what is answered by the check on a universe.
ranged : {A : Type 0} (refused : Refusal → A) (u : ℕ) (next : A) →
    ByRange u (reading refused (universe_checks u) next) next (refused (refusal 30 nowhere u))
ranged refused u next =
    decide (u =? 64214) (λ e. inl (inr e, all_hold refused (universe_checks u) next ((λ f. absurd (f e)), tt)))
    (λ f.
    decide (1 ≤? u and u ≤? 63999) (λ h. inl (inl h, all_hold refused (universe_checks u) next ((λ g. h), tt)))
    (λ g.
    inr (
      ⊎_elim (λ (h : (1 ≤ u) × (u ≤ 63999)). let k = g h.0 in omega arith) f,
      first_fails refused 0 (universe_checks u) next (f, g),
    )))

-- The range: a universe in it passes; any other is refused 30 with the universe as value.
pub range_is : (u : ℕ) → ByRange u (checked_of (universe_checks u)) (Ok tt) (Err (refusal 30 nowhere u))
unfolding checked_of
range_is u = ranged Err u (Ok tt)

-- The address: a universe in the range has 239.255.high.low, port 5568; any other is refused 30 with the universe as value.
pub address_is : (u : ℕ) →
    ByRange u (multicast_of u) (Ok (record { highest = 239; second = 255; third = u / 0x100; lowest = u % 0x100; port = 5568 }))
    (Err (refusal 30 nowhere u))
unfolding multicast_of
address_is u = ranged Err u (Ok (record { highest = 239; second = 255; third = u / 0x100; lowest = u % 0x100; port = 5568 }))

-- The crate has no kind for 21, 22, 23 and 31, which document 01 adds to writing and copying.
pub ours : map kind_of (21 ∷ 22 ∷ 23 ∷ 31 ∷ []) ≡ Ours ∷ Ours ∷ Ours ∷ Ours ∷ []
unfolding kind_of choose
ours = refl

-- The kind of 17 and 27, which request 07 adds, is that the crate takes the packet.
pub taken : map kind_of (17 ∷ 27 ∷ []) ≡ Taken ∷ Taken ∷ []
unfolding kind_of choose
taken = refl
