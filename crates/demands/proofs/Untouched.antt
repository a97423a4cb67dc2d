-- Demand 1, of writing: a refused write leaves the buffer as found; an accepted one leaves every byte from the packet's length on as found, and
-- keeps the buffer's length. Assumes nothing.
use Rattle.std.specs.Prelude.{Result, Ok, Err}
use Prim.Native.Nat.{ℕ, ◌≤◌}
use mathlib.Core.Path.{◌≡◌, ◌∙◌}
use mathlib.Core.List.{List, ◌∷◌, ◌++◌}
use native.Mathlib.Omega.{arith}
use lib.ListN.{length, drop, length-append, length-drop}
use lib.Seq.{drop_at}
use Rattle.refusal.specs.declared.Refusal.{Refusal}
use Rattle.refusal.specs.Check.{Numbered}
use Rattle.refusal.proofs.Laws.{found}
use Rattle.discovery.specs.declared.DiscoveryFields.{DiscoveryFields}
use Rattle.framing.specs.declared.DataFields.{DataFields}
use Rattle.extended.specs.declared.synchronization.SynchronizationFields.{SynchronizationFields}
use Rattle.pack.specs.Writing.{room_check, data_bytes, synchronization_bytes, discovery_bytes, data_length, synchronization_length, discovery_length, data_write_checks, synchronization_write_checks, discovery_write_checks, packed_of, after_pack}
use Rattle.pack.proofs.Writing.{data_long, synchronization_long, discovery_long}

-- A refused write leaves the buffer untouched.
pub refused_untouched : (p : Result ℕ Refusal) (r : Refusal) (packet buf : List ℕ) → p ≡ Err r → after_pack p packet buf ≡ buf
refused_untouched p r packet buf e = rw e

-- an accepted write had room
had_room : (len room n : ℕ) (cs : List Numbered) → packed_of (room_check len room ∷ cs) len ≡ Ok n → (len ≤ room) × (len ≡ n)
unfolding packed_of
had_room len room n cs e =
    let f = found Err (room_check len room ∷ cs) (Ok len) (Ok n) (λ r q. let z : ◌≡◌ {A = ℕ} 0 1 = cc in omega arith) e in
    let same : len ≡ n = cc in
    (f.0.0, same)

-- the packet's length of bytes in front, and all behind them as it was
abbrev pub Kept : ℕ → List ℕ → List ℕ → Type 0
Kept n exit buf = (drop n exit ≡ drop n buf) × (length exit ≡ length buf)

kept : (packet buf : List ℕ) (n : ℕ) → length packet ≡ n → n ≤ length buf → Kept n (packet ++ drop n buf) buf
kept packet buf n e h = (drop_at packet (drop n buf) n e, simp (length-append, length-drop) (omega arith))

-- An accepted write touches only the packet's length.
module _ (cid : List ℕ) (h : length cid ≡ 16) (buf : List ℕ) (n : ℕ) where
  pub data_kept : (f : DataFields) (name values : List ℕ) → packed_of (data_write_checks (length buf) name values) (data_length values) ≡ Ok n →
      Kept n (after_pack (Ok n) (data_bytes cid f name values) buf) buf
  data_kept f name values e =
      let r = had_room (data_length values) (length buf) n _ e in
      kept (data_bytes cid f name values) buf n (data_long cid h f name values ∙ r.1) (omega arith)

  pub synchronization_kept : (f : SynchronizationFields) → packed_of (synchronization_write_checks (length buf)) synchronization_length ≡ Ok n →
      Kept n (after_pack (Ok n) (synchronization_bytes cid f) buf) buf
  synchronization_kept f e =
      let r = had_room synchronization_length (length buf) n _ e in
      kept (synchronization_bytes cid f) buf n (synchronization_long cid h f ∙ r.1) (omega arith)

  pub discovery_kept : (f : DiscoveryFields) (name us : List ℕ) → packed_of (discovery_write_checks (length buf) name us) (discovery_length us) ≡ Ok n →
      Kept n (after_pack (Ok n) (discovery_bytes cid f name us) buf) buf
  discovery_kept f name us e =
      let r = had_room (discovery_length us) (length buf) n _ e in
      kept (discovery_bytes cid f name us) buf n (discovery_long cid h f name us ∙ r.1) (omega arith)
