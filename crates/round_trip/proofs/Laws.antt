-- The demand on returned records, of a write's answer p, the buffer and what is read or copied after it. Assumes nothing.
use Rattle.std.proofs.Common.{◌≡◌, ℕ, ◌≤◌, List, ◌++◌, length, drop, Ok, Err, Result, ap, ◌∙◌}
use Rattle.refusal.proofs.Laws.{not_refused}
use Rattle.packet.specs.Packet.{packet_of}
use Rattle.parts.specs.Parts.{copied_of}
use Rattle.discovery.specs.declared.DiscoveryFields.{DiscoveryFields}
use Rattle.refusal.specs.declared.Refusal.{Refusal}
use Rattle.pack.specs.Writing.{discovery_bytes, discovery_length, Packed, after_pack}
use Rattle.demands.specs.Limits.{ReadableDiscovery}
use Rattle.demands.proofs.Discovery.{return_discovery, copied_discovery}
use Rattle.round_trip.specs.Trip.{discovery_packed, copied_after, out_after}

-- What a call promises that writes, and then goes on by the write's answer p, which is `packed`: its own answer r and the buffer at exit, and
-- what was demanded of what is `seen` of the two. A and B are the readable limits and the room: with them the write is accepted.
pub trip : {R S A B : Type 0} {packed p : Packed} {n : ℕ} {exit : List ℕ} {r : R} {s : S} (after : Packed → List ℕ → R) (seen : List ℕ → R → S)
    (packet buf : List ℕ) →
    p ≡ packed → exit ≡ after_pack p packet buf → r ≡ after p exit →
    (A → B → (packed ≡ Ok n) × (let d = after_pack (Ok n) packet buf in seen d (after (Ok n) d) ≡ s)) →
    (r ≡ after packed exit) × (exit ≡ after_pack packed packet buf) × (A → B → seen exit r ≡ s)
trip {packed = packed} {n = n} {exit = exit} {r = r} after seen packet buf e x y demand =
    let left : exit ≡ after_pack packed packet buf = x ∙ ap (λ (q : Packed). after_pack q packet buf) e in
    let answer : r ≡ after packed exit = y ∙ ap (λ (q : Packed). after q exit) e in (
      answer,
      left,
      λ a b.
          let w = demand a b in
          let written : exit ≡ after_pack (Ok n) packet buf = left ∙ ap (λ (q : Packed). after_pack q packet buf) w.0 in
          rw (answer, w.0, written) w.1,
    )

-- The same for the universes that are copied out of the buffer into `out`, which is `numbers` at exit.
module _ (cid : List ℕ) (f : DiscoveryFields) (name us buf out : List ℕ) where
  abbrev Copied : Type 0
  Copied = Result ℕ Refusal

  abbrev after : Packed → List ℕ → Copied
  after q d = copied_after q d (length out)

  -- the answer, and the numbers with it
  abbrev filled : List ℕ → Copied → Copied × List ℕ
  filled d c = (c, out_after c d out)

  -- the theorems on a written discovery packet, as `trip` asks for them
  accepted : ReadableDiscovery cid f name us → (discovery_length us ≤ length buf) × (length us ≤ length out) →
      let n = Ok (discovery_length us) in
      let d = after_pack n (discovery_bytes cid f name us) buf in
      (discovery_packed buf name us ≡ n) × (filled d (after n d) ≡ (Ok (length us), us ++ drop (length us) out))
  accepted h k =
      let d = after_pack (Ok (discovery_length us)) (discovery_bytes cid f name us) buf in
      let w = copied_discovery cid f name us buf out h k.0 k.1 in
      ((return_discovery cid f name us buf h k.0).0, ap (filled d) w.0 ∙ ap (λ (l : List ℕ). (Ok (length us), l)) w.1)

  -- within the limits and the room the write is not refused, and its universes come back
  pub written : {r : Refusal} → Err r ≡ discovery_packed buf name us →
      ReadableDiscovery cid f name us → discovery_length us ≤ length buf → length us ≤ length out → ⊥
  written {r} e h k m = not_refused (discovery_length us) r (e ∙ (accepted h (k, m)).0)

  pub returned : (exit numbers : List ℕ) (n : ℕ) (r : Copied) →
      Ok n ≡ discovery_packed buf name us → exit ≡ after_pack (Ok n) (discovery_bytes cid f name us) buf →
      r ≡ copied_of (packet_of exit) (length out) → numbers ≡ out_after r exit out →
      ReadableDiscovery cid f name us → discovery_length us ≤ length buf → length us ≤ length out →
      (r ≡ Ok (length us)) × (numbers ≡ us ++ drop (length us) out)
  returned exit numbers n r e x y z h k m =
      let t = trip after filled (discovery_bytes cid f name us) buf e x y accepted in
      let same = t.2 h (k, m) in
      (ap (λ (x : Copied × List ℕ). x.0) same, z ∙ ap (λ (x : Copied × List ℕ). x.1) same)
