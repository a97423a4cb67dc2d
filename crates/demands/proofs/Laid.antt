-- Written packets in document 01's byte layout: after an accepted write each field stands at its place, and the fields are the whole packet.
-- Assumes nothing.
use Rattle.std.specs.Prelude.{Ok, Err}
use Prim.Native.Nat.{ℕ, ◌+◌, ◌-◌, ◌*◌, ◌≤◌, ◌<◌}
use mathlib.Core.Bool.{Bool, true, false}
use mathlib.Core.Path.{◌≡◌, refl, sym, ap, ◌∙◌}
use mathlib.Core.List.{List, [], ◌∷◌, ◌++◌, map, append_assoc, append-nil}
use native.Mathlib.Omega.{arith}
use lib.ListN.{length, take, drop, length-append, length-replicate}
use lib.Seq.{take_at, drop_at}
use Rattle.wire.specs.Fields.{be16, join}
use Rattle.refusal.specs.Check.{Numbered, pick}
use Rattle.refusal.proofs.Laws.{All, found}
use Rattle.name.proofs.Laws.{bytes_filled}
use Rattle.pdu.specs.Head.{flags_field}
use Rattle.dmp.specs.Layer.{dmp_bytes}
use Rattle.discovery.specs.Universes.{universe_bytes}
use Rattle.discovery.specs.Layer as discoveryLayer
use Rattle.discovery.specs.declared.DiscoveryFields.{DiscoveryFields}
use Rattle.discovery.proofs.Laws.{bytes_length}
use Rattle.framing.specs.Bytes.{bit_of, options_of, data_framing_bytes}
use Rattle.framing.specs.declared.DataFields.{DataFields}
use Rattle.extended.specs.Bytes.{synchronization_framing_bytes, discovery_framing_bytes}
use Rattle.extended.specs.declared.synchronization.SynchronizationFields.{SynchronizationFields}
use Rattle.pack.specs.Writing.{data_bytes, synchronization_bytes, discovery_bytes, data_length, synchronization_length, discovery_length, data_write_checks, synchronization_write_checks, discovery_write_checks, packed_of, after_pack}
use Rattle.demands.specs.Layout.{Field, Laid, Gapless, named, options, data_layout, synchronization_layout, discovery_layout}

-- fields without a gap stand at their places in what they are joined to, whatever is before and behind
abbrev joined : List Field → List ℕ
joined fs = join (map (λ (f : Field). f.bytes) fs)

laid : (fs : List Field) (begin n : ℕ) (front rest : List ℕ) → length front ≡ begin → Gapless begin fs n → Laid fs (front ++ (joined fs ++ rest))
laid [] begin n front rest e g = tt
laid (f ∷ fs) begin n front rest e g =
    let p : length front ≡ f.place = e ∙ sym g.0 in
    let q : length (front ++ f.bytes) ≡ f.place + length f.bytes = simp length-append (omega arith) in
    let here : take (length f.bytes) (drop f.place (front ++ (f.bytes ++ (joined fs ++ rest)))) ≡ f.bytes =
    rw (drop_at front (f.bytes ++ (joined fs ++ rest)) f.place p) (take_at f.bytes (joined fs ++ rest) (length f.bytes) refl) in
    let back : Laid fs (front ++ (f.bytes ++ (joined fs ++ rest))) =
    rw (← append_assoc front f.bytes (joined fs ++ rest)) (laid fs (f.place + length f.bytes) n (front ++ f.bytes) rest q g.1) in
    rw (append_assoc f.bytes (joined fs) rest) (here, back)

laid_first : (fs : List Field) (n : ℕ) (packet rest : List ℕ) → packet ≡ joined fs → Gapless 0 fs n → Laid fs (packet ++ rest)
laid_first fs n packet rest e g = rw e (laid fs 0 n [] rest refl g)

-- an accepted write: its checks hold, and its answer is the packet's length
pub wrote : (cs : List Numbered) (len n : ℕ) → packed_of cs len ≡ Ok n → All cs × (len ≡ n)
unfolding packed_of
wrote cs len n e =
    let f = found Err cs (Ok len) (Ok n) (λ r q. let z : ◌≡◌ {A = ℕ} 0 1 = cc in omega arith) e in
    let same : len ≡ n = cc in
    (f.0, same)

-- What the writers put at a field, and the layout's bytes.
flags_plain : (end first len : ℕ) → first + len ≡ end → len < 0x1000 → flags_field len ≡ 0x7000 + (end - first)
flags_plain end first len e h = omega arith

bit_plain : (b : Bool) (n : ℕ) → bit_of b n ≡ pick b n 0
bit_plain true n = refl
bit_plain false n = refl

options_plain : (f : DataFields) → options_of f ≡ options f
options_plain f = rw (bit_plain f.preview_data 0x80, bit_plain f.stream_terminated 0x40, bit_plain f.force_synchronization 0x20)

universes_plain : (us : List ℕ) → universe_bytes us ≡ join (map be16 us)
unfolding universe_bytes
universes_plain [] = refl
universes_plain (u ∷ us) = rw (universes_plain us)

named_64 : (name : List ℕ) → length name ≤ 63 → length (named name) ≡ 64
named_64 name h = simp (length-append, length-replicate) (omega arith)

-- Each packet is its fields, one after the other without a gap.
module _ (cid : List ℕ) where
  data_gapless : (f : DataFields) (name values : List ℕ) → length cid ≡ 16 → length name ≤ 63 →
      Gapless 0 (data_layout cid f name values) (125 + length values)
  data_gapless f name values sixteen short =
      let n = named_64 name short in
      omega arith

  data_joined : (f : DataFields) (name values : List ℕ) → length name ≤ 63 → length values ≤ 513 →
      data_bytes cid f name values ≡ joined (data_layout cid f name values)
  unfolding data_bytes data_framing_bytes dmp_bytes
  data_joined f name values short few =
      let n = 125 + length values in
      let root = flags_plain n 16 (109 + length values) (omega arith) (omega arith) in
      let frame = flags_plain n 38 (87 + length values) (omega arith) (omega arith) in
      let layer = flags_plain n 115 (10 + length values) (omega arith) (omega arith) in
      rw (root, frame, layer, bytes_filled name (omega arith), options_plain f, append-nil values)

  synchronization_gapless : (f : SynchronizationFields) → length cid ≡ 16 → Gapless 0 (synchronization_layout cid f) 49
  synchronization_gapless f sixteen = omega arith

  synchronization_joined : (f : SynchronizationFields) → synchronization_bytes cid f ≡ joined (synchronization_layout cid f)
  unfolding synchronization_bytes synchronization_framing_bytes
  synchronization_joined f = refl

  discovery_gapless : (f : DiscoveryFields) (name us : List ℕ) → length cid ≡ 16 → length name ≤ 63 →
      Gapless 0 (discovery_layout cid f name us) (120 + 2 * length us)
  discovery_gapless f name us sixteen short =
      let n = named_64 name short in
      let m : length (join (map be16 us)) ≡ 2 * length us = sym (ap length (universes_plain us)) ∙ bytes_length us in
      omega arith

  discovery_joined : (f : DiscoveryFields) (name us : List ℕ) → length name ≤ 63 → length us ≤ 512 →
      discovery_bytes cid f name us ≡ joined (discovery_layout cid f name us)
  unfolding discovery_bytes discovery_framing_bytes discoveryLayer.discovery_bytes
  discovery_joined f name us short few =
      let n = 120 + 2 * length us in
      let root = flags_plain n 16 (104 + 2 * length us) (omega arith) (omega arith) in
      let frame = flags_plain n 38 (82 + 2 * length us) (omega arith) (omega arith) in
      let layer = flags_plain n 112 (8 + 2 * length us) (omega arith) (omega arith) in
      rw (root, frame, layer, bytes_filled name (omega arith), universes_plain us, append-nil (join (map be16 us)))

-- An accepted write leaves the packet in the buffer's front: its length is document 01's, each field stands at its place, and the fields
-- follow one another from byte 0 to the packet's end.
module _ (cid : List ℕ) (sixteen : length cid ≡ 16) (buf : List ℕ) (n : ℕ) where
  pub data_laid : (f : DataFields) (name values : List ℕ) → packed_of (data_write_checks (length buf) name values) (data_length values) ≡ Ok n →
      (n ≡ 125 + length values) × (126 ≤ n) × (n ≤ 638) × Gapless 0 (data_layout cid f name values) n
      × Laid (data_layout cid f name values) (after_pack (Ok n) (data_bytes cid f name values) buf)
  data_laid f name values e =
      let w = wrote (data_write_checks (length buf) name values) (data_length values) n e in
      let short : length name ≤ 63 = omega arith in
      let few : length values ≤ 513 = omega arith in
      let g : Gapless 0 (data_layout cid f name values) n = rw (← w.1) (data_gapless cid f name values sixteen short) in
      let j = data_joined cid f name values short few in (
        sym w.1,
        omega arith,
        omega arith,
        g,
        laid_first (data_layout cid f name values) n (data_bytes cid f name values) (drop n buf) j g,
      )

  pub synchronization_laid : (f : SynchronizationFields) → packed_of (synchronization_write_checks (length buf)) synchronization_length ≡ Ok n →
      (n ≡ 49) × Gapless 0 (synchronization_layout cid f) n
      × Laid (synchronization_layout cid f) (after_pack (Ok n) (synchronization_bytes cid f) buf)
  synchronization_laid f e =
      let w = wrote (synchronization_write_checks (length buf)) synchronization_length n e in
      let g : Gapless 0 (synchronization_layout cid f) n = rw (← w.1) (synchronization_gapless cid f sixteen) in
      let j = synchronization_joined cid f in
      (sym w.1, g, laid_first (synchronization_layout cid f) n (synchronization_bytes cid f) (drop n buf) j g)

  pub discovery_laid : (f : DiscoveryFields) (name us : List ℕ) → packed_of (discovery_write_checks (length buf) name us) (discovery_length us) ≡ Ok n →
      (n ≡ 120 + 2 * length us) × (n ≤ 1144) × Gapless 0 (discovery_layout cid f name us) n
      × Laid (discovery_layout cid f name us) (after_pack (Ok n) (discovery_bytes cid f name us) buf)
  discovery_laid f name us e =
      let w = wrote (discovery_write_checks (length buf) name us) (discovery_length us) n e in
      let short : length name ≤ 63 = omega arith in
      let few : length us ≤ 512 = omega arith in
      let g : Gapless 0 (discovery_layout cid f name us) n = rw (← w.1) (discovery_gapless cid f name us sixteen short) in
      let j = discovery_joined cid f name us short few in (
        sym w.1,
        omega arith,
        g,
        laid_first (discovery_layout cid f name us) n (discovery_bytes cid f name us) (drop n buf) j g,
      )
