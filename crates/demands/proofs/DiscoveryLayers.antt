-- The layers of a universe discovery packet, from the framing layer on: what is read of them, and which bytes are read so. Assumes nothing.
use Prim.Native.Nat.{ℕ, ◌+◌, ◌*◌, ◌-◌, ◌≤◌, ◌<◌}
use mathlib.Core.Path.{◌≡◌, refl, sym, ap, ap₂, ◌∙◌}
use mathlib.Core.List.{List, [], ◌∷◌, ◌++◌, append_assoc, append-nil}
use native.Mathlib.Omega.{arith}
use lib.ListN.{length, take, drop, length-append, length-drop, take-append-drop}
use lib.Seq.{take_at, drop_at, take_all}
use Rattle.wire.specs.Bytes.{Bytes, Words}
use Rattle.wire.proofs.Bytes.{bytes_drop}
use Rattle.wire.specs.Fields.{byte_at, u16_at, u32_at}
use Rattle.refusal.specs.Check.{◌=?◌, choose, framing, discovery}
use Rattle.refusal.proofs.Tests.{passed_over}
use Rattle.refusal.proofs.Laws.{All, all_++, all_hold}
use Rattle.pdu.specs.Head.{head_checks, flags_of, length_of, vector_of}
use Rattle.pdu.specs.declared.VectorLength.TheVariants.{Four}
use Rattle.name.specs.Name.{zero_at, source_name_checks}
use Rattle.discovery.specs.declared.DiscoveryFields.{DiscoveryFields}
use Rattle.discovery.specs.Layer.{own_checks, discovery_checks, discovery_head, discovery_bytes, list_part, count_in}
use Rattle.discovery.specs.Universes.{list_checks, universes, universe_bytes, order_checks}
use Rattle.discovery.proofs.Laws.{bytes_length}
use Rattle.pdu.specs.Head.{layer_head}
use Rattle.name.specs.Name.{name_field}
use Rattle.extended.specs.Synchronization.{synchronization_checks}
use Rattle.extended.specs.UniverseDiscovery.{discovery_part, start_checks, discovery_framing_checks}
use Rattle.extended.specs.Extended.{kind_checks, extended_checks}
use Rattle.packet.specs.declared.Packet.{Packet}
use Rattle.packet.specs.declared.Packet.TheVariants.{Discovery, Refused}
use Rattle.packet.specs.Packet.{span, extended_record, extended_packet_of}
use Rattle.demands.specs.Limits.{ReadableDiscovery}
use Rattle.demands.proofs.Names.{Named, named_ends, named_checks}
use Rattle.demands.proofs.UniverseLists.{listed_back, bytes_back}
use Rattle.demands.proofs.Segments.{join_cuts, field8}
use Rattle.demands.proofs.Extended.{head_bytes}

-- how a layer starts: its flags, its length, its vector, and as many bytes as it says
record Starts (p : List ℕ) (len vec : ℕ) : Type 0 where
  flags : flags_of p ≡ 0x70
  says : length_of p ≡ len
  vector : vector_of Four p ≡ vec
  long : length p ≡ len

-- the discovery layer's checks hold, of lists that are variables here so that nothing computes
layer_by : (f : DiscoveryFields) (us q : List ℕ) → Starts q (8 + 2 * length us) 1 → list_part q ≡ universe_bytes us →
    byte_at q 6 ≡ f.page → byte_at q 7 ≡ f.last_page →
    f.page ≤ f.last_page → length us ≤ 512 → Words us → All (order_checks us) → All (discovery_checks q)
layer_by f us q s l a b paged few w h =
    let count : count_in (length_of q) ≡ length us = omega arith in
    let list : All (list_checks (list_part q) (count_in (length_of q))) = rw (count, l) (listed_back us w h) in
    let heads : All (head_checks Four discovery q) = omega arith in
    let own : All (own_checks q (length_of q) (vector_of Four q)) = omega arith in
    let lists = list_checks (list_part q) (count_in (length_of q)) in
    let owns = own_checks q (length_of q) (vector_of Four q) in
    all_++ (head_checks Four discovery q) (owns ++ lists) heads (all_++ owns lists own list)

-- a framing layer with the name field nf and the discovery layer q
module _ (f : DiscoveryFields) (name us p nf q : List ℕ) (whole : ℕ) (fits : 82 + 2 * length us ≤ whole) (s : Starts p (82 + 2 * length us) 2)
    (t : Starts q (8 + 2 * length us) 1) (nf-is : name_field p ≡ nf) (q_is : discovery_part p (82 + 2 * length us) ≡ q) where
  framing_by : All (source_name_checks nf) → All (discovery_checks q) → All (extended_checks whole p)
  framing_by named layered =
      let vec = vector_of Four p in
      let len = length_of p in
      let heads : All (head_checks Four framing p) = omega arith in
      let kinds : All (kind_checks whole len vec) = omega arith in
      let start : All (start_checks p len) = omega arith in
      let inner : discovery_part p len ≡ q = ap (discovery_part p) s.says ∙ q_is in
      let nameds : All (source_name_checks (name_field p)) = rw nf-is named in
      let layers : All (discovery_checks (discovery_part p len)) = rw inner layered in
      let body : All (discovery_framing_checks p len) =
      all_++ (start_checks p len) (source_name_checks (name_field p) ++ discovery_checks (discovery_part p len)) start
      (all_++ (source_name_checks (name_field p)) (discovery_checks (discovery_part p len)) nameds layers) in
      let bodies = choose (vec =? 1) (synchronization_checks p len) (discovery_framing_checks p len) in
      let chosen : discovery_framing_checks p len ≡ bodies =
      passed_over (vec =? 1) (synchronization_checks p len) (discovery_framing_checks p len) (omega arith) refl in
      let last : All bodies = rw (← chosen) body in
      all_++ (head_checks Four framing p) (kind_checks whole len vec ++ bodies) heads (all_++ (kind_checks whole len vec) bodies kinds last)

  record_by : zero_at nf ≡ length name → byte_at q 6 ≡ f.page → byte_at q 7 ≡ f.last_page → length us ≤ 512 →
      extended_record p ≡ Discovery (record { fields = f; name = span 44 (length name); universes = span 120 (2 * length us) })
  record_by ends a b few =
      let count : count_in (length_of q) ≡ length us = omega arith in
      sym (passed_over (vector_of Four p =? 1) _ _ (omega arith) refl) ∙ rw (s.says, nf-is, q_is, ends, a, b, count)

-- a layer's start as it is written
starts : (len vec : ℕ) (tail : List ℕ) → len < 0x1000 → vec < 0x10000 → 6 + length tail ≡ len → Starts (layer_head len vec ++ tail) len vec
unfolding u16_at u32_at
starts len vec tail small low e = record { flags = omega arith; says = omega arith; vector = omega arith; long = omega arith }

behind : (nf reserved q : List ℕ) → length nf ≡ 64 → length reserved ≡ 4 → drop 68 (nf ++ (reserved ++ q)) ≡ q
behind nf reserved q a b =
    ap (λ (l : List ℕ). drop 68 l) (sym (append_assoc nf reserved q)) ∙ drop_at (nf ++ reserved) q 68 (simp length-append (omega arith))

-- a discovery packet's framing layer: any field that holds the name, any reserved bytes
abbrev pub frame : DiscoveryFields → List ℕ → List ℕ → List ℕ → List ℕ
frame f us nf reserved = layer_head (82 + 2 * length us) 2 ++ (nf ++ (reserved ++ discovery_bytes f us))

abbrev pub record_with : DiscoveryFields → ℕ → ℕ → Packet
record_with f n m = Discovery (record { fields = f; name = span 44 n; universes = span 120 (2 * m) })

pub layer_long : (f : DiscoveryFields) (us : List ℕ) → length (discovery_bytes f us) ≡ 8 + 2 * length us
unfolding discovery_bytes
layer_long f us = omega (arith, bytes_length us)

layer_starts : (f : DiscoveryFields) (us : List ℕ) → length us ≤ 512 → Starts (discovery_bytes f us) (8 + 2 * length us) 1
unfolding discovery_bytes
layer_starts f us few =
    starts (8 + 2 * length us) 1 (f.page ∷ f.last_page ∷ universe_bytes us) (omega arith) (omega arith) (omega (arith, bytes_length us))

layer_holds : (f : DiscoveryFields) (us : List ℕ) → f.page ≤ f.last_page → length us ≤ 512 → Words us → All (order_checks us) →
    All (discovery_checks (discovery_bytes f us))
unfolding discovery_bytes
layer_holds f us paged few w h = layer_by f us _ (layer_starts f us few) refl refl refl paged few w h

module _ (cid : List ℕ) (f : DiscoveryFields) (name us nf reserved : List ℕ) (r : ReadableDiscovery cid f name us)
    (named : Named nf name) (four : length reserved ≡ 4) where
  pub frame_long : length (frame f us nf reserved) ≡ 82 + 2 * length us
  frame_long = simp (length-append, layer_long) (omega arith)

  -- it is read as the fields, the name's length and the universes' count
  pub frame_read : (whole : ℕ) → 82 + 2 * length us ≤ whole → extended_packet_of whole (frame f us nf reserved) ≡ record_with f (length name) (length us)
  unfolding extended_packet_of discovery_bytes
  frame_read whole fits =
      let n = 82 + 2 * length us in
      let p = frame f us nf reserved in
      let q = discovery_bytes f us in
      let few : length us ≤ 512 = r.few in
      let s : Starts p n 2 = starts n 2 (nf ++ (reserved ++ q)) (omega arith) (omega arith) (simp (length-append, bytes_length) (omega arith)) in
      let t : Starts q (8 + 2 * length us) 1 = layer_starts f us few in
      let nf-is : name_field p ≡ nf = take_at nf (reserved ++ q) 64 named.size in
      let q_is : discovery_part p n ≡ q =
      ap (λ (l : List ℕ). take (n - 74) l) (behind nf reserved q named.size four) ∙ take_all (n - 74) q (omega (arith, layer_long f us)) in
      let layered = layer_holds f us r.paged few r.words r.ascending in
      all_hold Refused (extended_checks whole p) (extended_record p)
      (framing_by f name us p nf q whole fits s t nf-is q_is (named_checks nf name r.named named) layered)
      ∙ record_by f name us p nf q whole fits s t nf-is q_is (named_ends nf name r.named named) refl refl few

-- a discovery layer of these numbers has these bytes
pub layer_only : (f : DiscoveryFields) (us q : List ℕ) → Bytes q → length q ≡ 8 + 2 * length us → All (head_checks Four discovery q) →
    length_of q ≡ 8 + 2 * length us → vector_of Four q ≡ 1 → byte_at q 6 ≡ f.page → byte_at q 7 ≡ f.last_page →
    universes (length us) (drop 8 q) ≡ us → q ≡ discovery_bytes f us
unfolding discovery_bytes
layer_only f us q b long heads len vec a z list =
    let n = 8 + 2 * length us in
    let l0 : take 6 q ≡ layer_head n 1 = head_bytes discovery n 1 q heads b len vec in
    let l6 = field8 q b 6 f.page (omega arith) a in
    let l7 = field8 q b 7 f.last_page (omega arith) z in
    let front : take 8 q ≡ discovery_head f (length us) = sym (join_cuts 0 (6 ∷ 1 ∷ 1 ∷ []) q) ∙ rw (l0, l6, l7) in
    let back : universe_bytes us ≡ drop 8 q =
    ap universe_bytes (sym list) ∙ bytes_back (length us) (drop 8 q) (simp length-drop (omega arith)) (bytes_drop 8 q b) in
    sym (take-append-drop 8 q) ∙ rw (front, back)

grouped : (s t u v : List ℕ) → (s ++ (t ++ u)) ++ v ≡ s ++ (t ++ (u ++ v))
grouped s t u v = simp append_assoc

-- and so has a framing layer of these numbers with that discovery layer
pub frame_only : (f : DiscoveryFields) (us p : List ℕ) → Bytes p → All (head_checks Four framing p) →
    length_of p ≡ 82 + 2 * length us → vector_of Four p ≡ 2 → drop 74 p ≡ discovery_bytes f us → p ≡ frame f us (name_field p) (take 4 (drop 70 p))
frame_only f us p b heads len vec back =
    let l0 = head_bytes framing (82 + 2 * length us) 2 p heads b len vec in
    let front : take 74 p ≡ layer_head (82 + 2 * length us) 2 ++ (name_field p ++ take 4 (drop 70 p)) =
    sym (join_cuts 0 (6 ∷ 64 ∷ 4 ∷ []) p) ∙ rw (l0, append-nil) in
    sym (take-append-drop 74 p)
    ∙ ap₂ (λ (s t : List ℕ). s ++ t) front back
    ∙ grouped (layer_head (82 + 2 * length us) 2) (name_field p) (take 4 (drop 70 p)) (discovery_bytes f us)
