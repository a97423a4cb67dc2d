-- What a datagram of a discovery packet's size is, that is read as a record x with the name and the universes at its spans: each layer's
-- length, then its bytes. Assumes nothing.
use Prim.Native.Nat.{ℕ, ◌+◌, ◌*◌, ◌-◌, ◌/◌, ◌≤◌}
use mathlib.Core.Path.{◌≡◌, sym, ap, ◌∙◌}
use mathlib.Core.List.{List, ◌∷◌, ◌++◌}
use native.Mathlib.Omega.{arith}
use lib.ListN.{length, take, drop, length-take, length-drop}
use lib.Seq.{take_all, take-take, drop-drop, length-take-le}
use Rattle.wire.specs.Bytes.{Bytes}
use Rattle.wire.proofs.Bytes.{bytes_drop}
use Rattle.wire.specs.Fields.{byte_at}
use Rattle.refusal.specs.Check.{framing, discovery}
use Rattle.refusal.proofs.Laws.{All, all_front, all_back}
use Rattle.pdu.specs.Head.{head_checks, length_of, vector_of}
use Rattle.pdu.specs.declared.VectorLength.TheVariants.{Four}
use Rattle.name.specs.Name.{zero_at, text_of, source_name_checks}
use Rattle.discovery.specs.declared.DiscoveryFields.{DiscoveryFields}
use Rattle.discovery.specs.Layer as layer
use Rattle.discovery.specs.Universes.{universes, all_universes, list_checks}
use Rattle.discovery.proofs.Laws.{universes_length}
use Rattle.name.specs.Name.{name_field}
use Rattle.pdu.specs.declared.Edition.TheVariants.{E2018}
use Rattle.extended.specs.UniverseDiscovery.{discovery_part, start_checks, discovery_framing_checks}
use Rattle.extended.specs.Extended.{extended_checks}
use Rattle.root.specs.Root.{root_part}
use Rattle.root.proofs.Laws.{within}
use Rattle.packet.specs.Packet.{span, root_vector, framing_part, discovery_record, extended_record, packet_of, cid_of}
use Rattle.parts.specs.Parts.{shown_at, listed_at}
use Rattle.packet.specs.declared.DiscoveryRecord.{DiscoveryRecord}
use Rattle.packet.specs.declared.Packet.TheVariants.{Discovery}
use Rattle.pack.specs.Writing.{discovery_bytes, discovery_length}
use Rattle.demands.specs.Ignored.{AlikeDiscovery}
use Rattle.demands.proofs.Root.{Rooted, only_root, rest_framing}
use Rattle.demands.proofs.Names.{Named, named_found}
use Rattle.demands.proofs.Extended.{rooted_by, extended_says, discovery_says}
use Rattle.demands.proofs.DiscoveryLayers.{frame, layer_only, frame_only}
use Rattle.demands.proofs.DiscoveryPackets.{part_inside, named_is, alike_of}

module _ (cid : List ℕ) (f : DiscoveryFields) (name us d : List ℕ) (x : DiscoveryRecord) (long : length d ≡ discovery_length us) (b : Bytes d)
    (e : packet_of d ≡ Discovery x) (fields : x.fields ≡ f) (shown : shown_at d x.name ≡ name) (listed : listed_at d x.universes ≡ us) where
  abbrev p : List ℕ
  p = framing_part d

  abbrev root : ℕ
  root = length_of (root_part d)

  abbrev q : List ℕ
  q = discovery_part p (length_of p)

  abbrev count : ℕ
  count = layer.count_in (length_of q)

  says : Rooted d × (root_vector d ≡ 8) × All (extended_checks (length (root_part d)) p) × (extended_record p ≡ Discovery x)
  says =
      extended_says d (Discovery x) (λ r g. let z : ◌≡◌ {A = ℕ} 0 1 = cc in omega arith) (λ r g. let z : ◌≡◌ {A = ℕ} 0 1 = cc in omega arith) e

  frames : All (head_checks Four framing p) × (vector_of Four p ≡ 2) × All (discovery_framing_checks p (length_of p)) × (discovery_record p ≡ x)
  frames = discovery_says (length (root_part d)) p says.2 x says.3

  -- the checks of the start, the name, and the discovery layer's own
  start : All (start_checks p (length_of p))
  start = all_front (start_checks p (length_of p)) (source_name_checks (name_field p) ++ layer.discovery_checks q) frames.2

  inner : All (source_name_checks (name_field p) ++ layer.discovery_checks q)
  inner = all_back (start_checks p (length_of p)) (source_name_checks (name_field p) ++ layer.discovery_checks q) frames.2

  nameds : All (source_name_checks (name_field p))
  nameds = all_front (source_name_checks (name_field p)) (layer.discovery_checks q) inner

  layers : All (layer.discovery_checks q)
  layers = all_back (source_name_checks (name_field p)) (layer.discovery_checks q) inner

  heads : All (head_checks Four discovery q)
  heads = all_front (head_checks Four discovery q) (layer.body_checks q (length_of q) (vector_of Four q)) layers

  own : All (layer.own_checks q (length_of q) (vector_of Four q))
  own =
      all_front (layer.own_checks q (length_of q) (vector_of Four q)) (list_checks (layer.list_part q) count)
      (all_back (head_checks Four discovery q) (layer.body_checks q (length_of q) (vector_of Four q)) layers)

  -- each layer lies in the one above it
  nested : (22 ≤ root) × (16 + root ≤ length d) × (length p + 22 ≡ root) × (length_of p ≤ length p) × (82 ≤ length_of p)
      × (length q + 74 ≡ length_of p) × (length_of q ≡ length q)
  nested =
      let w = within E2018 d says.0 in
      let s = start in
      let o = own in
      let a : length p + 22 ≡ root = omega (arith, length-take (root - 22) (drop 22 (root_part d)), length-drop 22 (root_part d), length-drop 16 d) in
      let c : length q + 74 ≡ length_of p = omega (arith, length-take (length_of p - 74) (drop 74 p), length-drop 74 p) in
      omega arith

  -- as many universes as the list has
  counted : (count ≡ length us) × (universes (length us) (take (2 * length us) (drop 120 d)) ≡ us)
  counted =
      let n = nested in
      let o = own in
      let l : List ℕ = take (2 * count) (drop 120 d) in
      let at : span 120 (2 * count) ≡ x.universes = ap (λ (y : DiscoveryRecord). y.universes) frames.3 in
      let inside : 120 + 2 * count ≤ length d = omega arith in
      let is : all_universes l ≡ us = ap all_universes (sym (part_inside d 120 (2 * count) inside)) ∙ ap (listed_at d) at ∙ listed in
      let half : length l / 2 ≡ count = omega (arith, length-take-le (2 * count) (drop 120 d) (simp length-drop (omega arith))) in
      let numbers : universes count l ≡ us = ap (λ (k : ℕ). universes k l) (sym half) ∙ is in
      let many : count ≡ length us = sym (universes_length count l) ∙ ap length numbers in
      (many, ap (λ (k : ℕ). universes k (take (2 * k) (drop 120 d))) (sym many) ∙ numbers)

  lengths : (root ≡ 104 + 2 * length us) × (length p ≡ 82 + 2 * length us) × (length_of p ≡ 82 + 2 * length us) × (length_of q ≡ 8 + 2 * length us)
  lengths =
      let n = nested in
      let o = own in
      let c : (length_of q - 8) / 2 ≡ length us = counted.0 in
      omega arith

  ends : 16 + root ≡ length d
  ends = omega (arith, lengths)

  -- the parts as they stand in the datagram
  p_is : p ≡ drop 38 d
  p_is = rest_framing d b says.0 ends

  q_is : q ≡ drop 74 p
  q_is = take_all (length_of p - 74) (drop 74 p) (simp length-drop (omega (arith, lengths)))

  p_bytes : Bytes p
  p_bytes = rw p_is (bytes_drop 38 d b)

  q_bytes : Bytes q
  q_bytes = rw q_is (bytes_drop 74 p p_bytes)

  list_is : drop 8 q ≡ take (2 * length us) (drop 120 d)
  list_is =
      ap (λ (l : List ℕ). drop 8 l) (q_is ∙ ap (λ (l : List ℕ). drop 74 l) p_is ∙ drop-drop 74 38 d)
      ∙ drop-drop 8 112 d
      ∙ sym (take_all (2 * length us) (drop 120 d) (simp length-drop (omega arith)))

  -- and their bytes
  layer_is : q ≡ layer.discovery_bytes f us
  layer_is =
      let n = nested in
      let l = lengths in
      let page : byte_at q 6 ≡ f.page = ap (λ (y : DiscoveryRecord). y.fields.page) frames.3 ∙ ap (λ (y : DiscoveryFields). y.page) fields in
      let last : byte_at q 7 ≡ f.last_page =
      ap (λ (y : DiscoveryRecord). y.fields.last_page) frames.3 ∙ ap (λ (y : DiscoveryFields). y.last_page) fields in
      layer_only f us q q_bytes (omega arith) heads l.3 own.1.0 page last (ap (universes (length us)) list_is ∙ counted.1)

  name_is : Named (name_field p) name
  name_is =
      let l = lengths in
      let z : ℕ = zero_at (name_field p) in
      let size : length (name_field p) ≡ 64 = length-take-le 64 (drop 6 p) (simp length-drop (omega arith)) in
      let ended : z + 1 ≤ length (name_field p) = nameds.0 in
      let at : span 44 z ≡ x.name = ap (λ (y : DiscoveryRecord). y.name) frames.3 in
      let text : text_of (name_field p) ≡ name =
      take-take z 64 (drop 6 p) (omega arith)
      ∙ ap (λ (t : List ℕ). take z t) (ap (λ (t : List ℕ). drop 6 t) p_is ∙ drop-drop 6 38 d)
      ∙ sym (part_inside d 44 z (omega arith))
      ∙ ap (shown_at d) at
      ∙ shown in
      named_found (name_field p) name size nameds text

  -- so it agrees with the packet outside the ignored places
  pub datagram_is : cid_of d ≡ cid → AlikeDiscovery name (discovery_bytes cid f name us) d
  datagram_is c =
      let l = lengths in
      let named = name_is in
      let fill : List ℕ = drop (length name + 1) (name_field p) in
      let reserved : List ℕ = take 4 (drop 70 p) in
      let n : length cid ≡ 16 = sym (ap length c) ∙ length-take-le 16 (drop 22 d) (simp length-drop (omega arith)) in
      let is : p ≡ frame f us (name ++ 0 ∷ fill) reserved =
      frame_only f us p p_bytes frames.0 l.2 frames.1 (sym q_is ∙ layer_is)
      ∙ ap (λ (t : List ℕ). frame f us t reserved) (named_is (name_field p) name named) in
      let four : length reserved ≡ 4 = length-take-le 4 (drop 70 p) (simp length-drop (omega arith)) in
      alike_of cid f name us n named.short d fill reserved long (simp length-drop (omega arith)) four
      (only_root d b says.0 ends ∙ rooted_by l.0 says.1 c is)
