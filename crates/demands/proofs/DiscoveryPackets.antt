-- A universe discovery packet and its variants: any bytes in the ignored places, and any behind it. They are read as the record, and they
-- are what agrees with the packet elsewhere. Assumes nothing.
use Prim.Native.Nat.{ℕ, suc, ◌+◌, ◌*◌, ◌-◌, ◌≤◌, ◌<◌}
use mathlib.Core.Path.{◌≡◌, refl, sym, ap, ap₂, ◌∙◌}
use mathlib.Core.List.{List, [], ◌∷◌, ◌++◌, append_assoc, append-nil}
use native.Mathlib.Omega.{arith}
use lib.ListN.{length, take, drop, length-append, length-drop, take-append-drop}
use lib.Seq.{take_at, drop_at, get_or_at, length-take-le}
use Rattle.wire.specs.Fields.{be32, part_of}
use Rattle.wire.proofs.Laws.{drop_more}
use Rattle.refusal.specs.Check.{◌≤?◌}
use Rattle.refusal.proofs.Tests.{chosen, decide}
use Rattle.name.specs.Name.{name_bytes}
use Rattle.discovery.specs.declared.DiscoveryFields.{DiscoveryFields}
use Rattle.discovery.specs.Layer as layer
use Rattle.discovery.specs.Universes.{all_universes, universe_bytes}
use Rattle.discovery.proofs.Laws.{bytes_length}
use Rattle.pdu.specs.Head.{layer_head}
use Rattle.extended.specs.Bytes.{discovery_framing_bytes}
use Rattle.packet.specs.Packet.{span, packet_of, reading_of}
use Rattle.parts.specs.Parts.{shown_at, listed_at}
use Rattle.pack.specs.Writing.{discovery_bytes, discovery_length}
use Rattle.pack.proofs.Writing.{discovery_long}
use Rattle.name.proofs.Laws.{bytes_64}
use Rattle.demands.specs.Content.{discovery_content, meaning}
use Rattle.demands.specs.Ignored.{AlikeDiscovery}
use Rattle.demands.specs.Limits.{ReadableDiscovery}
use Rattle.demands.proofs.Root.{rooted, root_extended, root_cid}
use Rattle.demands.proofs.Names.{Named, named_written}
use Rattle.demands.proofs.Variants.{agrees, variant}
use Rattle.demands.proofs.Meaning.{read_as, discovery_read, means}
use Rattle.demands.proofs.UniverseLists.{numbers_back}
use Rattle.demands.proofs.DiscoveryLayers.{frame, record_with, frame_long, frame_read, layer_long}

-- a part that lies in a list, and one behind other bytes
pub part_inside : (s : List ℕ) (start len : ℕ) → start + len ≤ length s → part_of s start len ≡ take len (drop start s)
unfolding part_of
part_inside s start len h = sym (chosen (start + len ≤? length s) (take len (drop start s)) [] h refl)

part_behind : (d a b c : List ℕ) (start len : ℕ) → d ≡ a ++ (b ++ c) → length a ≡ start → length b ≡ len → part_of d start len ≡ b
part_behind d a b c start len e m n =
    rw e
    (part_inside (a ++ (b ++ c)) start len (simp length-append (omega arith))
    ∙ rw (drop_at a (b ++ c) start m) (take_at b c len n))

-- a field that holds a name: the name, a zero, any bytes
named_any : (name fill : List ℕ) → length name + suc (length fill) ≡ 64 → Named (name ++ 0 ∷ fill) name
named_any name fill e =
    record {
      size = simp length-append (omega arith);
      short = omega arith;
      text = take_at name (0 ∷ fill) (length name) refl;
      stop = get_or_at name 0 fill 0 (length name) refl;
    }

pub named_is : (field name : List ℕ) → Named field name → field ≡ name ++ 0 ∷ drop (length name + 1) field
named_is field name h =
    let s : length name < length field = omega arith in
    sym (take-append-drop (length name) field) ∙ rw (h.text, drop_more field (length name) s, h.stop)

by_head : (a b c d u v : List ℕ) → a ++ (b ++ (c ++ ((d ++ u) ++ v))) ≡ (a ++ (b ++ (c ++ d))) ++ (u ++ v)
by_head a b c d u v = simp append_assoc

module _ (cid : List ℕ) (f : DiscoveryFields) (name us : List ℕ) where
  abbrev pub root_length : ℕ
  root_length = 104 + 2 * length us

  -- the packet with any name field, any reserved bytes, and any rest
  abbrev pub with : List ℕ → List ℕ → List ℕ → List ℕ
  with nf reserved rest = rooted root_length 8 cid (frame f us nf reserved ++ rest)

  -- the bytes before the name
  before : List ℕ
  before = rooted root_length 8 cid (layer_head (82 + 2 * length us) 2)

  before_44 : length cid ≡ 16 → length before ≡ 44
  unfolding before
  before_44 n = simp length-append (omega arith)

  regroup : (nf reserved rest : List ℕ) → with nf reserved rest ≡ before ++ (nf ++ (reserved ++ (layer.discovery_bytes f us ++ rest)))
  unfolding before
  regroup nf reserved rest = simp append_assoc

  -- up to the name's zero, the places that are ignored, the discovery layer
  front : List ℕ
  front = before ++ (name ++ 0 ∷ [])

  front_long : length cid ≡ 16 → length front ≡ 45 + length name
  unfolding front
  front_long n = simp (length-append, before_44 n) (omega arith)

  in_runs : (fill reserved rest : List ℕ) →
      with (name ++ 0 ∷ fill) reserved rest ≡ front ++ ((fill ++ reserved) ++ (layer.discovery_bytes f us ++ rest))
  unfolding front
  in_runs fill reserved rest = regroup (name ++ 0 ∷ fill) reserved rest ∙ simp append_assoc

  module _ (nf reserved rest : List ℕ) (r : ReadableDiscovery cid f name us) (named : Named nf name) (four : length reserved ≡ 4) where
    abbrev packet : List ℕ
    packet = with nf reserved rest

    frame_fills : 22 + length (frame f us nf reserved) ≡ root_length
    frame_fills = omega (arith, frame_long cid f name us nf reserved r named four)

    -- it is read as the record
    pub with_record : packet_of packet ≡ record_with f (length name) (length us)
    with_record =
        let few : length us ≤ 512 = r.few in
        root_extended root_length cid (frame f us nf reserved) rest r.cid_16 frame_fills (omega arith)
        ∙ frame_read cid f name us nf reserved r named four (root_length + length rest) (omega arith)

    pub with_read : reading_of packet ≡ read_as cid (record_with f (length name) (length us))
    with_read =
        let few : length us ≤ 512 = r.few in
        discovery_read packet cid _ with_record
        (root_cid root_length 8 cid (frame f us nf reserved) rest r.cid_16 frame_fills (omega arith) (omega arith))

    -- with the name and the universes at its spans
    with_name : shown_at packet (span 44 (length name)) ≡ name
    with_name =
        let fill = drop (length name + 1) nf in
        let tail = reserved ++ (layer.discovery_bytes f us ++ rest) in
        let is : packet ≡ before ++ (name ++ ((0 ∷ fill) ++ tail)) =
        regroup nf reserved rest
        ∙ ap (λ (l : List ℕ). before ++ (l ++ tail)) (named_is nf name named)
        ∙ ap (λ (l : List ℕ). before ++ l) (append_assoc name (0 ∷ fill) tail) in
        part_behind packet before name ((0 ∷ fill) ++ tail) 44 (length name) is (before_44 r.cid_16) refl

    pub with_universes : listed_at packet (span 120 (2 * length us)) ≡ us
    unfolding layer.discovery_bytes
    with_universes =
        let head = layer.discovery_head f (length us) in
        let above = before ++ (nf ++ (reserved ++ head)) in
        let is : packet ≡ above ++ (universe_bytes us ++ rest) = regroup nf reserved rest ∙ by_head before nf reserved head (universe_bytes us) rest in
        let at : length above ≡ 120 = simp (length-append, before_44 r.cid_16) (omega arith) in
        ap all_universes (part_behind packet above (universe_bytes us) rest 120 (2 * length us) is at (bytes_length us))
        ∙ numbers_back us r.words

    pub with_content : meaning packet ≡ discovery_content cid f name us
    with_content =
        means packet cid (record_with f (length name) (length us)) with_read
        ∙ ap₂ (λ (s t : List ℕ). discovery_content cid f s t) with_name with_universes

  -- the packet as it is written
  pub packet_then : (rest : List ℕ) → discovery_bytes cid f name us ++ rest ≡ with (name_bytes name) (be32 0) rest
  unfolding discovery_bytes discovery_framing_bytes
  packet_then rest = simp append_assoc

  -- its ignored places, as they are written
  abbrev blank : List ℕ
  blank = drop (length name + 1) (name_bytes name)

  module _ (n : length cid ≡ 16) (short : length name ≤ 63) where
    ignored_long : length (blank ++ be32 0) ≡ 67 - length name
    ignored_long = simp (length-append, length-drop, bytes_64) (omega arith)

    packet_runs : discovery_bytes cid f name us ≡ front ++ ((blank ++ be32 0) ++ layer.discovery_bytes f us)
    packet_runs =
        sym (append-nil (discovery_bytes cid f name us))
        ∙ packet_then []
        ∙ ap (λ (l : List ℕ). with l (be32 0) []) (named_is (name_bytes name) name (named_written name short))
        ∙ in_runs blank (be32 0) []
        ∙ ap (λ (l : List ℕ). front ++ ((blank ++ be32 0) ++ l)) (append-nil (layer.discovery_bytes f us))

    -- a datagram that agrees with it elsewhere is such a packet
    pub alike_is : (d : List ℕ) → AlikeDiscovery name (discovery_bytes cid f name us) d →
        (fill : List ℕ) × (reserved : List ℕ) × Named (name ++ 0 ∷ fill) name × (length reserved ≡ 4)
        × (d ≡ with (name ++ 0 ∷ fill) reserved (drop (discovery_length us) d))
    alike_is d like =
        let long = discovery_long cid n f name us in
        let rest : List ℕ = drop (discovery_length us) d in
        let run : List ℕ = take (67 - length name) (drop (45 + length name) d) in
        let fill : List ℕ = take (63 - length name) run in
        let reserved : List ℕ = drop (63 - length name) run in
        let end : 45 + length name + (67 - length name) + (8 + 2 * length us) ≡ discovery_length us = omega arith in
        let is : d ≡ front ++ (run ++ (layer.discovery_bytes f us ++ rest)) =
        variant front (blank ++ be32 0) (layer.discovery_bytes f us) (45 + length name) (67 - length name) (8 + 2 * length us)
        (front_long n) ignored_long (layer_long f us) d (omega (arith, like.long))
        (λ i h out. rw (← packet_runs) (like.outside i (omega arith) (λ b. out b.0 (omega arith)) (λ b. out (omega arith) (omega arith))))
        ∙ ap (λ (k : ℕ). front ++ (run ++ (layer.discovery_bytes f us ++ drop k d))) end in
        let runs : length run ≡ 67 - length name =
        length-take-le (67 - length name) (drop (45 + length name) d) (simp length-drop (omega (arith, like.long))) in
        let fills : length fill ≡ 63 - length name = length-take-le (63 - length name) run (omega arith) in
        let four : length reserved ≡ 4 = length-drop (63 - length name) run ∙ omega arith in
        let split : run ≡ fill ++ reserved = sym (take-append-drop (63 - length name) run) in (
          fill,
          reserved,
          named_any name fill (omega arith),
          four,
          is ∙ ap (λ (l : List ℕ). front ++ (l ++ (layer.discovery_bytes f us ++ rest))) split ∙ sym (in_runs fill reserved rest),
        )

    -- and such a packet agrees with it elsewhere
    pub alike_of : (d fill reserved : List ℕ) → length d ≡ discovery_length us → length name + suc (length fill) ≡ 64 → length reserved ≡ 4 →
        d ≡ rooted root_length 8 cid (frame f us (name ++ 0 ∷ fill) reserved) → AlikeDiscovery name (discovery_bytes cid f name us) d
    alike_of d fill reserved long sized four is =
        let runs : length (fill ++ reserved) ≡ 67 - length name = simp length-append (omega arith) in
        let e : d ≡ front ++ ((fill ++ reserved) ++ layer.discovery_bytes f us) =
        is
        ∙ ap (λ (l : List ℕ). rooted root_length 8 cid l) (sym (append-nil (frame f us (name ++ 0 ∷ fill) reserved)))
        ∙ in_runs fill reserved []
        ∙ ap (λ (l : List ℕ). front ++ ((fill ++ reserved) ++ l)) (append-nil (layer.discovery_bytes f us)) in
        record {
          outside = λ i h b c.
              rw (e, packet_runs)
              (agrees front (blank ++ be32 0) (layer.discovery_bytes f us) (45 + length name) (67 - length name) (8 + 2 * length us)
              (front_long n) ignored_long (layer_long f us) (fill ++ reserved) runs i
              (λ x y. decide (i ≤? 107) (λ g. b (x, g)) (λ g. let z : i ≤ 111 = omega arith in c (g, z))));
          long = omega (arith, discovery_long cid n f name us);
        }
