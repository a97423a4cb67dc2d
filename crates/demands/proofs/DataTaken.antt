-- What a datagram holds that is taken for a data record: all checks held, and where it is no longer than the packet, it has the packet's
-- bytes but for what follows the name and the low option bits. Assumes nothing.
use Prim.Native.Nat.{ℕ, ◌+◌, ◌-◌, ◌≤◌}
use mathlib.Core.Path.{◌≡◌, refl, sym, ap, ap₂, ◌∙◌, subst}
use mathlib.Core.List.{List, [], ◌++◌, append-nil}
use native.Mathlib.Omega.{arith}
use lib.ListN.{length, take, drop, length-take, length-drop}
use lib.Seq.{take_all, take-take, drop-drop, length-take-le}
use Rattle.wire.specs.Bytes.{Bytes}
use Rattle.wire.proofs.Bytes.{bytes_drop}
use Rattle.wire.specs.Fields.{byte_at, part_of}
use Rattle.refusal.specs.Check.{◌≤?◌, ◌=?◌}
use Rattle.refusal.proofs.Tests.{chosen, passed_over, choice, decide}
use Rattle.refusal.proofs.Laws.{All, all_front, all_back, found}
use Rattle.pdu.specs.Head.{length_of, vector_of}
use Rattle.pdu.specs.declared.VectorLength.TheVariants.{Four}
use Rattle.name.specs.Name.{zero_at, text_of}
use Rattle.dmp.specs.Layer.{count_of}
use Rattle.framing.specs.Data.{dmp_part, data_checks, fields_of}
use Rattle.name.specs.Name.{name_field}
use Rattle.pdu.specs.declared.Edition.TheVariants.{E2018}
use Rattle.framing.specs.declared.DataFields.{DataFields}
use Rattle.extended.specs.Extended.{extended_checks}
use Rattle.root.specs.Root.{preamble_checks, root_checks, root_part}
use Rattle.root.proofs.Laws.{within}
use Rattle.packet.specs.Packet.{span, root_vector, framing_part, framing_checks, packet_checks, record_of, data_record, extended_record, synchronization_record, discovery_record, cid_of, packet_of, with_cid, reading_of}
use Rattle.parts.specs.Parts.{shown_at}
use Rattle.packet.specs.declared.DataRecord.{DataRecord}
use Rattle.packet.specs.declared.Packet.{Packet}
use Rattle.packet.specs.declared.Packet.TheVariants.{Data, Synchronization, Discovery, Refused}
use Rattle.demands.specs.Content.{data_content, content_of, meaning}
use Rattle.demands.proofs.Root.{Rooted, rooted, only_root, rest_framing}
use Rattle.demands.proofs.Names.{Named, named_found}
use Rattle.demands.proofs.DataLayer.{frame_with, Variant, name_of, only_frame}

-- the record that the reader found, and what its parts are
record Taken (cid : List ℕ) (f : DataFields) (name values d : List ℕ) : Type 0 where
  found_record : DataRecord DataFields
  packet_is : packet_of d ≡ Data found_record
  cid_is : cid_of d ≡ cid
  fields_are : found_record.fields ≡ f
  name_is : shown_at d found_record.name ≡ name
  values_are : shown_at d found_record.values ≡ values

module _ (cid : List ℕ) (f : DataFields) (name values d : List ℕ) where
  by_kind : (y : Packet) → packet_of d ≡ y → content_of d (with_cid d y) ≡ data_content cid f name values → Taken cid f name values d
  by_kind (Data x) p e = record { found_record = x; packet_is = p; cid_is = cc; fields_are = cc; name_is = cc; values_are = cc }
  by_kind (Synchronization x) p e = absurd (let z : ◌≡◌ {A = ℕ} 0 1 = cc in omega arith)
  by_kind (Discovery x) p e = absurd (let z : ◌≡◌ {A = ℕ} 0 1 = cc in omega arith)
  by_kind (Refused r) p e = absurd (let z : ◌≡◌ {A = ℕ} 0 1 = cc in omega arith)

  taken : meaning d ≡ data_content cid f name values → Taken cid f name values d
  unfolding reading_of
  taken e = by_kind (packet_of d) refl e

-- the checks that held, and the record by its place in the framing layer
record Held (cid : List ℕ) (f : DataFields) (name values d : List ℕ) : Type 0 where
  root_held : Rooted d
  vector : root_vector d ≡ 4
  checks : All (data_checks E2018 (framing_part d))
  cid_is : cid_of d ≡ cid
  fields_are : fields_of (framing_part d) ≡ f
  name_is : shown_at d (span 44 (zero_at (name_field (framing_part d)))) ≡ name
  values_are : shown_at d (span 125 (count_of (dmp_part (framing_part d) (length_of (framing_part d))))) ≡ values

extended_never : (p : List ℕ) (x : DataRecord DataFields) → extended_record p ≡ Data x → ⊥
extended_never p x =
    choice (λ (y : Packet). y ≡ Data x → ⊥) (vector_of Four p =? 1) (Synchronization (synchronization_record p)) (Discovery (discovery_record p))
    (λ h e. let z : ◌≡◌ {A = ℕ} 0 1 = cc in omega arith) (λ h e. let z : ◌≡◌ {A = ℕ} 0 1 = cc in omega arith)

module _ (cid : List ℕ) (f : DataFields) (name values d : List ℕ) (t : Taken cid f name values d) where
  abbrev x : DataRecord DataFields
  x = t.found_record

  held_all : All (packet_checks d) × (record_of d ≡ Data x)
  unfolding packet_of
  held_all = found Refused (packet_checks d) (record_of d) (Data x) (λ r q. let z : ◌≡◌ {A = ℕ} 0 1 = cc in omega arith) t.packet_is

  held_vector : root_vector d ≡ 4
  held_vector =
      decide (root_vector d =? 4) (λ h. h)
      (λ g.
      absurd (extended_never (framing_part d) x
      (passed_over (root_vector d =? 4) (Data (data_record (framing_part d))) (extended_record (framing_part d)) g refl ∙ held_all.1)))

  held : Held cid f name values d
  held =
      let p = framing_part d in
      let outer = preamble_checks d ++ root_checks E2018 (root_part d) in
      let v = held_vector in
      let is-record : Data (data_record p) ≡ Data x = chosen (root_vector d =? 4) (Data (data_record p)) (extended_record p) v refl ∙ held_all.1 in
      let same : data_record p ≡ x = cc in
      record {
        root_held = all_front outer (framing_checks d) held_all.0;
        vector = v;
        checks =
            subst All (sym (chosen (root_vector d =? 4) (data_checks E2018 p) (extended_checks (length (root_part d)) p) v refl))
            (all_back outer (framing_checks d) held_all.0);
        cid_is = t.cid_is;
        fields_are = ap (λ (y : DataRecord DataFields). y.fields) same ∙ t.fields_are;
        name_is = ap (λ (y : DataRecord DataFields). shown_at d y.name) same ∙ t.name_is;
        values_are = ap (λ (y : DataRecord DataFields). shown_at d y.values) same ∙ t.values_are;
      }

-- a part that is shown, where it lies in the datagram
shown_part : (d s : List ℕ) (start n : ℕ) → start + n ≤ length d → shown_at d (span start n) ≡ s → take n (drop start d) ≡ s
unfolding part_of
shown_part d s start n h e = chosen (start + n ≤? length d) (take n (drop start d)) [] h refl ∙ e

same_rooted : {l m v w : ℕ} {c e s t : List ℕ} → l ≡ m → v ≡ w → c ≡ e → s ≡ t → rooted l v c s ≡ rooted m w e t
same_rooted p q r z = cc

-- Of a datagram of the packet's size: each layer fills the one above.
module _ (cid : List ℕ) (f : DataFields) (name values d : List ℕ) (h : Held cid f name values d) (size : length d ≡ 125 + length values) where
  abbrev p : List ℕ
  p = framing_part d

  abbrev inner : List ℕ
  inner = dmp_part p (length_of p)

  abbrev count : ℕ
  count = count_of inner

  -- parts are no longer than the layer above says
  layers : (16 + (22 + length p) ≤ length d) × (77 + length inner ≤ length p) × (10 + count ≤ length inner)
  layers =
      let w = within E2018 d h.root_held in
      let c = h.checks in
      omega (arith, length-take (length_of (root_part d) - 22) (drop 22 (root_part d)), length-take (length_of p - 77) (drop 77 p))

  values_part : take count (drop 125 d) ≡ values
  values_part = let l = layers in shown_part d values 125 count (omega arith) h.values_are

  count_is : count ≡ length values
  count_is = let l = layers in sym (length-take-le count (drop 125 d) (simp length-drop (omega arith))) ∙ ap length values_part

  lengths : (16 + length_of (root_part d) ≡ length d) × (length_of p ≡ length p) × (length_of inner ≡ length inner)
  lengths =
      let w = within E2018 d h.root_held in
      let c = h.checks in
      let k = count_is in
      omega (arith, length-take (length_of (root_part d) - 22) (drop 22 (root_part d)), length-take (length_of p - 77) (drop 77 p))

  module _ (b : Bytes d) where
    p_is : p ≡ drop 38 d
    p_is = rest_framing d b h.root_held lengths.0

    inner_is : inner ≡ drop 77 p
    inner_is = let l = lengths in take_all (length_of p - 77) (drop 77 p) (omega (arith, length-drop 77 p))

    bytes_p : Bytes p
    bytes_p = subst Bytes (sym p_is) (bytes_drop 38 d b)

    values_are_last : drop 87 p ≡ values
    values_are_last =
        ap (λ (l : List ℕ). drop 87 l) p_is ∙ drop-drop 87 38 d
        ∙ sym (take_all count (drop 125 d) (let k = count_is in omega (arith, length-drop 125 d)))
        ∙ values_part

    frame_is : p ≡ frame_with f (byte_at p 74) (name_field p) values
    frame_is =
        let inside : length_of (drop 77 p) ≡ length (drop 77 p) = subst (λ (l : List ℕ). length_of l ≡ length l) inner_is lengths.2 in
        only_frame p bytes_p h.checks lengths.1 inside
        ∙ ap₂ (λ (g : DataFields) (l : List ℕ). frame_with g (byte_at p 74) (name_field p) l) h.fields_are values_are_last

    whole_is : d ≡ rooted (109 + length values) 4 cid (frame_with f (byte_at p 74) (name_field p) values)
    whole_is =
        let len : length_of (root_part d) ≡ 109 + length values = let l = lengths in omega arith in
        only_root d b h.root_held lengths.0 ∙ same_rooted len h.vector h.cid_is frame_is

    name_held : Named (name_field p) name
    name_held =
        let n = zero_at (name_field p) in
        let l = layers in
        let c = name_of p h.checks in
        let width : length (name_field p) ≡ 64 = length-take-le 64 (drop 6 p) (simp length-drop (omega arith)) in
        let text : text_of (name_field p) ≡ name =
        take-take n 64 (drop 6 p) (omega arith)
        ∙ ap (λ (m : List ℕ). take n (drop 6 m)) p_is
        ∙ ap (λ (m : List ℕ). take n m) (drop-drop 6 38 d)
        ∙ shown_part d name 44 n (omega arith) h.name_is in
        named_found (name_field p) name width c text

    taken_variant : Variant cid f name values [] d
    taken_variant =
        let o = byte_at p 74 in
        let frame = frame_with f o (name_field p) values in
        record {
          o = o;
          field = name_field p;
          is = whole_is ∙ ap (λ (l : List ℕ). rooted (109 + length values) 4 cid l) (sym (append-nil frame));
          named = name_held;
          says = record {
            preview = ap (λ (g : DataFields). g.preview_data) h.fields_are;
            terminated = ap (λ (g : DataFields). g.stream_terminated) h.fields_are;
            force = ap (λ (g : DataFields). g.force_synchronization) h.fields_are;
          };
        }

-- a datagram of the packet's size that is taken for the record is the packet, but for its options and what follows its name
pub only_variant : (cid : List ℕ) (f : DataFields) (name values d : List ℕ) → length d ≡ 125 + length values → Bytes d →
    meaning d ≡ data_content cid f name values → Variant cid f name values [] d
only_variant cid f name values d size b e =
    taken_variant cid f name values d (held cid f name values d (taken cid f name values d e)) size b
