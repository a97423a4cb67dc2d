-- Demand 3 for data packets: a packet that is written is read as its record; ignored places do not matter; and nothing else is read as that
-- record. Assumes nothing.
use Rattle.std.specs.Prelude.{Ok, Err}
use Prim.Native.Nat.{ℕ, ◌+◌, ◌/◌, ◌≤◌, ◌<◌}
use mathlib.Core.Path.{◌≡◌, refl, sym, ap, ◌∙◌}
use mathlib.Core.List.{List, [], ◌∷◌, ◌++◌, append_assoc, append-nil}
use native.Mathlib.Omega.{arith}
use lib.ListN.{length, take, drop, get_or, length-append, length-drop}
use lib.Seq.{take_at, get_or-take, get_or-drop, drop-drop, length-take-le}
use Rattle.wire.specs.Bytes.{Bytes}
use Rattle.wire.specs.Fields.{part_of, be16, join}
use Rattle.refusal.specs.Check.{◌≤?◌}
use Rattle.refusal.proofs.Tests.{chosen}
use Rattle.refusal.proofs.Laws.{All, all_hold, all_++}
use Rattle.name.specs.Name.{name_bytes, written_name_checks}
use Rattle.name.proofs.Laws.{bytes_64}
use Rattle.dmp.specs.Layer.{dmp_bytes}
use Rattle.framing.specs.Bytes.{options_of, data_framing_bytes}
use Rattle.pdu.specs.Head.{layer_head}
use Rattle.framing.specs.declared.DataFields.{DataFields}
use Rattle.packet.specs.Packet.{span, cid_of, packet_of, reading_of, with_cid}
use Rattle.parts.specs.Parts.{shown_at}
use Rattle.packet.specs.declared.Packet.{Packet}
use Rattle.packet.specs.declared.Packet.TheVariants.{Data}
use Rattle.packet.specs.declared.Reading.{Reading}
use Rattle.pack.specs.Writing.{root_head, values_check, count_check, data_write_checks, data_length, data_bytes, packed_of, after_pack}
use Rattle.pack.proofs.Writing.{data_long}
use Rattle.demands.specs.Content.{data_content, content_of, meaning}
use Rattle.demands.specs.Limits.{ReadableData}
use Rattle.demands.specs.Ignored.{AlikeData}
use Rattle.demands.proofs.Root.{root_cid, root_data}
use Rattle.demands.proofs.Names.{Named, named_written, named_alike, named_same}
use Rattle.demands.proofs.DataLayer.{frame_with, Says, variant, Variant, says_by, says_only, frame_long, frame_read}
use Rattle.demands.proofs.DataTaken.{only_variant}
use Rattle.demands.proofs.DataPlaces.{placed, placed_long, placed_back, name_part, options_at, name_at, alike_placed, placed_same}

-- what is read of the packet and its variants: f, and the spans of a name of n bytes and of m values
abbrev record_for : DataFields → ℕ → ℕ → Packet
record_for f n m = Data (record { fields = f; name = span 44 n; values = span 125 m })

abbrev reading_for : List ℕ → DataFields → ℕ → ℕ → Reading Packet
reading_for cid f n m = record { cid = cid; packet = record_for f n m }

-- a reading from its parts: the list is a variable, so that nothing computes
reading_by : (d cid : List ℕ) (f : DataFields) (n m : ℕ) → packet_of d ≡ record_for f n m → cid_of d ≡ cid → reading_of d ≡ reading_for cid f n m
unfolding reading_of
reading_by d cid f n m e c = ap (with_cid d) e ∙ rw c

shown_by : (d s : List ℕ) (start n : ℕ) → start + n ≤ length d → take n (drop start d) ≡ s → shown_at d (span start n) ≡ s
unfolding part_of
shown_by d s start n h e = sym (chosen (start + n ≤? length d) (take n (drop start d)) [] h refl) ∙ e

meaning_by : (d cid : List ℕ) (f : DataFields) (name values : List ℕ) → reading_of d ≡ reading_for cid f (length name) (length values) →
    shown_at d (span 44 (length name)) ≡ name → shown_at d (span 125 (length values)) ≡ values → meaning d ≡ data_content cid f name values
meaning_by d cid f name values e p q = ap (content_of d) e ∙ rw (p, q)

-- the packet's segments around the ignored places
abbrev front_of : List ℕ → ℕ → List ℕ
front_of cid n = root_head (109 + n) 4 ++ (cid ++ layer_head (87 + n) 2)

abbrev mid_of : DataFields → List ℕ
mid_of f = join ((f.priority ∷ []) ∷ be16 f.synchronization_address ∷ (f.sequence_number ∷ []) ∷ [])

abbrev back_of : DataFields → List ℕ → List ℕ
back_of f values = be16 f.universe ++ dmp_bytes values

regroup : (h c k field b d r : List ℕ) (o : ℕ) → h ++ (c ++ ((k ++ (field ++ (b ++ o ∷ d))) ++ r)) ≡ placed (h ++ (c ++ k)) field b o (d ++ r)
regroup h c k field b d r o = simp append_assoc

variant_placed : (cid : List ℕ) (f : DataFields) (o : ℕ) (field values rest : List ℕ) →
    variant cid f o field values rest ≡ placed (front_of cid (length values)) field (mid_of f) o (back_of f values ++ rest)
variant_placed cid f o field values rest =
    let n = length values in
    regroup (root_head (109 + n) 4) cid (layer_head (87 + n) 2) field (mid_of f) (back_of f values) rest o

front_long : (cid : List ℕ) (n : ℕ) → length cid ≡ 16 → length (front_of cid n) ≡ 44
front_long cid n h = simp length-append (omega arith)

back_values : (f : DataFields) (values rest : List ℕ) → drop 12 (back_of f values ++ rest) ≡ values ++ rest
unfolding dmp_bytes
back_values f values rest = refl

back_long : (f : DataFields) (values : List ℕ) → length (back_of f values) ≡ 12 + length values
unfolding dmp_bytes
back_long f values = omega arith

-- Every variant is read as the record.
module _ (cid : List ℕ) (f : DataFields) (name values : List ℕ) (h : ReadableData cid f name values) where
  module _ (o : ℕ) (field rest : List ℕ) (named : Named field name) (says : Says f o) where
    abbrev d : List ℕ
    d = variant cid f o field values rest

    abbrev frame : List ℕ
    frame = frame_with f o field values

    variant_reading : reading_of d ≡ reading_for cid f (length name) (length values)
    variant_reading =
        let long = frame_long f o field values named.size h.few in
        let few = h.few in
        let m : 22 + length frame ≡ 109 + length values = omega arith in
        let small : 109 + length values < 0x1000 = omega arith in
        let read =
        frame_read f o field values named.size few h.address h.universe_most name h.named named says h.priority h.universe_least
        h.some in
        reading_by d cid f (length name) (length values)
        (root_data (109 + length values) cid frame rest h.cid_16 m small ∙ read)
        (root_cid (109 + length values) 4 cid frame rest h.cid_16 m small (omega arith))

    variant_meaning : meaning d ≡ data_content cid f name values
    variant_meaning =
        let n = length values in
        let front = front_of cid n in
        let back = back_of f values ++ rest in
        let a = front_long cid n h.cid_16 in
        let e = variant_placed cid f o field values rest in
        let short = named.short in
        let long : length d ≡ 125 + n + length rest =
        ap length e ∙ placed_long front field (mid_of f) back o a named.size refl
        ∙ omega (arith, length-append (back_of f values) rest, back_long f values) in
        let part : take n (drop 125 d) ≡ values =
        ap (λ (l : List ℕ). take n (drop 125 l)) e
        ∙ ap (λ (l : List ℕ). take n l) (sym (drop-drop 12 113 (placed front field (mid_of f) o back)))
        ∙ ap (λ (l : List ℕ). take n (drop 12 l)) (placed_back front field (mid_of f) back o a named.size refl)
        ∙ ap (λ (l : List ℕ). take n l) (back_values f values rest)
        ∙ take_at values rest n refl in
        let text : take (length name) (drop 44 d) ≡ name =
        ap (λ (l : List ℕ). take (length name) (drop 44 l)) e
        ∙ name_part front field (mid_of f) back o a named.size refl (length name) (omega arith)
        ∙ named.text in
        meaning_by d cid f name values variant_reading (shown_by d name 44 (length name) (omega arith) text)
        (shown_by d values 125 n (omega arith) part)

-- the packet itself is a variant
behind : (h c k r : List ℕ) → (h ++ (c ++ k)) ++ r ≡ h ++ (c ++ (k ++ r))
behind h c k r = simp append_assoc

packet_variant : (cid : List ℕ) (f : DataFields) (name values rest : List ℕ) →
    data_bytes cid f name values ++ rest ≡ variant cid f (options_of f) (name_bytes name) values rest
unfolding data_bytes data_framing_bytes
packet_variant cid f name values rest = behind (root_head (109 + length values) 4) cid (frame_with f (options_of f) (name_bytes name) values) rest

packet_placed : (cid : List ℕ) (f : DataFields) (name values : List ℕ) →
    data_bytes cid f name values ≡ placed (front_of cid (length values)) (name_bytes name) (mid_of f) (options_of f) (back_of f values)
packet_placed cid f name values =
    sym (append-nil (data_bytes cid f name values))
    ∙ packet_variant cid f name values []
    ∙ variant_placed cid f (options_of f) (name_bytes name) values []
    ∙ rw (append-nil (back_of f values))

module _ (cid : List ℕ) (f : DataFields) (name values : List ℕ) (h : ReadableData cid f name values) where
  packet_reading : (rest : List ℕ) → reading_of (data_bytes cid f name values ++ rest) ≡ reading_for cid f (length name) (length values)
  packet_reading rest =
      ap reading_of (packet_variant cid f name values rest)
      ∙ variant_reading cid f name values h (options_of f) (name_bytes name) rest (named_written name h.named.0) (says_by f (options_of f) refl)

  packet_meaning : (rest : List ℕ) → meaning (data_bytes cid f name values ++ rest) ≡ data_content cid f name values
  packet_meaning rest =
      ap meaning (packet_variant cid f name values rest)
      ∙ variant_meaning cid f name values h (options_of f) (name_bytes name) rest (named_written name h.named.0) (says_by f (options_of f) refl)

-- Demand 3a. Return: for every record within the readable limits and every buffer that holds its packet, writing accepts with the packet's
-- length, and reading the buffer as it is then, the bytes behind the packet included, returns that record: kind, CID, plain fields, the
-- name's bytes and the values.
pub return_data : (cid : List ℕ) (f : DataFields) (name values buf : List ℕ) → ReadableData cid f name values → data_length values ≤ length buf →
    (packed_of (data_write_checks (length buf) name values) (data_length values) ≡ Ok (data_length values))
    × (meaning (after_pack (Ok (data_length values)) (data_bytes cid f name values) buf) ≡ data_content cid f name values)
unfolding packed_of
return_data cid f name values buf h room =
    let written : All (data_write_checks (length buf) name values) =
    (room, all_++ (written_name_checks name) (values_check (length values) ∷ count_check 513 (length values) ∷ []) h.named (h.some, (h.few, tt))) in (
      all_hold Err (data_write_checks (length buf) name values) (Ok (data_length values)) written,
      packet_meaning cid f name values h (drop (data_length values) buf),
    )

-- what equals the packet outside the ignored places is one of its variants
alike_variant : (cid : List ℕ) (f : DataFields) (name values d : List ℕ) → length cid ≡ 16 → length name ≤ 63 →
    AlikeData name (data_bytes cid f name values) d → Variant cid f name values (drop (113 + length (back_of f values)) d) d
alike_variant cid f name values d sixteen short alike =
    let front = front_of cid (length values) in
    let back = back_of f values in
    let written = name_bytes name in
    let a = front_long cid (length values) sixteen in
    let size = bytes_64 name in
    let same : AlikeData name (placed front written (mid_of f) (options_of f) back) d = rw (← packet_placed cid f name values) alike in
    let field = take 64 (drop 44 d) in
    let o = get_or d 112 0 in
    let rest = drop (113 + length back) d in
    let m = placed_long front written (mid_of f) back (options_of f) a size refl in
    let fits : 113 + length back ≤ length d = omega (arith, same.long) in
    let width : length field ≡ 64 = length-take-le 64 (drop 44 d) (simp length-drop (omega arith)) in
    let whole : d ≡ placed front field (mid_of f) o (back ++ rest) =
    alike_placed front written (mid_of f) back (options_of f) a size refl (length name) d same.long same.outside in
    record {
      o = o;
      field = field;
      is = whole ∙ sym (variant_placed cid f o field values rest);
      named = named_alike field name width short
          (λ i g.
          get_or-take 64 (drop 44 d) i 0 (omega arith) ∙ get_or-drop 44 d i 0
          ∙ same.outside (44 + i) (omega arith) (λ z. omega arith) (omega arith)
          ∙ name_at front written (mid_of f) back (options_of f) a size refl i (omega arith));
      says = says_by f o (same.options ∙ ap (λ (k : ℕ). k / 0x20) (options_at front written (mid_of f) back (options_of f) a size refl));
    }

-- Demand 3c. Ignored places: any datagram that equals the packet outside the ignored places, with any bytes after it, is read the same, and
-- the parts shown are the same.
pub ignored_data : (cid : List ℕ) (f : DataFields) (name values d : List ℕ) → ReadableData cid f name values →
    AlikeData name (data_bytes cid f name values) d →
    (reading_of d ≡ reading_of (data_bytes cid f name values)) × (meaning d ≡ data_content cid f name values)
ignored_data cid f name values d h alike =
    let v = alike_variant cid f name values d h.cid_16 h.named.0 alike in
    let rest = drop (113 + length (back_of f values)) d in
    let own : reading_of (data_bytes cid f name values) ≡ reading_for cid f (length name) (length values) =
    ap reading_of (sym (append-nil (data_bytes cid f name values))) ∙ packet_reading cid f name values h [] in (
      ap reading_of v.is ∙ variant_reading cid f name values h v.o v.field rest v.named v.says ∙ sym own,
      ap meaning v.is ∙ variant_meaning cid f name values h v.o v.field rest v.named v.says,
    )

-- the CID of a variant of the packet's size has 16 bytes
variant_cid : (cid : List ℕ) (f : DataFields) (o : ℕ) (field values : List ℕ) → length field ≡ 64 →
    length (variant cid f o field values []) ≡ data_length values → length cid ≡ 16
unfolding dmp_bytes
variant_cid cid f o field values n e = let k = simp length-append at e in omega arith

-- Demand 3d. Nothing else: a datagram of the packet's own size, its elements bytes, that the present reader takes for the same record differs
-- from the packet only in ignored places.
pub nothing_else_data : (cid : List ℕ) (f : DataFields) (name values d : List ℕ) → length d ≡ data_length values → Bytes d →
    meaning d ≡ data_content cid f name values → AlikeData name (data_bytes cid f name values) d
nothing_else_data cid f name values d size b e =
    let v = only_variant cid f name values d size b e in
    let field = v.field in
    let o = v.o in
    let sixteen = variant_cid cid f o field values v.named.size (sym (ap length v.is) ∙ size) in
    let front = front_of cid (length values) in
    let back = back_of f values in
    let written = name_bytes name in
    let a = front_long cid (length values) sixteen in
    let mine : d ≡ placed front field (mid_of f) o back = v.is ∙ variant_placed cid f o field values [] ∙ rw (append-nil back) in
    let theirs = packet_placed cid f name values in
    let packet-name = named_written name v.named.short in
    let option : get_or d 112 0 ≡ o = ap (λ (l : List ℕ). get_or l 112 0) mine ∙ options_at front field (mid_of f) back o a v.named.size refl in
    let packet-option : get_or (data_bytes cid f name values) 112 0 ≡ options_of f =
    ap (λ (l : List ℕ). get_or l 112 0) theirs ∙ options_at front written (mid_of f) back (options_of f) a packet-name.size refl in
    record {
      outside = λ i g out not.
          ap (λ (l : List ℕ). get_or l i 0) mine
          ∙ placed_same front field written (mid_of f) back o (options_of f) (length name) i a v.named.size packet-name.size refl
          (named_same field written name v.named packet-name) out not
          ∙ sym (ap (λ (l : List ℕ). get_or l i 0) theirs);
      options =
          ap (λ (k : ℕ). k / 0x20) option ∙ says_only f o (rw (← option) (b 112)) v.says ∙ sym (ap (λ (k : ℕ). k / 0x20) packet-option);
      long = omega (arith, data_long cid sixteen f name values);
    }
