-- The framing layer of a data packet with any field that holds its name and any low option bits: what is read of it, and that whatever
-- passes the layer's checks and is filled by its inner layers has these bytes. Assumes nothing.
use Prim.Native.Nat.{ℕ, ◌+◌, ◌-◌, ◌*◌, ◌/◌, ◌%◌, ◌≤◌, ◌<◌}
use mathlib.Core.Path.{◌≡◌, refl, sym, ap, ap₂, ◌∙◌}
use mathlib.Core.Bool.{Bool, true, false}
use mathlib.Core.List.{List, [], ◌∷◌, ◌++◌, append_assoc}
use native.Mathlib.Omega.{arith}
use borrow.Author.Tests.{eqb-true, eqb-false}
use lib.ListN.{length, drop, get_or, length-append, length-drop, take-append-drop}
use lib.Seq.{take_at, drop_at, take_all, get_or-drop, drop-drop}
use lib.Dec.{eqb}
use Rattle.wire.specs.Bytes.{Bytes}
use Rattle.wire.proofs.Bytes.{bytes_drop}
use Rattle.wire.specs.Fields.{byte_at, u16_at, u32_at, be16, be32, join}
use Rattle.refusal.specs.Check.{framing}
use Rattle.refusal.proofs.Laws.{All, all_hold, all_++, all_front, all_back}
use Rattle.pdu.specs.Head.{flags_of, length_of, vector_of, head_checks, flags_and_length, flags_field}
use Rattle.pdu.specs.declared.VectorLength.TheVariants.{One, Four}
use Rattle.name.specs.Name.{source_name_checks}
use Rattle.dmp.specs.Layer.{dmp_checks, dmp_bytes, count_of}
use Rattle.framing.specs.Data.{dmp_part, start_checks, priority_checks, sync_address_checks, universe_checks, field_checks, data_checks, fields_of, option}
use Rattle.name.specs.Name.{name_field}
use Rattle.framing.specs.Bytes.{bit_of, options_of}
use Rattle.pdu.specs.Head.{layer_head}
use Rattle.framing.proofs.Laws.{bit_le}
use Rattle.pdu.specs.declared.Edition.TheVariants.{E2018}
use Rattle.framing.specs.declared.DataFields.{DataFields}
use Rattle.packet.specs.Packet.{span, data_record, data_packet_of}
use Rattle.packet.specs.declared.Packet.TheVariants.{Data, Refused}
use Rattle.demands.specs.Limits.{ReadableName}
use Rattle.demands.proofs.Segments.{cuts, join_cuts, field8, field16, field32, flags_back, be16_back}
use Rattle.demands.proofs.Root.{rooted}
use Rattle.demands.proofs.Names.{Named, named_ends, named_checks}

-- the fields with any byte of options
abbrev pub fields_with : DataFields → ℕ → List ℕ
fields_with f o =
    join ((f.priority ∷ []) ∷ be16 f.synchronization_address ∷ (f.sequence_number ∷ []) ∷ (o ∷ []) ∷ be16 f.universe ∷ [])

-- the layer with any name field
abbrev pub frame_with : DataFields → ℕ → List ℕ → List ℕ → List ℕ
frame_with f o field values = layer_head (87 + length values) 2 ++ (field ++ (fields_with f o ++ dmp_bytes values))

-- the options byte o says what f says
pub record Says (f : DataFields) (o : ℕ) : Type 0 where
  pub preview : option 0x80 o ≡ f.preview_data
  pub terminated : option 0x40 o ≡ f.stream_terminated
  pub force : option 0x20 o ≡ f.force_synchronization

-- the packet with any byte of options, any field for the name, and any rest behind it
abbrev pub variant : List ℕ → DataFields → ℕ → List ℕ → List ℕ → List ℕ → List ℕ
variant cid f o field values rest = rooted (109 + length values) 4 cid (frame_with f o field values ++ rest)

-- d is the packet with some options that say what f says, some field that holds the name, and this rest behind it
pub record Variant (cid : List ℕ) (f : DataFields) (name values rest d : List ℕ) : Type 0 where
  pub o : ℕ
  pub field : List ℕ
  pub is : d ≡ variant cid f o field values rest
  pub named : Named field name
  pub says : Says f o

-- the upper three bits of what is written, as a number
upper : (p t f : Bool) → (bit_of p 0x80 + bit_of t 0x40 + bit_of f 0x20) / 0x20 ≡ 4 * bit_of p 1 + 2 * bit_of t 1 + bit_of f 1
upper true true true = refl
upper true true false = refl
upper true false true = refl
upper true false false = refl
upper false true true = refl
upper false true false = refl
upper false false true = refl
upper false false false = refl

bit_set : (b : Bool) (n : ℕ) → n % 2 ≡ bit_of b 1 → eqb (n % 2) 1 ≡ b
bit_set true n e = rw e
bit_set false n e = rw e

bit_of_lem : (b : Bool) (n : ℕ) → eqb (n % 2) 1 ≡ b → n % 2 ≡ bit_of b 1
bit_of_lem true n e = eqb-true (n % 2) 1 e
bit_of_lem false n e = let f = eqb-false (n % 2) 1 e in omega arith

-- A byte of options says what f says where its upper three bits are those that are written, and only there.
module _ (f : DataFields) (o : ℕ) where
  abbrev preview : ℕ
  preview = bit_of f.preview_data 1

  abbrev terminated : ℕ
  terminated = bit_of f.stream_terminated 1

  abbrev force : ℕ
  force = bit_of f.force_synchronization 1

  pub says_by : o / 0x20 ≡ options_of f / 0x20 → Says f o
  says_by e =
      let u = upper f.preview_data f.stream_terminated f.force_synchronization in
      let a = bit_le f.preview_data 1 in
      let b = bit_le f.stream_terminated 1 in
      let c = bit_le f.force_synchronization 1 in
      let x : o / 0x40 ≡ 2 * preview + terminated = omega arith in
      record {
        preview = bit_set f.preview_data (o / 0x80) (omega arith);
        terminated = bit_set f.stream_terminated (o / 0x40) (omega arith);
        force = bit_set f.force_synchronization (o / 0x20) (omega arith);
      }

  pub says_only : o < 0x100 → Says f o → o / 0x20 ≡ options_of f / 0x20
  says_only small h =
      let u = upper f.preview_data f.stream_terminated f.force_synchronization in
      let p = bit_of_lem f.preview_data (o / 0x80) h.preview in
      let t = bit_of_lem f.stream_terminated (o / 0x40) h.terminated in
      let s = bit_of_lem f.force_synchronization (o / 0x20) h.force in
      let x : o / 0x80 ≡ preview = omega arith in
      let y : o / 0x40 ≡ 2 * preview + terminated = omega arith in
      omega arith

-- The checks of both layers, from facts about their parts: the lists are variables, so that nothing computes.
dmp_by : (p : List ℕ) → flags_of p ≡ 0x70 → length_of p ≡ length p → vector_of One p ≡ 2 → byte_at p 3 ≡ 0xa1 → u16_at p 4 ≡ 0 → u16_at p 6 ≡ 1 →
    count_of p + 10 ≡ length p → 1 ≤ count_of p → count_of p ≤ 513 → All (dmp_checks p)
dmp_by p flags fills vector type first increment count some few = omega arith

frame_by : (p : List ℕ) → flags_of p ≡ 0x70 → length_of p ≡ length p → vector_of Four p ≡ 2 → 77 ≤ length p → byte_at p 70 ≤ 200 →
    u16_at p 71 ≤ 63999 → 1 ≤ u16_at p 75 → u16_at p 75 ≤ 63999 → All (source_name_checks (name_field p)) → All (dmp_checks (dmp_part p (length_of p))) →
    All (data_checks E2018 p)
frame_by p flags fills vector long priority address least most named inner =
    let n = length_of p in
    let start : All (head_checks Four framing p ++ start_checks p n (vector_of Four p)) = omega arith in
    let fields : All (priority_checks p ++ (sync_address_checks E2018 p ++ universe_checks p n)) = omega arith in
    all_++ (head_checks Four framing p ++ start_checks p n (vector_of Four p)) (source_name_checks (name_field p) ++ field_checks E2018 p n) start
    (all_++ (source_name_checks (name_field p)) (field_checks E2018 p n) named
    (all_++ (priority_checks p ++ (sync_address_checks E2018 p ++ universe_checks p n)) (dmp_checks (dmp_part p n)) fields inner))

-- and those of the name and of the DMP layer, from all
pub name_of : (p : List ℕ) → All (data_checks E2018 p) → All (source_name_checks (name_field p))
name_of p h =
    let start = head_checks Four framing p ++ start_checks p (length_of p) (vector_of Four p) in
    all_front (source_name_checks (name_field p)) (field_checks E2018 p (length_of p))
    (all_back start (source_name_checks (name_field p) ++ field_checks E2018 p (length_of p)) h)

dmp_of_lem : (p : List ℕ) → All (data_checks E2018 p) → All (dmp_checks (dmp_part p (length_of p)))
dmp_of_lem p h =
    let start = head_checks Four framing p ++ start_checks p (length_of p) (vector_of Four p) in
    let fields = priority_checks p ++ (sync_address_checks E2018 p ++ universe_checks p (length_of p)) in
    all_back (start ++ (source_name_checks (name_field p) ++ fields)) (dmp_checks (dmp_part p (length_of p))) h

-- Reading.
module _ (values : List ℕ) (few : length values ≤ 513) where
  dmp_count : count_of (dmp_bytes values) ≡ length values
  unfolding u16_at dmp_bytes
  dmp_count = be16_back (length values) (omega arith)

  dmp_length : length_of (dmp_bytes values) ≡ 10 + length values
  unfolding u16_at dmp_bytes
  dmp_length = omega arith

  dmp_long : length (dmp_bytes values) ≡ 10 + length values
  unfolding dmp_bytes
  dmp_long = omega arith

  dmp_flags : flags_of (dmp_bytes values) ≡ 0x70
  unfolding dmp_bytes
  dmp_flags = omega arith

  dmp_holds : 1 ≤ length values → All (dmp_checks (dmp_bytes values))
  unfolding u16_at dmp_bytes
  dmp_holds some =
      let c = dmp_count in
      let n = dmp_length in
      let m = dmp_long in
      dmp_by (dmp_bytes values) dmp_flags (n ∙ sym m) refl refl refl refl (omega arith) (omega arith) (omega arith)

module _ (f : DataFields) (o : ℕ) (field values : List ℕ) (n : length field ≡ 64) (few : length values ≤ 513) where
  abbrev frame : List ℕ
  frame = frame_with f o field values

  abbrev tail : List ℕ
  tail = fields_with f o ++ dmp_bytes values

  pub frame_long : length frame ≡ 87 + length values
  unfolding dmp_bytes
  frame_long = simp length-append (omega arith)

  frame_length : length_of frame ≡ 87 + length values
  unfolding u16_at
  frame_length = omega arith

  frame_vector : vector_of Four frame ≡ 2
  unfolding u16_at u32_at
  frame_vector = refl

  frame_flags : flags_of frame ≡ 0x70
  frame_flags = omega arith

  frame_name : name_field frame ≡ field
  frame_name = take_at field tail 64 n

  frame_tail : drop 70 frame ≡ tail
  frame_tail = drop_at field tail 64 n

  at_tail : (i : ℕ) → get_or frame (70 + i) 0 ≡ get_or tail i 0
  at_tail i = sym (get_or-drop 70 frame i 0) ∙ ap (λ (l : List ℕ). get_or l i 0) frame_tail

  frame_dmp : dmp_part frame (length_of frame) ≡ dmp_bytes values
  frame_dmp =
      let e : drop 77 frame ≡ dmp_bytes values = sym (drop-drop 7 70 frame) ∙ ap (λ (l : List ℕ). drop 7 l) frame_tail in
      rw (frame_length, e) (take_all (87 + length values - 77) (dmp_bytes values) (omega (arith, dmp_long values few)))

  module _ (address : f.synchronization_address ≤ 63999) (most : f.universe ≤ 63999) where
    frame_address : u16_at frame 71 ≡ f.synchronization_address
    unfolding u16_at
    frame_address = rw (at_tail 1, at_tail 2) (be16_back f.synchronization_address (omega arith))

    frame_universe : u16_at frame 75 ≡ f.universe
    unfolding u16_at
    frame_universe = rw (at_tail 5, at_tail 6) (be16_back f.universe (omega arith))

    frame_fields : Says f o → fields_of frame ≡ f
    frame_fields says = rw (at_tail 0, frame_address, at_tail 3, at_tail 4, frame_universe, says.preview, says.terminated, says.force)

    module _ (name : List ℕ) (readable : ReadableName name) (named : Named field name) (says : Says f o)
        (priority : f.priority ≤ 200) (least : 1 ≤ f.universe) (some : 1 ≤ length values) where
      frame_holds : All (data_checks E2018 frame)
      frame_holds =
          let long = frame_long in
          let a : byte_at frame 70 ≡ f.priority = at_tail 0 in
          let b = frame_address in
          let c = frame_universe in
          frame_by frame frame_flags (frame_length ∙ sym long) frame_vector (omega arith) (omega arith) (omega arith) (omega arith) (omega arith)
          (rw frame_name (named_checks field name readable named)) (rw frame_dmp (dmp_holds values few some))

      -- the record: f, and the spans of name and values
      pub frame_read : data_packet_of frame ≡ Data (record { fields = f; name = span 44 (length name); values = span 125 (length values) })
      unfolding data_packet_of
      frame_read =
          all_hold Refused (data_checks E2018 frame) (Data (data_record frame)) frame_holds
          ∙ rw (frame_fields says, frame_name, frame_dmp, named_ends field name readable named, dmp_count values few)

-- Nothing else.
module _ (p : List ℕ) (b : Bytes p) where
  -- a DMP layer that fills its part
  only_dmp : All (dmp_checks p) → length_of p ≡ length p → p ≡ dmp_bytes (drop 10 p)
  unfolding dmp_bytes
  only_dmp h fills =
      let n = length (drop 10 p) in
      let k : length_of p ≡ 10 + n = omega (arith, length-drop 10 p) in
      let flags : flags_of p ≡ 0x70 = omega arith in
      let f0 = field16 p b 0 (flags_field (10 + n)) (omega arith) (rw (← k) (flags_back p b flags)) in
      let f2 = field8 p b 2 2 (omega arith) (omega arith) in
      let f3 = field8 p b 3 0xa1 (omega arith) (omega arith) in
      let f4 = field16 p b 4 0 (omega arith) (omega arith) in
      let f6 = field16 p b 6 1 (omega arith) (omega arith) in
      let f8 = field16 p b 8 n (omega arith) (omega arith) in
      let widths : List ℕ = 2 ∷ 1 ∷ 1 ∷ 2 ∷ 2 ∷ 2 ∷ [] in
      let segments : cuts 0 widths p ≡ flags_and_length (10 + n) ∷ (2 ∷ []) ∷ (0xa1 ∷ []) ∷ be16 0 ∷ be16 1 ∷ be16 n ∷ [] =
      cc (f0, f2, f3, f4, f6, f8) in
      sym (take-append-drop 10 p) ∙ ap (λ (l : List ℕ). l ++ drop 10 p) (sym (join_cuts 0 widths p) ∙ ap join segments)

-- a framing layer that fills its part, and whose DMP layer fills the rest of it
pub only_frame : (p : List ℕ) → Bytes p → All (data_checks E2018 p) → length_of p ≡ length p → length_of (drop 77 p) ≡ length (drop 77 p) →
    p ≡ frame_with (fields_of p) (byte_at p 74) (name_field p) (drop 87 p)
only_frame p b h fills inner =
    let n = length (drop 87 p) in
    let part : dmp_part p (length_of p) ≡ drop 77 p = take_all (length_of p - 77) (drop 77 p) (omega (arith, length-drop 77 p)) in
    let held : All (dmp_checks (drop 77 p)) = rw (← part) (dmp_of_lem p h) in
    let back : drop 77 p ≡ dmp_bytes (drop 87 p) =
    only_dmp (drop 77 p) (bytes_drop 77 p b) held inner ∙ ap dmp_bytes (drop-drop 10 77 p) in
    let k : length_of p ≡ 87 + n = omega (arith, length-drop 87 p, length-drop 77 p) in
    let flags : flags_of p ≡ 0x70 = omega arith in
    let f0 = field16 p b 0 (flags_field (87 + n)) (omega arith) (rw (← k) (flags_back p b flags)) in
    let f2 = field32 p b 2 2 (omega arith) (omega arith) in
    let f70 = field8 p b 70 (byte_at p 70) (omega arith) refl in
    let f71 = field16 p b 71 (u16_at p 71) (omega arith) refl in
    let f73 = field8 p b 73 (byte_at p 73) (omega arith) refl in
    let f74 = field8 p b 74 (byte_at p 74) (omega arith) refl in
    let f75 = field16 p b 75 (u16_at p 75) (omega arith) refl in
    let widths : List ℕ = 2 ∷ 4 ∷ 64 ∷ 1 ∷ 2 ∷ 1 ∷ 1 ∷ 2 ∷ [] in
    let wanted : List (List ℕ) =
    flags_and_length (87 + n) ∷ be32 2 ∷ name_field p
    ∷ (byte_at p 70 ∷ []) ∷ be16 (u16_at p 71) ∷ (byte_at p 73 ∷ []) ∷ (byte_at p 74 ∷ []) ∷ be16 (u16_at p 75) ∷ [] in
    let segments : cuts 0 widths p ≡ wanted = cc (f0, f2, f70, f71, f73, f74, f75) in
    sym (take-append-drop 77 p)
    ∙ ap₂ (λ (l m : List ℕ). l ++ m) (sym (join_cuts 0 widths p) ∙ ap join segments) back
    ∙ simp append_assoc
