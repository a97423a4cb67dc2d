-- Synchronization packets: written and read again, ignored places, nothing else. Assumes nothing.
use Rattle.std.specs.Prelude.{Ok, Err}
use Prim.Native.Nat.{ℕ, ◌+◌, ◌*◌, ◌-◌, ◌/◌, ◌%◌, ◌≤◌}
use mathlib.Core.Path.{◌≡◌, refl, sym, ap, ◌∙◌}
use mathlib.Core.List.{List, [], ◌∷◌, ◌++◌, append-nil, append_assoc}
use native.Mathlib.Omega.{arith}
use lib.ListN.{length, take, drop, length-append, length-drop, length-take}
use lib.Seq.{take_all, length-take-le}
use Rattle.wire.specs.Bytes.{Bytes}
use Rattle.wire.proofs.Bytes.{bytes_drop}
use Rattle.wire.specs.Fields.{u16_at, u32_at, byte_at, be16}
use Rattle.refusal.specs.Check.{choose, framing}
use Rattle.refusal.proofs.Laws.{All, all_hold}
use Rattle.pdu.specs.Head.{length_of}
use Rattle.pdu.specs.Head.{layer_head}
use Rattle.pdu.specs.declared.Edition.TheVariants.{E2018}
use Rattle.extended.specs.Bytes.{synchronization_framing_bytes}
use Rattle.extended.specs.Extended.{extended_checks}
use Rattle.extended.specs.declared.synchronization.SynchronizationFields.{SynchronizationFields}
use Rattle.root.specs.Root.{root_part}
use Rattle.root.proofs.Laws.{within}
use Rattle.packet.specs.declared.SynchronizationRecord.{SynchronizationRecord}
use Rattle.packet.specs.declared.Packet.{Packet}
use Rattle.packet.specs.declared.Packet.TheVariants as packet
use Rattle.packet.specs.Packet.{extended_record, extended_packet_of, reading_of, packet_of, cid_of, framing_part}
use Rattle.pack.proofs.Writing.{synchronization_long}
use Rattle.pack.specs.Writing.{synchronization_bytes, synchronization_length, synchronization_write_checks, packed_of, after_pack}
use Rattle.demands.specs.Limits.{ReadableSynchronization}
use Rattle.demands.specs.Content.{synchronization_content, meaning}
use Rattle.demands.specs.Ignored.{AlikeSynchronization}
use Rattle.demands.proofs.Root.{rooted, root_extended, root_cid, only_root, rest_framing}
use Rattle.demands.proofs.Variants.{agrees, variant}
use Rattle.demands.proofs.Meaning.{read_as, synchronization_read, synchronization_meant, means}
use Rattle.demands.proofs.Extended.{head_bytes, rooted_by, extended_says, synchronization_says}
use Rattle.demands.proofs.Segments.{join_cuts, field8, field16}

-- a synchronization packet's framing layer, its reserved bytes any
abbrev frame : SynchronizationFields → List ℕ → List ℕ
frame f reserved = layer_head 11 1 ++ ((f.sequence_number ∷ be16 f.synchronization_address) ++ reserved)

abbrev record_with : SynchronizationFields → Packet
record_with f = packet.Synchronization (record { fields = f })

-- it is read as its fields
frame_read : (f : SynchronizationFields) (reserved : List ℕ) (whole : ℕ) → length reserved ≡ 2 → 11 ≤ whole →
    1 ≤ f.synchronization_address → f.synchronization_address ≤ 63999 → extended_packet_of whole (frame f reserved) ≡ record_with f
unfolding extended_packet_of choose u16_at u32_at
frame_read f reserved whole two fits least most =
    let p = frame f reserved in
    let a = f.synchronization_address in
    let back : a / 0x100 % 0x100 * 0x100 + a % 0x100 ≡ a = omega arith in
    let h : All (extended_checks whole p) = omega arith in
    all_hold packet.Refused (extended_checks whole p) (extended_record p) h ∙ rw back

-- and a layer of its length that is read as these fields is such a one
frame_only : (f : SynchronizationFields) (whole : ℕ) (p : List ℕ) → Bytes p → length p ≤ 11 → All (extended_checks whole p) →
    extended_record p ≡ record_with f → p ≡ frame f (take 2 (drop 9 p))
frame_only f whole p b most all e =
    let h = synchronization_says whole p all (record { fields = f }) e in
    let s : byte_at p 6 ≡ f.sequence_number = ap (λ (x : SynchronizationRecord). x.fields.sequence_number) h.3 in
    let a : u16_at p 7 ≡ f.synchronization_address = ap (λ (x : SynchronizationRecord). x.fields.synchronization_address) h.3 in
    let eleven : length p ≡ 11 = omega arith in
    let l0 = head_bytes framing 11 1 p h.0 b h.2.1.0 h.1 in
    let l6 = field8 p b 6 f.sequence_number (omega arith) s in
    let l7 = field16 p b 7 f.synchronization_address (omega arith) a in
    sym (take_all 11 p most)
    ∙ sym (join_cuts 0 (6 ∷ 1 ∷ 2 ∷ 2 ∷ []) p)
    ∙ rw (l0, l6, l7, append-nil)

module _ (cid : List ℕ) (f : SynchronizationFields) where
  -- the packet with any reserved bytes and any rest
  abbrev with : List ℕ → List ℕ → List ℕ
  with reserved rest = rooted 33 8 cid (frame f reserved ++ rest)

  -- the bytes before the reserved ones
  front : List ℕ
  front = rooted 33 8 cid (layer_head 11 1 ++ (f.sequence_number ∷ be16 f.synchronization_address))

  regroup : (reserved rest : List ℕ) → front ++ (reserved ++ rest) ≡ with reserved rest
  unfolding front
  regroup reserved rest = simp append_assoc

  plain : (reserved : List ℕ) → rooted 33 8 cid (frame f reserved) ≡ front ++ (reserved ++ [])
  unfolding front
  plain reserved = simp (append-nil, append_assoc)

  packet_with : synchronization_bytes cid f ≡ with (0 ∷ 0 ∷ []) []
  unfolding synchronization_bytes synchronization_framing_bytes
  packet_with = simp append-nil

  packet_run : synchronization_bytes cid f ≡ front ++ ((0 ∷ 0 ∷ []) ++ [])
  packet_run = packet_with ∙ sym (regroup (0 ∷ 0 ∷ []) [])

  front_47 : length cid ≡ 16 → length front ≡ 47
  unfolding front
  front_47 n = simp length-append (omega arith)

  -- it is read as the record
  with_read : (reserved rest : List ℕ) → ReadableSynchronization cid f → length reserved ≡ 2 →
      reading_of (with reserved rest) ≡ read_as cid (record_with f)
  with_read reserved rest r two =
      let p = frame f reserved in
      let m : 22 + length p ≡ 33 = omega arith in
      synchronization_read (with reserved rest) cid (record { fields = f })
      (root_extended 33 cid p rest r.cid_16 m (omega arith)
      ∙ frame_read f reserved (33 + length rest) two (omega arith) r.address_least r.address_most)
      (root_cid 33 8 cid p rest r.cid_16 m (omega arith) (omega arith))

  -- and a datagram of its size that is read as the record is such a packet
  variant_of : (d : List ℕ) → length d ≡ 49 → Bytes d → packet_of d ≡ record_with f → cid_of d ≡ cid →
      (reserved : List ℕ) × (length reserved ≡ 2) × (d ≡ front ++ (reserved ++ []))
  variant_of d long b e c =
      let p = framing_part d in
      let g =
      extended_says d (record_with f) (λ r q. let z : ◌≡◌ {A = ℕ} 0 1 = cc in omega arith) (λ r q. let z : ◌≡◌ {A = ℕ} 0 1 = cc in omega arith) e in
      let h = synchronization_says (length (root_part d)) p g.2 (record { fields = f }) g.3 in
      let inside = within E2018 d g.0 in
      let most : length p ≤ length_of (root_part d) - 22 = omega (arith, length-take (length_of (root_part d) - 22) (drop 22 (root_part d))) in
      let n : length_of (root_part d) ≡ 33 = omega arith in
      let ends : 16 + length_of (root_part d) ≡ length d = omega arith in
      let bytes : Bytes p = rw (rest_framing d b g.0 ends) (bytes_drop 38 d b) in
      let reserved : List ℕ = take 2 (drop 9 p) in
      let is : p ≡ frame f reserved = frame_only f (length (root_part d)) p bytes (omega arith) g.2 g.3 in
      let two : length reserved ≡ 2 = length-take-le 2 (drop 9 p) (simp length-drop (omega arith)) in
      (reserved, two, only_root d b g.0 ends ∙ rooted_by n g.1 c is ∙ plain reserved)

-- Return: for every record within the readable limits and every buffer that holds its packet, writing accepts with the packet's length, and
-- reading the buffer as it is then returns that record.
pub return_synchronization : (cid : List ℕ) (f : SynchronizationFields) (buf : List ℕ) → ReadableSynchronization cid f →
    synchronization_length ≤ length buf →
    (packed_of (synchronization_write_checks (length buf)) synchronization_length ≡ Ok synchronization_length)
    × (meaning (after_pack (Ok synchronization_length) (synchronization_bytes cid f) buf) ≡ synchronization_content cid f)
unfolding packed_of
return_synchronization cid f buf r room =
    let rest = drop synchronization_length buf in
    let is : synchronization_bytes cid f ++ rest ≡ with cid f (0 ∷ 0 ∷ []) rest =
    ap (λ (l : List ℕ). l ++ rest) (packet_with cid f) ∙ simp (append_assoc, append-nil) in (
      all_hold Err (synchronization_write_checks (length buf)) (Ok synchronization_length) (room, tt),
      rw is (means (with cid f (0 ∷ 0 ∷ []) rest) cid (record_with f) (with_read cid f (0 ∷ 0 ∷ []) rest r refl)),
    )

-- Ignored places: any datagram that equals the packet outside its ignored places, with any bytes after it, is answered the same and means
-- the same.
pub ignored_synchronization : (cid : List ℕ) (f : SynchronizationFields) (d : List ℕ) → ReadableSynchronization cid f →
    AlikeSynchronization (synchronization_bytes cid f) d →
    (reading_of d ≡ reading_of (synchronization_bytes cid f)) × (meaning d ≡ synchronization_content cid f)
ignored_synchronization cid f d r like =
    let long : 49 ≤ length d = omega (arith, like.long, synchronization_long cid r.cid_16 f) in
    let n = front_47 cid f r.cid_16 in
    let is : d ≡ with cid f (take 2 (drop 47 d)) (drop 49 d) =
    variant (front cid f) (0 ∷ 0 ∷ []) [] 47 2 0 n refl refl d long
    (λ i h out. rw (← packet_run cid f) (like.outside i (omega (arith, synchronization_long cid r.cid_16 f)) (λ b. out b.0 (omega arith))))
    ∙ regroup cid f (take 2 (drop 47 d)) (drop 49 d) in
    let two : length (take 2 (drop 47 d)) ≡ 2 = length-take-le 2 (drop 47 d) (simp length-drop (omega arith)) in
    let e : reading_of d ≡ read_as cid (record_with f) = ap reading_of is ∙ with_read cid f (take 2 (drop 47 d)) (drop 49 d) r two in
    (e ∙ sym (ap reading_of (packet_with cid f) ∙ with_read cid f (0 ∷ 0 ∷ []) [] r refl), means d cid (record_with f) e)

-- Nothing else: a datagram of the packet's own size, its elements bytes, that is taken for the same record differs from the packet only in
-- ignored places.
pub nothing_else_synchronization : (cid : List ℕ) (f : SynchronizationFields) (d : List ℕ) → length d ≡ synchronization_length → Bytes d →
    meaning d ≡ synchronization_content cid f → AlikeSynchronization (synchronization_bytes cid f) d
nothing_else_synchronization cid f d long b e =
    let m = synchronization_meant d cid f e in
    let c : length cid ≡ 16 = sym (ap length m.1) ∙ length-take-le 16 (drop 22 d) (simp length-drop (omega arith)) in
    let run = variant_of cid f d long b m.0 m.1 in
    record {
      outside = λ i h out.
          rw (run.2, packet_run cid f)
          (agrees (front cid f) (0 ∷ 0 ∷ []) [] 47 2 0 (front_47 cid f c) refl refl run.0 run.1 i (λ x y. out (x, omega arith)));
      long = omega (arith, synchronization_long cid c f);
    }
