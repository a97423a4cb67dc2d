-- The root's share of a packet, once for every kind: what is read of a root layer's start, a CID and a framing layer; and that whatever
-- passes the root's checks has these bytes. Assumes nothing.
use Prim.Native.Nat.{ℕ, ◌+◌, ◌-◌, ◌≤◌, ◌<◌}
use mathlib.Core.Path.{◌≡◌, refl, sym, ap, ap₂, ◌∙◌}
use mathlib.Core.List.{List, [], ◌∷◌, ◌++◌}
use native.Mathlib.Omega.{arith}
use lib.ListN.{length, take, drop, length-append, length-drop, take-append-drop}
use lib.Seq.{take_at, drop_at, take_all, drop-drop}
use Rattle.wire.specs.Bytes.{Bytes}
use Rattle.wire.proofs.Bytes.{bytes_drop}
use Rattle.wire.specs.Fields.{u16_at, u32_at, be16, be32, join}
use Rattle.wire.proofs.Laws.{u16_drop}
use Rattle.refusal.specs.Check.{◌=?◌, ◌or◌}
use Rattle.refusal.proofs.Tests.{Holds, chosen, passed_over, decide}
use Rattle.refusal.proofs.Laws.{All, all_hold, after}
use Rattle.pdu.specs.Head.{flags_of, length_of, flags_and_length, flags_field}
use Rattle.pdu.specs.declared.Edition.TheVariants.{E2018}
use Rattle.root.specs.Root.{preamble_checks, root_checks, root_part, found_in, root_of}
use Rattle.std.specs.Prelude.{Ok, Err}
use Rattle.root.proofs.Laws.{within}
use Rattle.packet.specs.Packet.{root_vector, framing_part, cid_of, packet_of, data_packet_of, extended_packet_of}
use Rattle.packet.specs.declared.Packet.TheVariants.{Refused}
use Rattle.packet.proofs.Laws.{framed, by_root}
use Rattle.pack.specs.Writing.{root_head}
use Rattle.demands.proofs.Segments.{cuts, join_cuts, field16, field32, u32_drop, flags_back}

-- the checks of preamble and root all hold
abbrev pub Rooted : List ℕ → Type 0
Rooted d = All (preamble_checks d ++ root_checks E2018 (root_part d))

-- a root layer's start, the CID, and a tail: the framing layer, and what follows the packet
abbrev pub rooted : ℕ → ℕ → List ℕ → List ℕ → List ℕ
rooted len vec cid tail = root_head len vec ++ (cid ++ tail)

-- the answer by what the root layer holds: the list is a variable, so that nothing computes
module _ (d : List ℕ) (h : Rooted d) where
  by_layer : packet_of d ≡ framed d (found_in (root_part d))
  unfolding root_of
  by_layer =
      let found = found_in (root_part d) in
      by_root d ∙ ap (after Refused (framed d)) (all_hold Err (preamble_checks d ++ root_checks E2018 (root_part d)) (Ok found) h)

  pub data_by : root_vector d ≡ 4 → packet_of d ≡ data_packet_of (framing_part d)
  data_by v = by_layer ∙ sym (chosen (root_vector d =? 4) _ _ v refl)

  pub extended_by : root_vector d ≡ 8 → packet_of d ≡ extended_packet_of (length (root_part d)) (framing_part d)
  extended_by v = by_layer ∙ sym (passed_over (root_vector d =? 4) _ _ (omega arith) refl)

-- Reading: of a framing layer that fills its root layer, and any rest.
module _ (len vec : ℕ) (cid frame rest : List ℕ) (n : length cid ≡ 16) (m : 22 + length frame ≡ len) (small : len < 0x1000)
    (low : vec < 0x10000) where
  abbrev whole : List ℕ
  whole = rooted len vec cid (frame ++ rest)

  pub root_length_lem : length_of (root_part whole) ≡ len
  unfolding u16_at
  root_length_lem = omega arith

  pub root_vector_lem : root_vector whole ≡ vec
  unfolding u16_at u32_at
  root_vector_lem = omega arith

  pub root_whole : length (root_part whole) ≡ len + length rest
  root_whole = simp length-append (omega arith)

  pub root_cid : cid_of whole ≡ cid
  root_cid = take_at cid (frame ++ rest) 16 n

  pub root_framing : framing_part whole ≡ frame
  root_framing = rw root_length_lem (rw (drop_at cid (frame ++ rest) 16 n) (take_at frame rest (len - 22) (omega arith)))

  pub root_holds : Holds (vec =? 4 or vec =? 8) → Rooted whole
  unfolding u16_at u32_at
  root_holds known =
      decide (vec =? 4) (λ e. simp length-append (omega arith))
      (λ f. let e : vec ≡ 8 = known f in simp length-append (omega arith))

module _ (len : ℕ) (cid frame rest : List ℕ) (n : length cid ≡ 16) (m : 22 + length frame ≡ len) (small : len < 0x1000) where
  pub root_data : packet_of (rooted len 4 cid (frame ++ rest)) ≡ data_packet_of frame
  root_data =
      let low : 4 < 0x10000 = omega arith in
      data_by (rooted len 4 cid (frame ++ rest)) (root_holds len 4 cid frame rest n m small low (omega arith))
      (root_vector_lem len 4 cid frame rest n m small low)
      ∙ ap data_packet_of (root_framing len 4 cid frame rest n m small low)

  pub root_extended : packet_of (rooted len 8 cid (frame ++ rest)) ≡ extended_packet_of (len + length rest) frame
  root_extended =
      let low : 8 < 0x10000 = omega arith in
      extended_by (rooted len 8 cid (frame ++ rest)) (root_holds len 8 cid frame rest n m small low (omega arith))
      (root_vector_lem len 8 cid frame rest n m small low)
      ∙ ap₂ extended_packet_of (root_whole len 8 cid frame rest n m small low) (root_framing len 8 cid frame rest n m small low)

-- Nothing else: what passes the root's checks, and ends where its root layer does.
module _ (d : List ℕ) (b : Bytes d) (h : Rooted d) (ends : 16 + length_of (root_part d) ≡ length d) where
  pub rest_framing : framing_part d ≡ drop 38 d
  rest_framing =
      let q : List ℕ = drop 22 (root_part d) in
      take_all (length_of (root_part d) - 22) q (simp length-drop (omega arith)) ∙ drop-drop 22 16 d

  abbrev head_segments : List (List ℕ)
  head_segments =
      be16 0x0010 ∷ be16 0 ∷ be32 0x4153432d ∷ be32 0x45312e31 ∷ be32 0x37000000 ∷ flags_and_length (length_of (root_part d)) ∷ be32 (root_vector d) ∷ []

  head_segments_lem : cuts 0 (2 ∷ 2 ∷ 4 ∷ 4 ∷ 4 ∷ 2 ∷ 4 ∷ []) d ≡ head_segments
  head_segments_lem =
      let long : 38 ≤ length d = omega (arith, within E2018 d h) in
      let flags : flags_of (root_part d) ≡ 0x70 = omega arith in
      let start : u16_at d 16 ≡ flags_field (length_of (root_part d)) = sym (u16_drop 16 d 0) ∙ flags_back (root_part d) (bytes_drop 16 d b) flags in
      let f0 = field16 d b 0 0x0010 (omega arith) (omega arith) in
      let f2 = field16 d b 2 0 (omega arith) (omega arith) in
      let f4 = field32 d b 4 0x4153432d (omega arith) (omega arith) in
      let f8 = field32 d b 8 0x45312e31 (omega arith) (omega arith) in
      let f12 = field32 d b 12 0x37000000 (omega arith) (omega arith) in
      let f16 = field16 d b 16 (flags_field (length_of (root_part d))) (omega arith) start in
      let f18 = field32 d b 18 (root_vector d) (omega arith) (sym (u32_drop 16 d 2)) in
      cc (f0, f2, f4, f8, f12, f16, f18)

  pub only_root : d ≡ rooted (length_of (root_part d)) (root_vector d) (cid_of d) (framing_part d)
  only_root =
      let head = root_head (length_of (root_part d)) (root_vector d) in
      let front : take 22 d ≡ head = sym (join_cuts 0 (2 ∷ 2 ∷ 4 ∷ 4 ∷ 4 ∷ 2 ∷ 4 ∷ []) d) ∙ ap join head_segments_lem in
      let back : drop 22 d ≡ cid_of d ++ framing_part d =
      sym (take-append-drop 16 (drop 22 d)) ∙ ap (λ (t : List ℕ). cid_of d ++ t) (drop-drop 16 22 d ∙ sym rest_framing) in
      sym (take-append-drop 22 d) ∙ ap₂ (λ (s t : List ℕ). s ++ t) front back
