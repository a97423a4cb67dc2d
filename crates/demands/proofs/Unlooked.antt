-- The 2009 reader does not look at bytes 109..110 and option bit 0x20: whatever two datagrams hold, if they differ there at most, they get the
-- same answer, and it means the same. Assumes nothing.
use Prim.Native.Nat.{ℕ, ◌+◌, ◌-◌, ◌/◌, ◌%◌, ◌≤◌, ◌<◌}
use mathlib.Core.Path.{◌≡◌, refl, sym, ap, ap₂, subst, ◌∙◌}
use mathlib.Core.List.{List, [], ◌++◌}
use native.Mathlib.Nat.{zero-add}
use native.Mathlib.Omega.{arith}
use lib.ListN.{length, take, drop, get_or, length-take, length-drop, get_or-eq_default}
use lib.Seq.{get_or-take, get_or-drop, ext_get_or}
use Rattle.wire.specs.Fields.{byte_at, u16_at, u32_at, part_of}
use Rattle.refusal.specs.Check.{Check, ◌≤?◌, choose, reading}
use Rattle.refusal.proofs.Tests.{decide}
use Rattle.pdu.specs.Head.{length_of}
use Rattle.pdu.specs.declared.Edition.TheVariants.{E2009}
use Rattle.framing.specs.Data.{data_checks}
use Rattle.name.specs.Name.{name_field}
use Rattle.root.specs.Root.{preamble_checks, root_checks, root_part}
use Rattle.packet.specs.Packet.{framing_part, cid_of}
use Rattle.packet.specs.declared.Span.{Span}
use Rattle.parts.specs.Parts.{shown_at}
use Rattle.edition2009.specs.Packet.{data_record2009, packet2009_of, with_cid2009, reading2009_of}
use Rattle.packet.specs.declared.DataRecord.{DataRecord}
use Rattle.edition2009.specs.declared.DataFields2009.{DataFields2009}
use Rattle.edition2009.specs.declared.Packet2009.{Packet2009}
use Rattle.edition2009.specs.declared.Packet2009.TheVariants.{Data, Refused}
use Rattle.packet.specs.declared.Reading.{Reading}
use Rattle.demands.specs.Content2009.{content_with2009, meaning2009}
use Rattle.demands.specs.Ignored.{Between}
use Rattle.demands.specs.Unlooked.{AlikeTo2009}
use Rattle.demands.proofs.Spans.{data_spans_2009}

-- The same of two parts that start at byte k of their datagrams: parts of parts are alike again.
record Alike (k : ℕ) (s t : List ℕ) : Type 0 where
  pub long : length s ≡ length t
  pub outside : (i : ℕ) → (Between 109 110 (k + i) → ⊥) → (k + i ≡ 112 → ⊥) → get_or s i 0 ≡ get_or t i 0
  pub options : (i : ℕ) → k + i ≡ 112 → get_or s i 0 / 0x40 ≡ get_or t i 0 / 0x40

module _ (k : ℕ) (s t : List ℕ) (a : Alike k s t) where
  alike_drop : (n m : ℕ) → k + n ≡ m → Alike m (drop n s) (drop n t)
  alike_drop n m e = record {
    long = length-drop n s ∙ ap (λ (l : ℕ). l - n) a.long ∙ sym (length-drop n t);
    outside = λ i f g. get_or-drop n s i 0 ∙ a.outside (n + i) (λ z. f (omega arith)) (λ z. g (omega arith)) ∙ sym (get_or-drop n t i 0);
    options = λ i h. let x = a.options (n + i) (omega arith) in rw (get_or-drop n s i 0, get_or-drop n t i 0) x;
  }

  alike_take : (n : ℕ) → Alike k (take n s) (take n t)
  alike_take n =
      let both : length (take n s) ≡ length (take n t) = omega (arith, length-take n s, length-take n t, a.long) in
      let past : (i : ℕ) → n ≤ i → get_or (take n s) i 0 ≡ get_or (take n t) i 0 =
      λ i h. get_or-eq_default (take n s) 0 (omega (arith, length-take n s)) ∙ sym (get_or-eq_default (take n t) 0 (omega (arith, length-take n t))) in
      record {
        long = both;
        outside = λ i f g.
            decide (n ≤? i) (λ h. past i h) (λ h. get_or-take n s i 0 h ∙ a.outside i f g ∙ sym (get_or-take n t i 0 h));
        options = λ i e.
            decide (n ≤? i) (λ h. ap (λ (b : ℕ). b / 0x40) (past i h))
            (λ h. let x = a.options i e in rw (get_or-take n s i 0 h, get_or-take n t i 0 h) x);
      }

  -- bytes, numbers and whole parts that are looked at are the same
  alike_u16 : (i : ℕ) → (Between 108 112 (k + i) → ⊥) → u16_at s i ≡ u16_at t i
  unfolding u16_at
  alike_u16 i none =
      let high = a.outside i (λ z. none (omega arith)) (λ z. none (omega arith)) in
      let low = a.outside (i + 1) (λ z. none (omega arith)) (λ z. none (omega arith)) in
      cc

  alike_u32 : (i : ℕ) → k + i ≤ 105 → u32_at s i ≡ u32_at t i
  unfolding u32_at
  alike_u32 i h =
      let high = alike_u16 i (λ z. omega arith) in
      let low = alike_u16 (i + 2) (λ z. omega arith) in
      cc

  alike_all : ((i : ℕ) → i < length s → Between 109 112 (k + i) → ⊥) → s ≡ t
  alike_all none = ext_get_or 0 s t a.long (λ i h. a.outside i (λ z. none i h (omega arith)) (λ z. none i h (omega arith)))

-- A framing layer's part: its checks and its record.
module _ (p q : List ℕ) (a : Alike 38 p q) where
  name_alike : name_field p ≡ name_field q
  name_alike =
      alike_all 44 (name_field p) (name_field q) (alike_take 44 (drop 6 p) (drop 6 q) (alike_drop 38 p q a 6 44 refl) 64)
      (λ i h z. omega (arith, length-take 64 (drop 6 p)))

  rest_alike : drop 77 p ≡ drop 77 q
  rest_alike = alike_all 115 (drop 77 p) (drop 77 q) (alike_drop 38 p q a 77 115 refl) (λ i h z. omega arith)

  framed_alike : (data_checks E2009 p ≡ data_checks E2009 q) × (data_record2009 p ≡ data_record2009 q)
  framed_alike =
      let size : length p ≡ length q = a.long in
      let flags : byte_at p 0 ≡ byte_at q 0 = a.outside 0 (λ z. omega arith) (λ z. omega arith) in
      let head : u16_at p 0 ≡ u16_at q 0 = alike_u16 38 p q a 0 (λ z. omega arith) in
      let vector : u32_at p 2 ≡ u32_at q 2 = alike_u32 38 p q a 2 (omega arith) in
      let name : name_field p ≡ name_field q = name_alike in
      let priority : byte_at p 70 ≡ byte_at q 70 = a.outside 70 (λ z. omega arith) (λ z. omega arith) in
      let sequence : byte_at p 73 ≡ byte_at q 73 = a.outside 73 (λ z. omega arith) (λ z. omega arith) in
      let upper : byte_at p 74 / 0x40 ≡ byte_at q 74 / 0x40 = a.options 74 refl in
      let highest : byte_at p 74 / 0x80 ≡ byte_at q 74 / 0x80 = omega arith in
      let universe : u16_at p 75 ≡ u16_at q 75 = alike_u16 38 p q a 75 (λ z. omega arith) in
      let rest : drop 77 p ≡ drop 77 q = rest_alike in
      (cc, cc)

-- Two datagrams: the list of checks, the record, the CID, and the parts that are shown.
module _ (d e : List ℕ) (a : Alike 0 d e) where
  abbrev r : List ℕ
  r = root_part d

  abbrev s : List ℕ
  s = root_part e

  root_alike : Alike 16 r s
  root_alike = alike_drop 0 d e a 16 16 refl

  root_length_lem : u16_at r 0 ≡ u16_at s 0
  root_length_lem = alike_u16 16 r s root_alike 0 (λ z. omega arith)

  outer_same : preamble_checks d ++ root_checks E2009 r ≡ preamble_checks e ++ root_checks E2009 s
  outer_same =
      let b = root_alike in
      let size : length d ≡ length e = a.long in
      let preamble : u16_at d 0 ≡ u16_at e 0 = alike_u16 0 d e a 0 (λ z. omega arith) in
      let postamble : u16_at d 2 ≡ u16_at e 2 = alike_u16 0 d e a 2 (λ z. omega arith) in
      let first : u32_at d 4 ≡ u32_at e 4 = alike_u32 0 d e a 4 (omega arith) in
      let second : u32_at d 8 ≡ u32_at e 8 = alike_u32 0 d e a 8 (omega arith) in
      let third : u32_at d 12 ≡ u32_at e 12 = alike_u32 0 d e a 12 (omega arith) in
      let rest : length r ≡ length s = b.long in
      let flags : byte_at r 0 ≡ byte_at s 0 = b.outside 0 (λ z. omega arith) (λ z. omega arith) in
      let head : u16_at r 0 ≡ u16_at s 0 = root_length_lem in
      let vector : u32_at r 2 ≡ u32_at s 2 = alike_u32 16 r s b 2 (omega arith) in
      cc

  framing_alike : Alike 38 (framing_part d) (framing_part e)
  framing_alike =
      let n = length_of r - 22 in
      let same : length_of r - 22 ≡ length_of s - 22 = ap (λ (m : ℕ). m % 0x1000 - 22) root_length_lem in
      subst (λ (m : ℕ). Alike 38 (take n (drop 22 r)) (take m (drop 22 s))) same
      (alike_take 38 (drop 22 r) (drop 22 s) (alike_drop 16 r s root_alike 22 38 refl) n)

  packet_same : packet2009_of d ≡ packet2009_of e
  unfolding packet2009_of
  packet_same =
      let f = framed_alike (framing_part d) (framing_part e) framing_alike in
      ap₂ (λ (cs : List Check) (x : DataRecord DataFields2009). reading Refused cs (Data x)) (ap₂ (λ (cs ds : List Check). cs ++ ds) outer_same f.0) f.1

  part_same : (start len : ℕ) → ((i : ℕ) → i < len → Between 109 112 (start + i) → ⊥) → take len (drop start d) ≡ take len (drop start e)
  part_same start len none =
      alike_all start (take len (drop start d)) (take len (drop start e))
      (alike_take start (drop start d) (drop start e) (alike_drop 0 d e a start start (zero-add start)) len)
      (λ i h z. none i (omega (arith, length-take len (drop start d))) z)

  shown_same : (p : Span) → ((i : ℕ) → i < p.len → Between 109 112 (p.start + i) → ⊥) → shown_at d p ≡ shown_at e p
  unfolding part_of
  shown_same p none =
      ap₂ (λ (n : ℕ) (l : List ℕ). choose (p.start + p.len ≤? n) l []) a.long (part_same p.start p.len none)

  cid_same : cid_of d ≡ cid_of e
  cid_same = part_same 22 16 (λ i h z. omega arith)

  beside_same : (x : Packet2009) → with_cid2009 d x ≡ with_cid2009 e x
  beside_same (Data x) = ap (λ (cid : List ℕ). record { cid = cid; packet = Data x }) cid_same
  beside_same (Refused r) = refl

  reading_same : reading2009_of d ≡ reading2009_of e
  unfolding reading2009_of
  reading_same = beside_same (packet2009_of d) ∙ ap (with_cid2009 e) packet_same

  content_same : (x : Packet2009) → (reading2009_of d).packet ≡ x → (cid : List ℕ) → content_with2009 d cid x ≡ content_with2009 e cid x
  content_same (Data x) h cid =
      let w = data_spans_2009 d x h in
      let name : shown_at d x.name ≡ shown_at e x.name = shown_same x.name (λ i k z. omega (arith, w.0.first, w.0.last)) in
      let values : shown_at d x.values ≡ shown_at e x.values = shown_same x.values (λ i k z. omega (arith, w.1.first)) in
      cc
  content_same (Refused r) h cid = refl

-- The 2009 reader gives two datagrams the same answer that differ at most where it does not look.
module _ (d e : List ℕ) (a : AlikeTo2009 d e) where
  alike : Alike 0 d e
  alike = record {
    long = a.long;
    outside = λ i f g. a.outside i (λ z. f (omega arith)) (λ z. g (omega arith));
    options = λ i h. let at : i ≡ 112 = omega arith in rw at a.options;
  }

  pub unlooked_reading : reading2009_of d ≡ reading2009_of e
  unlooked_reading = reading_same d e alike

  -- And it takes them for the same.
  pub unlooked_meaning : meaning2009 d ≡ meaning2009 e
  unlooked_meaning =
      content_same d e alike (reading2009_of d).packet refl (reading2009_of d).cid
      ∙ ap (λ (x : Reading Packet2009). content_with2009 e x.cid x.packet) unlooked_reading
