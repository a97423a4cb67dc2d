-- The two editions, over every datagram: where they answer the same, and where not. Assumes nothing.
use Prim.Native.Nat.{ℕ, ◌≤◌, ◌<◌}
use mathlib.Core.Path.{◌≡◌, refl, sym, ap, ◌∙◌}
use mathlib.Core.List.{List, [], ◌∷◌, ◌++◌}
use mathlib.Core.Bool.{Bool, true, false}
use mathlib.Core.Logic.{◌⊎◌, inl, inr}
use native.Mathlib.Omega.{arith}
use lib.ListN.{length}
use Rattle.refusal.specs.declared.Refusal.{Refusal}
use Rattle.std.specs.Prelude.{Ok, Err}
use Rattle.refusal.specs.Check.{outcome, pick, Check, refusal, root, framing, ◌≤?◌, ◌=?◌, ◌≠?◌, reading, checked_of}
use Rattle.refusal.proofs.Tests.{Holds, chosen, decide}
use Rattle.refusal.proofs.Laws.{All, Every, all_hold, first_fails, reading_++, always, every_++, after_check, check_first, computed}
use Rattle.name.specs.Name.{name_field, source_name_checks}
use Rattle.pdu.specs.Head.{head_checks, length_of, vector_of}
use Rattle.pdu.specs.declared.VectorLength.TheVariants.{Four}
use Rattle.wire.specs.Fields.{u16_at}
use Rattle.pdu.specs.declared.Edition.TheVariants.{E2018, E2009}
use Rattle.framing.specs.Data.{start_checks, priority_checks, sync_address_checks, rest_checks, field_checks, data_checks}
use Rattle.extended.specs.Extended.{extended_checks}
use Rattle.root.specs.Root.{preamble_checks, root_checks, root_part, vector_checks, cid_checks}
use Rattle.packet.specs.Packet.{root_vector, framing_part, framing_checks, data_record, extended_record, record_of, packet_of, with_cid, reading_of}
use Rattle.packet.specs.Table.{allowed}
use Rattle.packet.specs.declared.Packet.{Packet}
use Rattle.packet.specs.declared.Packet.TheVariants as present
use Rattle.packet.proofs.Whole.{read, each_data, name_tabled}
use Rattle.edition2009.specs.Packet.{packet_checks2009, data_record2009, packet2009_of, with_cid2009, reading2009_of}
use Rattle.edition2009.specs.Editions.{dropped_reading, before_vector}
use Rattle.edition2009.specs.declared.Packet2009.{Packet2009}
use Rattle.edition2009.specs.declared.Packet2009.TheVariants.{Data, Refused}

-- Two answers are bound by R wherever refusals are and what follows is: for lists that start with the same checks.
module _ {A B : Type 0} (R : A → B → Type 0) (f : Refusal → A) (g : Refusal → B) (refused : (r : Refusal) → R (f r) (g r)) where
  bound : (cs ds es : List Check) (a : A) (b : B) → R (reading f ds a) (reading g es b) → R (reading f (cs ++ ds) a) (reading g (cs ++ es) b)
  unfolding reading
  bound [] ds es a b h = h
  bound (c ∷ cs) ds es a b h = by (outcome c.test) (bound cs ds es a b h)
    where
      by : (o : Bool) → R (reading f (cs ++ ds) a) (reading g (cs ++ es) b) →
          R (pick o (reading f (cs ++ ds) a) (f c.otherwise)) (pick o (reading g (cs ++ es) b) (g c.otherwise))
      by true rest = rest
      by false rest = refused c.otherwise

-- Checks that hold are passed.
held : {A : Type 0} (f : Refusal → A) (cs ds : List Check) (a : A) → All cs → reading f (cs ++ ds) a ≡ reading f ds a
held f cs ds a h = reading_++ f cs ds a ∙ all_hold f cs (reading f ds a) h

-- The present answer is refusal 9, or the 2009 answer is the present one with the two fields dropped, and the same CID.
abbrev Nine : Packet → Type 0
Nine x = (r : Refusal) × (r.number ≡ 9) × (x ≡ present.Refused r)

abbrev Kept : List ℕ → Packet → Packet2009 → Type 0
Kept d x y = Nine x ⊎ (with_cid2009 d y ≡ dropped_reading (with_cid d x))

module _ (d : List ℕ) where
  both : (cs ds es : List Check) (a : Packet) (b : Packet2009) → Kept d (reading present.Refused ds a) (reading Refused es b) →
      Kept d (reading present.Refused (cs ++ ds) a) (reading Refused (cs ++ es) b)
  both = bound (Kept d) present.Refused Refused (λ r. inr refl)

  -- from the sync address on
  address_kept : (p : List ℕ) →
      let rest = rest_checks p (length_of p) in
      Kept d (reading present.Refused (sync_address_checks E2018 p ++ rest) (present.Data (data_record p))) (reading Refused rest (Data (data_record2009 p)))
  unfolding reading
  address_kept p =
      let rest = rest_checks p (length_of p) in
      let a = present.Data (data_record p) in
      let b = Data (data_record2009 p) in
      let cs = sync_address_checks E2018 p in
      decide (73 ≤? length p)
      (λ h.
      decide (u16_at p 71 ≤? 63999)
      (λ k. rw (held present.Refused cs rest a (h, (k, tt))) (both rest [] [] a b (inr refl)))
      (λ k. inl (refusal 9 framing (u16_at p 71), refl, first_fails present.Refused 1 (cs ++ rest) a (h, k))))
      (λ f.
      let g : length p < 74 = omega arith in
      rw (first_fails present.Refused 0 (cs ++ rest) a f, first_fails Refused 0 rest b g) (inr refl))

  -- from the framing layer on
  data_kept : (p : List ℕ) →
      Kept d (reading present.Refused (data_checks E2018 p) (present.Data (data_record p))) (reading Refused (data_checks E2009 p) (Data (data_record2009 p)))
  data_kept p =
      let start = head_checks Four framing p ++ start_checks p (length_of p) (vector_of Four p) in
      let rest = rest_checks p (length_of p) in
      both (start ++ (source_name_checks (name_field p) ++ priority_checks p)) (sync_address_checks E2018 p ++ rest) rest (present.Data (data_record p)) (Data (data_record2009 p))
      (address_kept p)

  -- from the vector check on, for data
  four_kept : root_vector d ≡ 4 →
      let len = length_of (root_part d) in
      Kept d
      (reading present.Refused (vector_checks E2018 (root_vector d) ++ (cid_checks len ++ framing_checks d)) (record_of d))
      (reading Refused (vector_checks E2009 (root_vector d) ++ (cid_checks len ++ data_checks E2009 (framing_part d))) (Data (data_record2009 (framing_part d))))
  four_kept h =
      let v = root_vector d in
      let p = framing_part d in
      let cid = cid_checks (length_of (root_part d)) in
      let ds = data_checks E2018 p in
      let es = data_checks E2009 p in
      let a = present.Data (data_record p) in
      let b = Data (data_record2009 p) in
      rw (
        sym (chosen (v =? 4) ds (extended_checks (length (root_part d)) p) h refl),
        sym (chosen (v =? 4) a (extended_record p) h refl),
        held present.Refused (vector_checks E2018 v) (cid ++ ds) a (omega arith),
        held Refused (vector_checks E2009 v) (cid ++ es) b (omega arith),
      )
      (both cid ds es a b (data_kept p))

  packet_kept : (root_vector d ≡ 8 → ⊥) → Kept d (packet_of d) (packet2009_of d)
  unfolding packet_of packet2009_of
  packet_kept other =
      let v = root_vector d in
      let p = framing_part d in
      let cid = cid_checks (length_of (root_part d)) in
      let ds = vector_checks E2018 v ++ (cid ++ framing_checks d) in
      let es = vector_checks E2009 v ++ (cid ++ data_checks E2009 p) in
      let b = Data (data_record2009 p) in
      both (before_vector d) ds es (record_of d) b
      (decide (v =? 4) four_kept
      (λ f. rw (first_fails present.Refused 0 ds (record_of d) (f, other), first_fails Refused 0 es b f) (inr refl)))

-- Where the root vector is not 8, the 2009 reader answers what the present one answers with the two fields dropped, save where the present one
-- refuses 9.
pub editions : (d : List ℕ) → (root_vector d ≡ 8 → ⊥) →
    ((r : Refusal) × (r.number ≡ 9) × ((reading_of d).packet ≡ present.Refused r)) ⊎ (reading2009_of d ≡ dropped_reading (reading_of d))
unfolding reading_of reading2009_of
editions d other = by (packet_kept d other)
  where
    by : Kept d (packet_of d) (packet2009_of d) → Nine (reading_of d).packet ⊎ (reading2009_of d ≡ dropped_reading (reading_of d))
    by (inl n) = inl (n.0, n.1, read d ∙ n.2)
    by (inr e) = inr e

-- A refusal before the vector check is what a list that starts with those checks answers.
refused_before : {A : Type 0} (f : Refusal → A) (cs ds : List Check) (a : A) (r : Refusal) → checked_of cs ≡ Err r → reading f (cs ++ ds) a ≡ f r
unfolding reading
refused_before f cs ds a r e = check_first f [] cs ds a ∙ ap (after_check f (reading f ds a)) e

passed_before : {A : Type 0} (f : Refusal → A) (cs ds : List Check) (a : A) → checked_of cs ≡ Ok tt → reading f (cs ++ ds) a ≡ reading f ds a
unfolding reading
passed_before f cs ds a e = check_first f [] cs ds a ∙ ap (after_check f (reading f ds a)) e

-- Where preamble, the root layer's start or root length refuse, both readers give that refusal, whatever the root vector is.
pub before_vector_lem : (d : List ℕ) (r : Refusal) → checked_of (before_vector d) ≡ Err r →
    (reading_of d ≡ with_cid d (present.Refused r)) × (reading2009_of d ≡ with_cid2009 d (Refused r))
unfolding reading_of reading2009_of packet_of packet2009_of
before_vector_lem d r e =
    let cid = cid_checks (length_of (root_part d)) in (
      ap (with_cid d) (refused_before present.Refused (before_vector d) (vector_checks E2018 (root_vector d) ++ (cid ++ framing_checks d)) (record_of d) r e),
      ap (with_cid2009 d)
          (refused_before Refused (before_vector d) (vector_checks E2009 (root_vector d) ++ (cid ++ data_checks E2009 (framing_part d)))
          (Data (data_record2009 (framing_part d))) r e),
    )

-- Where they do not, and the root vector is 8, the 2009 reader refuses 4 at place 2 with value 8.
pub eight : (d : List ℕ) → root_vector d ≡ 8 → checked_of (before_vector d) ≡ Ok tt → reading2009_of d ≡ with_cid2009 d (Refused (refusal 4 root 8))
unfolding reading2009_of packet2009_of
eight d h e =
    let v = root_vector d in
    let es = vector_checks E2009 v ++ (cid_checks (length_of (root_part d)) ++ data_checks E2009 (framing_part d)) in
    let b = Data (data_record2009 (framing_part d)) in
    ap (with_cid2009 d)
    (passed_before Refused (before_vector d) es b e
    ∙ first_fails Refused 0 es b (omega arith)
    ∙ ap (λ (n : ℕ). Refused (refusal 4 root n)) h)

-- The CID goes with an answer, and changes nothing of it.
beside : (d : List ℕ) (x : Packet2009) → (with_cid2009 d x).packet ≡ x
beside d (Data x) = refl
beside d (Refused r) = refl

pub read_2009 : (d : List ℕ) → (reading2009_of d).packet ≡ packet2009_of d
unfolding reading2009_of
read_2009 d = beside d (packet2009_of d)

-- What every check of the 2009 reader tells is so of what it refuses with.
module _ (P : Refusal → Type 0) (d : List ℕ) where
  abbrev Told : Packet2009 → Type 0
  Told (Data x) = Unit {0}
  Told (Refused r) = P r

  pub refused_with : (r : Refusal) → Every P (packet_checks2009 d) → (reading2009_of d).packet ≡ Refused r → P r
  unfolding packet2009_of
  refused_with r all e =
      let x : packet2009_of d ≡ Refused r = sym (read_2009 d) ∙ e in
      let answer : Told (packet2009_of d) = always Refused Told (packet_checks2009 d) (Data (data_record2009 (framing_part d))) all tt in
      rw x at answer

  -- What is so of every check of its pieces is so of all of them.
  pub each_check_2009 :
      let p = framing_part d in
      let outer = preamble_checks d ++ root_checks E2009 (root_part d) in
      Every P outer →
      Every P (head_checks Four framing p ++ start_checks p (length_of p) (vector_of Four p)) →
      (70 ≤ length p → Every P (source_name_checks (name_field p))) →
      Every P (field_checks E2009 p (length_of p)) →
      Every P (packet_checks2009 d)
  each_check_2009 outer start named fields =
      let p = framing_part d in
      every_++ P (preamble_checks d ++ root_checks E2009 (root_part d)) (data_checks E2009 p) outer
      (λ a. each_data P E2009 p start named fields)

-- The 2009 reader never refuses 9.
pub never_nine : (d : List ℕ) (r : Refusal) → (reading2009_of d).packet ≡ Refused r → r.number ≡ 9 → ⊥
never_nine d r e =
    refused_with (λ (r : Refusal). r.number ≡ 9 → ⊥) d r (computed (λ (r : Refusal). r.number ≠? 9) (packet_checks2009 d) refl) e

-- Its refusals have a number and a place of document 01's table, the value 0 where the table names none, and at most 62 for 7.
pub refusals : (d : List ℕ) (r : Refusal) → (reading2009_of d).packet ≡ Refused r → Holds (allowed r)
refusals d r e =
    let p = framing_part d in
    refused_with (λ (r : Refusal). Holds (allowed r)) d r
    (each_check_2009 (λ (r : Refusal). Holds (allowed r)) d
    (computed allowed (preamble_checks d ++ root_checks E2009 (root_part d)) refl)
    (computed allowed (head_checks Four framing p ++ start_checks p (length_of p) (vector_of Four p)) refl)
    (λ room. name_tabled p)
    (computed allowed (field_checks E2009 p (length_of p)) refl))
    e
