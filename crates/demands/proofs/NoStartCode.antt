-- Demand 2, since request 07: what 17 and 27 moved. Without them each answer is the same, but where a data packet has no values; and there the packet
-- is refused. Assumes nothing.
use Rattle.std.specs.Prelude.{Ok, Err}
use Prim.Native.Nat.{ℕ}
use mathlib.Core.Path.{◌≡◌, refl, sym, ap, subst, ◌∙◌}
use mathlib.Core.Bool.{Bool, true, false}
use mathlib.Core.List.{List, [], ◌∷◌, ◌++◌, map}
use mathlib.Core.Logic.{◌⊎◌, inl, inr, ⊎_elim}
use borrow.Author.Tests.{eqb-true}
use native.Mathlib.Omega.{arith}
use lib.Dec.{eqb}
use lib.ListN.{length, set}
use Rattle.wire.specs.Fields.{u16_at, u32_at}
use Rattle.refusal.specs.declared.Refusal.{Refusal}
use Rattle.refusal.specs.Check.{Test, CheckOf, Check, Numbered, outcome, pick, choose, reading, refusal, framing, dmp, discovery, nowhere, ◌=?◌, ◌≠?◌}
use Rattle.refusal.proofs.Tests.{Holds, Fails, Fact, fact, decided, chosen, choice}
use Rattle.refusal.proofs.Laws.{All, Every, all_hold, all_back, computed}
use Rattle.name.specs.Name.{zero_at, name_field, source_name_checks, written_name_checks, name_bytes}
use Rattle.name.specs.Utf8.{whole_chars, reach, lead_of, trailed}
use Rattle.pdu.specs.Head.{head_checks, length_of, vector_of}
use Rattle.pdu.specs.declared.VectorLength.TheVariants.{One, Four}
use Rattle.pdu.specs.declared.Edition.{Edition}
use Rattle.pdu.specs.declared.Edition.TheVariants.{E2018, E2009}
use Rattle.dmp.specs.Layer as dmpLayer
use Rattle.dmp.specs.Layer.{count_of, count_checks, dmp_bytes}
use Rattle.discovery.specs.Layer.{own_checks}
use Rattle.framing.specs.Data as dataLayer
use Rattle.framing.specs.Data.{dmp_part, priority_checks, sync_address_checks, universe_checks, data_checks}
use Rattle.framing.specs.Bytes.{data_framing_bytes}
use Rattle.extended.specs.Synchronization.{synchronization_checks}
use Rattle.extended.specs.UniverseDiscovery as discoveryFraming
use Rattle.extended.specs.UniverseDiscovery.{discovery_part}
use Rattle.extended.specs.Extended.{kind_checks, extended_checks}
use Rattle.root.specs.Root.{preamble_checks, root_checks, root_part}
use Rattle.packet.specs.Packet.{span, root_vector, framing_part, framing_checks, packet_checks, record_of, data_record, extended_record, packet_of, reading_of}
use Rattle.packet.specs.declared.DataRecord.{DataRecord}
use Rattle.framing.specs.declared.DataFields.{DataFields}
use Rattle.packet.specs.declared.Packet.{Packet}
use Rattle.packet.specs.declared.Packet.TheVariants as packet
use Rattle.packet.proofs.Whole.{each_extended, read}
use Rattle.edition2009.specs.Editions.{dropped_fields}
use Rattle.edition2009.specs.Packet.{packet_checks2009, data_record2009, packet2009_of, reading2009_of}
use Rattle.edition2009.specs.declared.DataFields2009.{DataFields2009}
use Rattle.edition2009.specs.declared.Packet2009.{Packet2009}
use Rattle.edition2009.specs.declared.Packet2009.TheVariants as old
use Rattle.edition2009.proofs.Editions.{read_2009}
use Rattle.pack.specs.Writing.{room_check, values_check, count_check, data_bytes, data_length, data_write_checks, packed_of}
use Rattle.demands.specs.NoStartCode.{without, packet_without17, packet2009_without17, packed_without27, ReadsBut17, Reads2009But17, WritesBut27}
use Rattle.demands.specs.Spans.{SpansIn}
use Rattle.demands.proofs.Spans.{spans, data_spans_2009}
use Rattle.demands.proofs.Laid.{wrote}
use Rattle.demands.proofs.Malformed.{cid, plain}

-- a refusal with another number than n
abbrev other : ℕ → Refusal → Test
other n r = r.number ≠? n

abbrev Other : ℕ → Refusal → Type 0
Other n r = Holds (other n r)

-- where a check of the number n is the first to fail, P is so of its refusal, and all checks behind it hold
abbrev Alone : {I : Type 0} → ℕ → (Refusal → Type 0) → List (CheckOf I) → Type 0
Alone n P [] = Unit {0}
Alone n P (c ∷ cs) = (Fails c.test → c.otherwise.number ≡ n → P c.otherwise × All cs) × (Holds c.test → Alone n P cs)

module _ {I : Type 0} (n : ℕ) (P : Refusal → Type 0) where
  alone_other : (cs : List (CheckOf I)) → Every (Other n) cs → Alone n P cs
  alone_other [] h = tt
  alone_other (c ∷ cs) h = (λ f e. absurd (h.0 f e), λ t. alone_other cs (h.1 t))

  alone_++ : (cs ds : List (CheckOf I)) → Every (Other n) cs → Alone n P ds → Alone n P (cs ++ ds)
  alone_++ [] ds h k = k
  alone_++ (c ∷ cs) ds h k = (λ f e. absurd (h.0 f e), λ t. alone_++ cs ds (h.1 t) k)

all_without : {I : Type 0} (n : ℕ) (cs : List (CheckOf I)) → All cs → All (without n cs)
all_without n [] h = tt
all_without n (c ∷ cs) h = by (eqb c.otherwise.number n) (all_without n cs h.1)
  where
    by : (same : Bool) → All (without n cs) → All (pick same (without n cs) (c ∷ without n cs))
    by true rest = rest
    by false rest = (h.0, rest)

-- two answers are equal; or the first is a refusal of which P is so, and the second goes on
abbrev Differs : {A : Type 0} → (Refusal → A) → (Refusal → Type 0) → A → A → A → Type 0
Differs refused P next a b = (a ≡ b) ⊎ ((r : Refusal) × P r × (a ≡ refused r) × (b ≡ next))

-- A list, and the same without the checks of the number n: they answer alike, or one check of that number is all that fails.
but_for : {I A : Type 0} (n : ℕ) (refused : Refusal → A) (P : Refusal → Type 0) (next : A) (cs : List (CheckOf I)) → Alone n P cs →
    Differs refused P next (reading refused cs next) (reading refused (without n cs) next)
unfolding reading
but_for n refused P next [] h = inl refl
but_for {I} {A} n refused P next (c ∷ cs) h =
    by (outcome c.test) (fact c.test) (eqb c.otherwise.number n) refl (λ t. but_for n refused P next cs (h.1 t))
  where
    rest : List (CheckOf I)
    rest = without n cs

    by : (o : Bool) → Fact o c.test → (same : Bool) → eqb c.otherwise.number n ≡ same →
        (Holds c.test → Differs refused P next (reading refused cs next) (reading refused rest next)) →
        Differs refused P next (pick o (reading refused cs next) (refused c.otherwise)) (reading refused (pick same rest (c ∷ rest)) next)
    by true f true e behind = behind f
    by true f false e behind = rw (decided c.test true f) (behind f)
    by false f true e behind =
        let found = h.0 f (eqb-true c.otherwise.number n e) in
        inr (c.otherwise, found.0, refl, all_hold refused rest next (all_without n cs found.1))
    by false f false e behind = inl (rw (decided c.test false f))

-- Reading: 17 is told of data packets alone, and behind it stands one check, of a count above 513.
module _ (p : List ℕ) (P : Refusal → Type 0) where
  abbrev q : List ℕ
  q = dmp_part p (length_of p)

  abbrev before : Edition → List Check
  before edition =
      let len = length_of p in
      let fields = priority_checks p ++ (sync_address_checks edition p ++ universe_checks p len) in
      let inner = head_checks One dmp q ++ dmpLayer.start_checks q (length_of q) (vector_of One q) in
      head_checks Four framing p ++ (dataLayer.start_checks p len (vector_of Four p) ++ (source_name_checks (name_field p) ++ (fields ++ inner)))

  module _ (told : count_of q ≡ 0 → P (refusal 17 dmp 0)) where
    count_alone : Alone 17 P (count_checks q (length_of q))
    count_alone = (
      λ f e. absurd (omega (arith, e)),
      λ t. (
        λ f e. absurd (omega (arith, e)),
        λ t. (λ f e. (told (omega (arith, f)), (omega (arith, f), tt)), λ t. (λ f e. absurd (omega (arith, e)), λ t. tt)),
      ),
    )

    data_alone : (edition : Edition) → Alone 17 P (data_checks edition p)
    data_alone E2018 = alone_++ 17 P (before E2018) (count_checks q (length_of q)) (computed (other 17) (before E2018) refl) count_alone
    data_alone E2009 = alone_++ 17 P (before E2009) (count_checks q (length_of q)) (computed (other 17) (before E2009) refl) count_alone

  extended_alone : (whole : ℕ) → Alone 17 P (extended_checks whole p)
  extended_alone whole =
      let len = length_of p in
      let vec = vector_of Four p in
      let l = discovery_part p len in
      alone_other 17 P (extended_checks whole p)
      (each_extended (Other 17) whole p
      (computed (other 17) (head_checks Four framing p ++ kind_checks whole len vec) refl)
      (computed (other 17) (synchronization_checks p len) refl)
      (computed (other 17) (discoveryFraming.start_checks p len) refl)
      (λ room. computed (other 17) (source_name_checks (name_field p)) refl)
      (λ room. computed (other 17) (head_checks Four discovery l ++ own_checks l (length_of l) (vector_of Four l)) refl)
      (λ e. omega (arith, e))
      (λ i e. omega (arith, e)))

module _ (d : List ℕ) where
  abbrev p : List ℕ
  p = framing_part d

  abbrev whole : ℕ
  whole = length (root_part d)

  abbrev NoCount : Refusal → Type 0
  NoCount r = (r ≡ refusal 17 dmp 0) × (root_vector d ≡ 4) × (count_of (dmp_part p (length_of p)) ≡ 0)

  packet_alone : Alone 17 NoCount (packet_checks d)
  packet_alone =
      let outer = preamble_checks d ++ root_checks E2018 (root_part d) in
      alone_++ 17 NoCount outer (framing_checks d) (computed (other 17) outer refl)
      (choice (Alone 17 NoCount) (root_vector d =? 4) (data_checks E2018 p) (extended_checks whole p)
      (λ four. data_alone p NoCount (λ none. (refl, four, none)) E2018)
      (λ f. extended_alone p NoCount whole))

  -- Without 17 the same is read and refused, but for data packets without values.
  pub reading_but_17 : ReadsBut17 d
  unfolding packet_of packet_without17
  reading_but_17 =
      ⊎_elim (λ same. inl same)
      (λ w.
      let is-data = chosen (root_vector d =? 4) (packet.Data (data_record p)) (extended_record p) w.1.1 refl in
      inr (w.2 ∙ ap packet.Refused w.1.0, (data_record p, w.3 ∙ sym is-data, w.1.2)))
      (but_for 17 packet.Refused NoCount (record_of d) (packet_checks d) packet_alone)

  abbrev NoCount2009 : Refusal → Type 0
  NoCount2009 r = (r ≡ refusal 17 dmp 0) × (count_of (dmp_part p (length_of p)) ≡ 0)

  packet_alone_2009 : Alone 17 NoCount2009 (packet_checks2009 d)
  packet_alone_2009 =
      let outer = preamble_checks d ++ root_checks E2009 (root_part d) in
      alone_++ 17 NoCount2009 outer (data_checks E2009 p) (computed (other 17) outer refl)
      (data_alone p NoCount2009 (λ none. (refl, none)) E2009)

  -- The same of the 2009 reader.
  pub reading_2009_but_17 : Reads2009But17 d
  unfolding packet2009_of packet2009_without17
  reading_2009_but_17 =
      ⊎_elim (λ same. inl same)
      (λ w. inr (w.2 ∙ ap old.Refused w.1.0, (data_record2009 p, w.3, w.1.1)))
      (but_for 17 old.Refused NoCount2009 (old.Data (data_record2009 p)) (packet_checks2009 d) packet_alone_2009)

  -- Whatever is read without values there is refused: what is read here has at least one.
  pub no_values_refused : (x : DataRecord DataFields) → packet_without17 d ≡ packet.Data x → x.values.len ≡ 0 → packet_of d ≡ packet.Refused (refusal 17 dmp 0)
  no_values_refused x e none =
      ⊎_elim
      (λ same.
      let here : SpansIn d (packet.Data x) = subst (SpansIn d) (read d ∙ same ∙ e) (spans d) in
      absurd (omega (arith, none, here.2)))
      (λ w. w.0) reading_but_17

  pub no_values_refused_2009 : (x : DataRecord DataFields2009) → packet2009_without17 d ≡ old.Data x → x.values.len ≡ 0 → packet2009_of d ≡ old.Refused (refusal 17 dmp 0)
  no_values_refused_2009 x e none =
      ⊎_elim
      (λ same.
      let here = data_spans_2009 d x (read_2009 d ∙ same ∙ e) in
      absurd (omega (arith, none, here.2)))
      (λ w. w.0) reading_2009_but_17

-- Writing: behind 27 stands one check, of more than 513 values.
module _ (room : ℕ) (name values : List ℕ) where
  abbrev named : List Numbered
  named = room_check (data_length values) room ∷ written_name_checks name

  abbrev counted : List Numbered
  counted = values_check (length values) ∷ count_check 513 (length values) ∷ []

  abbrev NoneLent : Refusal → Type 0
  NoneLent r = (r ≡ refusal 27 nowhere 0) × (length values ≡ 0)

  write_alone : Alone 27 NoneLent (data_write_checks room name values)
  write_alone =
      alone_++ 27 NoneLent named counted (computed (other 27) named refl)
      (λ f e. ((refl, omega (arith, f)), (omega (arith, f), tt)), λ t. (λ f e. absurd (omega (arith, e)), λ t. tt))

  -- Without 27 the same is written and refused, but where no values are lent.
  pub writing_but_27 : WritesBut27 room name values
  unfolding packed_of packed_without27
  writing_but_27 =
      ⊎_elim (λ same. inl same)
      (λ w. inr (w.2 ∙ ap Err w.1.0, w.3 ∙ ap Ok (omega (arith, w.1.1)), w.1.1))
      (but_for 27 Err NoneLent (Ok (data_length values)) (data_write_checks room name values) write_alone)

  -- Whatever is written without values there is refused here: an accepted write was lent one.
  pub no_values_unwritten : (n : ℕ) → packed_without27 room name values ≡ Ok n → length values ≡ 0 →
      packed_of (data_write_checks room name values) (data_length values) ≡ Err (refusal 27 nowhere 0)
  no_values_unwritten n e none =
      ⊎_elim
      (λ same.
      let held = (wrote (data_write_checks room name values) (data_length values) n (same ∙ e)).0 in
      absurd (omega (arith, none, (all_back named counted held).0)))
      (λ w. w.0) writing_but_27

-- By computation: a data packet without values; one whose count alone is 0, the value behind it; one with a start code alone. In both editions, and
-- the first without 17.
abbrev data_of : List ℕ → List ℕ
data_of values = data_bytes cid plain [] values

abbrev packets : List (List ℕ)
packets = data_of [] ∷ set (data_of (0 ∷ [])) 124 0 ∷ data_of (0 ∷ []) ∷ []

abbrev read_as : ℕ → Packet
read_as n = packet.Data (record { fields = plain; name = span 44 0; values = span 125 n })

abbrev read_as_2009 : ℕ → Packet2009
read_as_2009 n = old.Data (record { fields = dropped_fields plain; name = span 44 0; values = span 125 n })

pub read_examples :
    packet_without17 (data_of []) ∷ map (λ (d : List ℕ). (reading_of d).packet) packets
    ≡ read_as 0 ∷ packet.Refused (refusal 17 dmp 0) ∷ packet.Refused (refusal 15 dmp 0) ∷ read_as 1 ∷ []
unfolding packet_without17 reading_of packet_of reading choose u16_at u32_at zero_at whole_chars reach lead_of trailed data_bytes data_framing_bytes dmp_bytes name_bytes
read_examples = refl

pub read_examples_2009 :
    packet2009_without17 (data_of []) ∷ map (λ (d : List ℕ). (reading2009_of d).packet) packets
    ≡ read_as_2009 0 ∷ old.Refused (refusal 17 dmp 0) ∷ old.Refused (refusal 15 dmp 0) ∷ read_as_2009 1 ∷ []
unfolding packet2009_without17 reading2009_of packet2009_of reading choose u16_at u32_at zero_at whole_chars reach lead_of trailed data_bytes data_framing_bytes dmp_bytes name_bytes
read_examples_2009 = refl

-- No values into 125 bytes without 27; no values into 124 bytes and into 125; with a name that is no UTF-8; a start code alone into 126.
pub write_examples :
    packed_without27 125 [] []
    ∷ packed_of (data_write_checks 124 [] []) (data_length [])
    ∷ packed_of (data_write_checks 125 [] []) (data_length [])
    ∷ packed_of (data_write_checks 125 (0xff ∷ []) []) (data_length [])
    ∷ packed_of (data_write_checks 126 [] (0 ∷ [])) (data_length (0 ∷ []))
    ∷ []
    ≡ Ok 125
    ∷ Err (refusal 20 nowhere 0)
    ∷ Err (refusal 27 nowhere 0)
    ∷ Err (refusal 23 nowhere 0)
    ∷ Ok 126
    ∷ []
unfolding packed_without27 packed_of reading choose zero_at whole_chars reach lead_of trailed
write_examples = refl
