-- For every datagram, whatever it holds and whatever stands behind its packet: the parts of its reading lie in it, a name's bytes are well-formed
-- UTF-8 without a zero, and the universes are those that were judged; in both editions. Assumes nothing.
use Prim.Native.Nat.{ℕ, zero, suc, ◌+◌, ◌*◌, ◌-◌, ◌/◌, ◌≤◌, ◌<◌}
use mathlib.Core.Path.{◌≡◌, refl, sym, ap, ◌∙◌, subst}
use mathlib.Core.Bool.{Bool, true, false}
use mathlib.Core.Logic.{⊎_elim}
use mathlib.Core.List.{List, ◌++◌}
use native.Mathlib.Omega.{arith}
use lib.ListN.{length, take, drop, get_or, length-take, length-drop}
use lib.Seq.{get_or-take, get_or-drop, length-take-le, ext_get_or}
use Rattle.wire.specs.Fields.{u16_at}
use Rattle.refusal.specs.declared.Refusal.{Refusal}
use Rattle.refusal.specs.Check.{Test, Check, outcome, pick, choose, reading, ◌=?◌, framing, dmp, discovery}
use Rattle.refusal.proofs.Tests.{Holds, Fails, Fact, fact}
use Rattle.refusal.proofs.Laws.{All, Stops, decides, all_hold, first_fails, refusal_at, all_front, all_back}
use Rattle.pdu.specs.Head.{head_checks, length_of, vector_of}
use Rattle.pdu.specs.declared.VectorLength.TheVariants.{One, Four}
use Rattle.name.specs.Name.{zero_at, text_of, source_name_checks}
use Rattle.name.specs.Utf8.{well_formed}
use Rattle.name.proofs.Laws.{text_length}
use Rattle.dmp.specs.Layer as dmpLayer
use Rattle.discovery.specs.Layer as layer
use Rattle.discovery.specs.Universes.{universes, all_universes, pairs, ascends, list_checks}
use Rattle.discovery.proofs.Laws.{universes_length, told_all}
use Rattle.pdu.specs.declared.Edition.{Edition}
use Rattle.pdu.specs.declared.Edition.TheVariants.{E2018, E2009}
use Rattle.framing.specs.Data.{dmp_part, start_checks, priority_checks, sync_address_checks, universe_checks, rest_checks, field_checks, body_checks, data_checks}
use Rattle.name.specs.Name.{name_field}
use Rattle.extended.specs.Synchronization.{synchronization_checks}
use Rattle.extended.specs.UniverseDiscovery as framed
use Rattle.extended.specs.UniverseDiscovery.{discovery_part, discovery_framing_checks}
use Rattle.extended.specs.Extended.{kind_checks, extended_checks}
use Rattle.root.specs.Root.{preamble_checks, root_checks, root_part}
use Rattle.root.proofs.Laws.{within}
use Rattle.packet.specs.Packet.{span, root_vector, framing_part, framing_checks, packet_checks, record_of, data_record, synchronization_record, discovery_record, extended_record, packet_of, reading_of}
use Rattle.packet.specs.declared.DiscoveryRecord.{DiscoveryRecord}
use Rattle.packet.specs.declared.Packet.{Packet}
use Rattle.packet.specs.declared.Packet.TheVariants.{Data, Synchronization, Discovery, Refused}
use Rattle.packet.proofs.Whole.{read}
use Rattle.parts.specs.Parts.{shown_at, universes_span, listed_at, universes_in}
use Rattle.edition2009.specs.Packet.{packet_checks2009, data_record2009, packet2009_of, reading2009_of}
use Rattle.edition2009.proofs.Editions.{read_2009}
use Rattle.packet.specs.declared.DataRecord.{DataRecord}
use Rattle.edition2009.specs.declared.DataFields2009.{DataFields2009}
use Rattle.edition2009.specs.declared.Packet2009.TheVariants as old
use Rattle.demands.specs.Spans.{packet_end, NameIn, PartIn, judged, ListIn, DataIn, SpansIn, SpansIn2009}
use Rattle.demands.proofs.Segments.{cut_at}
use Rattle.demands.proofs.Names.{zero_is, before_zero}
use Rattle.demands.proofs.DiscoveryPackets.{part_inside}

-- what is so of each refusal, and of the answer that follows where all checks hold, is so of the list's answer
answered : {A : Type 0} (refused : Refusal → A) (P : A → Type 0) (cs : List Check) (next : A) → ((r : Refusal) → P (refused r)) → (All cs → P next) → P (reading refused cs next)
answered refused P cs next none held =
    ⊎_elim (λ (a : All cs). subst P (sym (all_hold refused cs next a)) (held a))
    (λ (s : (k : ℕ) × Stops k cs). subst P (sym (first_fails refused s.0 cs next s.1)) (none (refusal_at s.0 cs)))
    (decides cs)

-- the same of a choice of checks and what follows them
by_choice : {A : Type 0} (P : A → Type 0) (t : Test) (cs ds : List Check) (a b : A) → All (choose t cs ds) → (Holds t → All cs → P a) → (Fails t → All ds → P b) → P (choose t a b)
unfolding choose
by_choice P t cs ds a b = by (outcome t) (fact t)
  where
    by : (o : Bool) → Fact o t → All (pick o cs ds) → (Holds t → All cs → P a) → (Fails t → All ds → P b) → P (pick o a b)
    by true h all first second = first h all
    by false f all first second = second f all

-- numbers of two bytes are told by their bytes
numbers_alike : (n : ℕ) (s t : List ℕ) → ((j : ℕ) → j < 2 * n → get_or s j 0 ≡ get_or t j 0) → universes n s ≡ universes n t
unfolding universes u16_at
numbers_alike zero s t same = refl
numbers_alike (suc n) s t same =
    let high = same 0 (omega arith) in
    let low = same 1 (omega arith) in
    let more : universes n (drop 2 s) ≡ universes n (drop 2 t) =
    numbers_alike n (drop 2 s) (drop 2 t) (λ j h. get_or-drop 2 s j 0 ∙ same (2 + j) (omega arith) ∙ sym (get_or-drop 2 t j 0)) in
    cc

-- a part that ends in the packet, where the packet ends in the datagram
part_in : (start : ℕ) (d : List ℕ) (len : ℕ) → start + len ≤ packet_end d → packet_end d ≤ length d → PartIn start d (span start len)
part_in start d len ends whole =
    let fits : start + len ≤ length d = omega arith in
    record {
      first = refl;
      in_packet = ends;
      in_datagram = fits;
      shown = ap length (part_inside d start len fits) ∙ length-take-le len (drop start d) (simp length-drop (omega arith));
    }

-- the framing layer's bytes, by their place in the datagram
pub framed_at : (d : List ℕ) (k : ℕ) → k < length_of (root_part d) - 22 → get_or (framing_part d) k 0 ≡ get_or d (38 + k) 0
framed_at d k h =
    let at : 16 + (22 + k) ≡ 38 + k = omega arith in
    cut_at 22 (length_of (root_part d) - 22) (root_part d) k h ∙ get_or-drop 16 d (22 + k) 0 ∙ ap (λ (i : ℕ). get_or d i 0) at

-- Of a datagram whose root layer is accepted:
module _ (edition : Edition) (d : List ℕ) (rooted : All (preamble_checks d ++ root_checks edition (root_part d))) where
  abbrev p : List ℕ
  p = framing_part d

  abbrev n : ℕ
  n = length_of p

  abbrev field : List ℕ
  field = name_field p

  abbrev room : ℕ
  room = length_of (root_part d) - 22

  -- the packet lies in the datagram, and the framing layer's part in the packet
  inside : (22 ≤ length_of (root_part d)) × (packet_end d ≤ length d) × (length p ≤ room)
  inside = omega (arith, within edition d rooted, length-take room (drop 22 (root_part d)))

  -- The name.
  module _ (held : All (source_name_checks field)) where
    short : (zero_at field < 64) × (6 + zero_at field < room)
    short = let i = inside in omega (arith, held.0, length-take 64 (drop 6 p), length-drop 6 p)

    name_at : (k : ℕ) → k ≤ zero_at field → get_or d (44 + k) 0 ≡ get_or field k 0
    name_at k h =
        let s = short in
        let at : 38 + (6 + k) ≡ 44 + k = omega arith in
        sym (cut_at 6 64 p k (omega arith) ∙ framed_at d (6 + k) (omega arith) ∙ ap (λ (i : ℕ). get_or d i 0) at)

    name_shown : shown_at d (span 44 (zero_at field)) ≡ text_of field
    name_shown =
        let z = zero_at field in
        let s = short in
        let i = inside in
        let fits : 44 + z ≤ length d = omega arith in
        let long : length (take z (drop 44 d)) ≡ z = length-take-le z (drop 44 d) (simp length-drop (omega arith)) in
        part_inside d 44 z fits
        ∙ ext_get_or 0 (take z (drop 44 d)) (text_of field) (long ∙ sym (text_length field))
        (λ k h.
        let g : k < z = omega arith in
        cut_at 44 z d k g ∙ name_at k (omega arith) ∙ sym (get_or-take z field k 0 g))

    name_in : NameIn d (span 44 (zero_at field))
    name_in =
        let z = zero_at field in
        let s = short in
        let i = inside in
        record {
          first = refl;
          last = omega arith;
          in_packet = omega arith;
          in_datagram = omega arith;
          zero_behind = name_at z (omega arith) ∙ zero_is field (omega (arith, held.0));
          shown = ap length name_shown ∙ text_length field;
          formed = subst (λ (t : List ℕ). Holds (well_formed t)) (sym name_shown) held.1.0;
          zero_free = λ k h e. before_zero field k h (sym (get_or-take z field k 0 h) ∙ ap (λ (t : List ℕ). get_or t k 0) (sym name_shown) ∙ e);
        }

  -- A data packet, in either edition: the name and the values.
  module _ (checks : All (data_checks edition p)) where
    abbrev q : List ℕ
    q = dmp_part p n

    body : All (body_checks edition p n (vector_of Four p))
    body = all_back (head_checks Four framing p) (body_checks edition p n (vector_of Four p)) checks

    start : All (start_checks p n (vector_of Four p))
    start = all_front (start_checks p n (vector_of Four p)) (source_name_checks field ++ field_checks edition p n) body

    after_start : All (source_name_checks field ++ field_checks edition p n)
    after_start = all_back (start_checks p n (vector_of Four p)) (source_name_checks field ++ field_checks edition p n) body

    inner : All (dmpLayer.body_checks q (length_of q) (vector_of One q))
    inner =
        all_back (head_checks One dmp q) (dmpLayer.body_checks q (length_of q) (vector_of One q))
        (all_back (universe_checks p n) (dmpLayer.dmp_checks q)
        (all_back (sync_address_checks edition p) (rest_checks p n)
        (all_back (priority_checks p) (sync_address_checks edition p ++ rest_checks p n)
        (all_back (source_name_checks field) (field_checks edition p n) after_start))))

    data_in_lem : DataIn d (span 44 (zero_at field)) (span 125 (dmpLayer.count_of q))
    data_in_lem =
        let i = inside in
        let fits = (all_front (dmpLayer.start_checks q (length_of q) (vector_of One q)) (dmpLayer.count_checks q (length_of q)) inner).0 in
        let counts = all_back (dmpLayer.start_checks q (length_of q) (vector_of One q)) (dmpLayer.count_checks q (length_of q)) inner in
        let deep : length q ≤ n - 77 = omega (arith, length-take (n - 77) (drop 77 p)) in
        let ends : 125 + dmpLayer.count_of q ≤ packet_end d = omega (arith, start.0) in (
          name_in (all_front (source_name_checks field) (field_checks edition p n) after_start),
          part_in 125 d (dmpLayer.count_of q) ends i.1,
          counts.1.1.0,
          counts.1.1.1.0,
        )

  -- A discovery packet: the name, the universes' span, and the numbers there.
  module _ (checks : All (discovery_framing_checks p n)) where
    abbrev part : List ℕ
    part = discovery_part p n

    abbrev count : ℕ
    count = layer.count_in (length_of part)

    abbrev after : List Check
    after = source_name_checks field ++ layer.discovery_checks part

    later : All after
    later = all_back (framed.start_checks p n) after checks

    within_layer : All (layer.body_checks part (length_of part) (vector_of Four part))
    within_layer =
        all_back (head_checks Four discovery part) (layer.body_checks part (length_of part) (vector_of Four part))
        (all_back (source_name_checks field) (layer.discovery_checks part) later)

    own : All (layer.own_checks part (length_of part) (vector_of Four part))
    own = all_front (layer.own_checks part (length_of part) (vector_of Four part)) (list_checks (layer.list_part part) count) within_layer

    judgement : All (list_checks (layer.list_part part) count)
    judgement = all_back (layer.own_checks part (length_of part) (vector_of Four part)) (list_checks (layer.list_part part) count) within_layer

    -- the list ends where the framing layer ends, or a byte before
    listed_room : (8 + 2 * count ≤ n - 74) × (74 + (8 + 2 * count) ≤ room) × (2 * count ≤ 1024)
    listed_room =
        let i = inside in
        let o = own in
        let s = all_front (framed.start_checks p n) after checks in
        omega (arith, length-take (n - 74) (drop 74 p))

    universes_in_lem : PartIn 120 d (span 120 (2 * count))
    universes_in_lem =
        let i = inside in
        let r = listed_room in
        part_in 120 d (2 * count) (omega arith) i.1

    -- the list's bytes, by their place in the datagram
    list_byte : (k : ℕ) → k < 2 * count → get_or (take (2 * count) (drop 120 d)) k 0 ≡ get_or (layer.list_part part) k 0
    list_byte k h =
        let r = listed_room in
        let at : 120 + k ≡ 38 + (74 + (8 + k)) = omega arith in
        cut_at 120 (2 * count) d k h
        ∙ ap (λ (i : ℕ). get_or d i 0) at
        ∙ sym (framed_at d (74 + (8 + k)) (omega arith))
        ∙ sym (cut_at 74 (n - 74) p (8 + k) (omega arith))
        ∙ sym (get_or-drop 8 part k 0)

    numbers : listed_at d (span 120 (2 * count)) ≡ judged d
    numbers =
        let u = universes_in_lem in
        let l : List ℕ = take (2 * count) (drop 120 d) in
        let same = part_inside d 120 (2 * count) u.in_datagram in
        let half : length l / 2 ≡ count = omega (arith, sym (ap length same) ∙ u.shown) in
        ap all_universes same ∙ ap (λ (k : ℕ). universes k l) half ∙ numbers_alike count l (layer.list_part part) list_byte

    listed : ListIn d (span 120 (2 * count))
    listed = record {
      as_told = ap (λ (l : List ℕ). 2 * length l) numbers ∙ ap (λ (k : ℕ). 2 * k) (universes_length count (layer.list_part part));
      as_judged = numbers;
      ascending = subst (λ (l : List ℕ). All (pairs ascends l)) (sym numbers) (told_all 2 (pairs ascends (universes count (layer.list_part part))) judgement.1);
    }

    discovered : SpansIn d (Discovery (discovery_record p))
    discovered = (name_in (all_front (source_name_checks field) (layer.discovery_checks part) later), universes_in_lem, listed_room.2, listed)

packet_in : (d : List ℕ) → SpansIn d (packet_of d)
unfolding packet_of
packet_in d =
    let outer = preamble_checks d ++ root_checks E2018 (root_part d) in
    let p = framing_part d in
    let n = length_of p in
    let v = vector_of Four p in
    let whole = length (root_part d) in
    let kinds = choose (v =? 1) (synchronization_checks p n) (discovery_framing_checks p n) in
    answered Refused (SpansIn d) (packet_checks d) (record_of d) (λ r. tt)
    (λ all.
    let rooted = all_front outer (framing_checks d) all in
    by_choice (SpansIn d) (root_vector d =? 4) (data_checks E2018 p) (extended_checks whole p) (Data (data_record p)) (extended_record p) (all_back outer (framing_checks d) all)
    (λ four checks. data_in_lem E2018 d rooted checks)
    (λ other checks.
    by_choice (SpansIn d) (v =? 1) (synchronization_checks p n) (discovery_framing_checks p n) (Synchronization (synchronization_record p)) (Discovery (discovery_record p))
    (all_back (kind_checks whole n v) kinds (all_back (head_checks Four framing p) (kind_checks whole n v ++ kinds) checks))
    (λ one sync. (inside E2018 d rooted).1)
    (λ two disc. discovered E2018 d rooted disc)))

packet_in_2009 : (d : List ℕ) → SpansIn2009 d (packet2009_of d)
unfolding packet2009_of
packet_in_2009 d =
    let outer = preamble_checks d ++ root_checks E2009 (root_part d) in
    let checks = data_checks E2009 (framing_part d) in
    answered old.Refused (SpansIn2009 d) (packet_checks2009 d) (old.Data (data_record2009 (framing_part d))) (λ r. tt)
    (λ all. data_in_lem E2009 d (all_front outer checks all) (all_back outer checks all))

-- Every datagram: the parts of its reading lie in it, in both editions.
pub spans : (d : List ℕ) → SpansIn d (reading_of d).packet
spans d = subst (SpansIn d) (sym (read d)) (packet_in d)

pub spans_2009 : (d : List ℕ) → SpansIn2009 d (reading2009_of d).packet
spans_2009 d = subst (SpansIn2009 d) (sym (read_2009 d)) (packet_in_2009 d)

-- The same by the record that the 2009 reader read.
pub data_spans_2009 : (d : List ℕ) (x : DataRecord DataFields2009) → (reading2009_of d).packet ≡ old.Data x → SpansIn2009 d (old.Data x)
data_spans_2009 d x e = subst (SpansIn2009 d) e (spans_2009 d)

-- The universes that are copied out: as many as told, and those that check 12 judged.
pub copied_universes : (d : List ℕ) (x : DiscoveryRecord) → (reading_of d).packet ≡ Discovery x →
    (length (universes_in d) ≡ x.universes.len / 2) × (universes_in d ≡ judged d)
copied_universes d x e =
    let here : SpansIn d (Discovery x) = subst (SpansIn d) e (spans d) in
    let h = here.3 in
    let same : universes_in d ≡ listed_at d x.universes = ap (λ (y : Packet). listed_at d (universes_span y)) (sym (read d) ∙ e) in
    let long : length (universes_in d) ≡ length (listed_at d x.universes) = ap length same in
    (omega (arith, h.as_told), same ∙ h.as_judged)
