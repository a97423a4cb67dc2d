-- The reader's whole behaviour, flat: the list of all checks of a datagram, and what `parse` makes of it. Assumes nothing.
use Prim.Native.Nat.{ℕ, ◌-◌, ◌≤◌}
use mathlib.Core.Path.{◌≡◌, refl, sym, ◌∙◌}
use mathlib.Core.List.{List, [], ◌∷◌, ◌++◌, append-nil}
use mathlib.Core.Logic.{◌⊎◌, inl, inr}
use native.Mathlib.Omega.{arith}
use lib.ListN.{length, drop, get_or, length-take, length-drop}
use Rattle.refusal.specs.declared.Refusal.{Refusal}
use Rattle.refusal.specs.Check.{Check, refusal, root, framing, dmp, discovery, universe_list, ◌=?◌, choose}
use Rattle.refusal.proofs.Tests.{Holds, fact, bounded, chosen, passed_over, choice}
use Rattle.refusal.proofs.Laws.{All, Stops, refusal_at, Every, decides, all_hold, first_fails, all_back, always, every_++, computed}
use Rattle.name.specs.Name.{name_field, source_name_checks}
use Rattle.name.proofs.Good.{every_named}
use Rattle.pdu.specs.Head.{head_checks, flags_of, length_of, vector_of}
use Rattle.pdu.specs.declared.VectorLength.TheVariants.{One, Four}
use Rattle.dmp.specs.Layer as dmpLayer
use Rattle.discovery.specs.Layer as discoveryLayer
use Rattle.discovery.specs.Layer.{list_part, count_in}
use Rattle.discovery.specs.Universes.{universes, pairs, ascends, told_from, list_checks}
use Rattle.discovery.proofs.Laws.{every_pairs, every_told}
use Rattle.pdu.specs.declared.Edition.{Edition}
use Rattle.pdu.specs.declared.Edition.TheVariants.{E2018}
use Rattle.framing.specs.Data as dataLayer
use Rattle.framing.specs.Data.{data_checks, field_checks, dmp_part, priority_checks, sync_address_checks, universe_checks}
use Rattle.extended.specs.Synchronization.{synchronization_checks}
use Rattle.extended.specs.UniverseDiscovery as discoveryFraming
use Rattle.extended.specs.UniverseDiscovery.{discovery_part, discovery_framing_checks}
use Rattle.extended.specs.Extended.{kind_checks, extended_checks}
use Rattle.root.specs.Root.{preamble_checks, root_part, length_checks, vector_checks, cid_checks, root_checks}
use Rattle.packet.specs.Packet.{root_vector, framing_part, framing_checks, packet_checks, record_of, packet_of, with_cid, reading_of, data_record, extended_record, synchronization_record, discovery_record}
use Rattle.packet.specs.Table.{allowed}
use Rattle.packet.specs.declared.Packet.{Packet}
use Rattle.packet.specs.declared.Packet.TheVariants.{Data, Synchronization, Discovery, Refused}

-- A datagram is read as its record where all its checks hold. Else the first check that fails, check k of the list, refuses: those before it hold.
pub whole : (d : List ℕ) →
    (All (packet_checks d) × (packet_of d ≡ record_of d))
    ⊎ ((k : ℕ) × Stops k (packet_checks d) × (packet_of d ≡ Refused (refusal_at k (packet_checks d))))
unfolding packet_of
whole d = by (decides (packet_checks d))
  where
    by : All (packet_checks d) ⊎ ((k : ℕ) × Stops k (packet_checks d)) →
        (All (packet_checks d) × (packet_of d ≡ record_of d))
        ⊎ ((k : ℕ) × Stops k (packet_checks d) × (packet_of d ≡ Refused (refusal_at k (packet_checks d))))
    by (inl a) = inl (a, all_hold Refused (packet_checks d) (record_of d) a)
    by (inr s) = inr (s.0, s.1, first_fails Refused s.0 (packet_checks d) (record_of d) s.1)

-- The CID goes with it, and changes nothing of it.
beside : (d : List ℕ) (x : Packet) → (with_cid d x).packet ≡ x
beside d (Data x) = refl
beside d (Synchronization x) = refl
beside d (Discovery x) = refl
beside d (Refused r) = refl

pub read : (d : List ℕ) → (reading_of d).packet ≡ packet_of d
unfolding reading_of
read d = beside d (packet_of d)

-- groups of checks, one after the other
abbrev pub groups : List (List Check) → List Check
groups [] = []
groups (g ∷ gs) = g ++ groups gs

-- The list of a datagram with root vector 4, a data packet: down to the DMP layer.
pub data_checks_lem : (d : List ℕ) → root_vector d ≡ 4 →
    let r = root_part d in
    let p = framing_part d in
    let q = dmp_part p (length_of p) in
    packet_checks d
    ≡ groups
    (preamble_checks d
    ∷ head_checks Four root r
    ∷ length_checks r (length_of r)
    ∷ vector_checks E2018 (vector_of Four r)
    ∷ cid_checks (length_of r)
    ∷ head_checks Four framing p
    ∷ dataLayer.start_checks p (length_of p) (vector_of Four p)
    ∷ source_name_checks (name_field p)
    ∷ priority_checks p
    ∷ sync_address_checks E2018 p
    ∷ universe_checks p (length_of p)
    ∷ head_checks One dmp q
    ∷ dmpLayer.body_checks q (length_of q) (vector_of One q)
    ∷ [])
data_checks_lem d h = rw (sym (chosen (root_vector d =? 4) (data_checks E2018 (framing_part d)) (extended_checks (length (root_part d)) (framing_part d)) h refl))

module _ (d : List ℕ) (other : root_vector d ≡ 4 → ⊥) where
  extended : packet_checks d ≡ (preamble_checks d ++ root_checks E2018 (root_part d)) ++ extended_checks (length (root_part d)) (framing_part d)
  extended = rw (sym (passed_over (root_vector d =? 4) (data_checks E2018 (framing_part d)) (extended_checks (length (root_part d)) (framing_part d)) other refl))

  -- The list where the root vector is not 4 and the framing vector is 1, a synchronization packet.
  pub synchronization_checks_lem : vector_of Four (framing_part d) ≡ 1 →
      let r = root_part d in
      let p = framing_part d in
      packet_checks d
      ≡ groups
      (preamble_checks d
      ∷ head_checks Four root r
      ∷ length_checks r (length_of r)
      ∷ vector_checks E2018 (vector_of Four r)
      ∷ cid_checks (length_of r)
      ∷ head_checks Four framing p
      ∷ kind_checks (length r) (length_of p) (vector_of Four p)
      ∷ synchronization_checks p (length_of p)
      ∷ [])
  synchronization_checks_lem h =
      let p = framing_part d in
      extended
      ∙ rw (sym (chosen (vector_of Four p =? 1) (synchronization_checks p (length_of p)) (discovery_framing_checks p (length_of p)) h refl))

  -- The list where neither is so, a universe discovery packet: down to the universe list.
  pub discovery_checks_lem : (vector_of Four (framing_part d) ≡ 1 → ⊥) →
      let r = root_part d in
      let p = framing_part d in
      let q = discovery_part p (length_of p) in
      packet_checks d
      ≡ groups
      (preamble_checks d
      ∷ head_checks Four root r
      ∷ length_checks r (length_of r)
      ∷ vector_checks E2018 (vector_of Four r)
      ∷ cid_checks (length_of r)
      ∷ head_checks Four framing p
      ∷ kind_checks (length r) (length_of p) (vector_of Four p)
      ∷ discoveryFraming.start_checks p (length_of p)
      ∷ source_name_checks (name_field p)
      ∷ head_checks Four discovery q
      ∷ discoveryLayer.own_checks q (length_of q) (vector_of Four q)
      ∷ list_checks (list_part q) (count_in (length_of q))
      ∷ [])
  discovery_checks_lem h =
      let p = framing_part d in
      let q = discovery_part p (length_of p) in
      extended
      ∙ rw (
        sym (passed_over (vector_of Four p =? 1) (synchronization_checks p (length_of p)) (discovery_framing_checks p (length_of p)) h refl),
        append-nil (told_from 2 (pairs ascends (universes (count_in (length_of q)) (list_part q)))),
      )

-- What is so of every check of a data framing layer's pieces is so of all its checks. A name is looked at only where its field is whole.
pub each_data : (P : Refusal → Type 0) (edition : Edition) (p : List ℕ) →
    let len = length_of p in
    Every P (head_checks Four framing p ++ dataLayer.start_checks p len (vector_of Four p)) →
    (70 ≤ length p → Every P (source_name_checks (name_field p))) →
    Every P (field_checks edition p len) →
    Every P (data_checks edition p)
each_data P edition p start named fields =
    let head = head_checks Four framing p in
    let own = dataLayer.start_checks p (length_of p) (vector_of Four p) in
    let name = source_name_checks (name_field p) in
    let rest = field_checks edition p (length_of p) in
    every_++ P (head ++ own) (name ++ rest) start (λ a. every_++ P name rest (named (omega (arith, all_back head own a))) (λ b. fields))

-- The same of an extended framing layer. A discovery layer is looked at only where it has at least 8 bytes.
pub each_extended : (P : Refusal → Type 0) (whole : ℕ) (p : List ℕ) →
    let len = length_of p in
    let q = discovery_part p len in
    Every P (head_checks Four framing p ++ kind_checks whole len (vector_of Four p)) →
    Every P (synchronization_checks p len) →
    Every P (discoveryFraming.start_checks p len) →
    (70 ≤ length p → Every P (source_name_checks (name_field p))) →
    (8 ≤ length q → Every P (head_checks Four discovery q ++ discoveryLayer.own_checks q (length_of q) (vector_of Four q))) →
    P (refusal 1 universe_list 0) →
    ((i : ℕ) → P (refusal 12 universe_list (get_or (universes (count_in (length_of q)) (list_part q)) i 0))) →
    Every P (extended_checks whole p)
each_extended P whole p kind sync framed named own short order =
    let len = length_of p in
    let vec = vector_of Four p in
    let q = discovery_part p len in
    let us = universes (count_in (length_of q)) (list_part q) in
    let listed = list_checks (list_part q) (count_in (length_of q)) in
    let layer = head_checks Four discovery q ++ discoveryLayer.own_checks q (length_of q) (vector_of Four q) in
    let list : Every P listed =
    (λ f. short, λ h. every_told P 2 (pairs ascends us) (every_pairs ascends P us (λ u i. (λ f. order i, λ h. tt)))) in
    let begun = discoveryFraming.start_checks p len in
    let name = source_name_checks (name_field p) in
    let disc : Every P (discovery_framing_checks p len) =
    every_++ P begun (name ++ (layer ++ listed)) framed
    (λ b.
    let room : 8 ≤ length q = omega (arith, b, length-take (len - 74) (drop 74 p), length-drop 74 p) in
    every_++ P name (layer ++ listed) (named (omega (arith, b))) (λ c. every_++ P layer listed (own room) (λ e. list))) in
    every_++ P (head_checks Four framing p ++ kind_checks whole len vec) (choose (vec =? 1) (synchronization_checks p len) (discovery_framing_checks p len)) kind
    (λ b. choice (Every P) (vec =? 1) (synchronization_checks p len) (discovery_framing_checks p len) (λ h. sync) (λ f. disc))

-- What is so of every check of each layer is so of every check of a datagram.
pub each_check : (P : Refusal → Type 0) (d : List ℕ) →
    let r = root_part d in
    let p = framing_part d in
    let len = length_of p in
    let q = discovery_part p len in
    Every P (preamble_checks d ++ root_checks E2018 r) →
    Every P (head_checks Four framing p ++ dataLayer.start_checks p len (vector_of Four p)) →
    (70 ≤ length p → Every P (source_name_checks (name_field p))) →
    Every P (field_checks E2018 p len) →
    Every P (head_checks Four framing p ++ kind_checks (length r) len (vector_of Four p)) →
    Every P (synchronization_checks p len) →
    Every P (discoveryFraming.start_checks p len) →
    (8 ≤ length q → Every P (head_checks Four discovery q ++ discoveryLayer.own_checks q (length_of q) (vector_of Four q))) →
    P (refusal 1 universe_list 0) →
    ((i : ℕ) → P (refusal 12 universe_list (get_or (universes (count_in (length_of q)) (list_part q)) i 0))) →
    Every P (packet_checks d)
each_check P d outer start named fields kind sync framed own short order =
    let p = framing_part d in
    let whole = length (root_part d) in
    every_++ P (preamble_checks d ++ root_checks E2018 (root_part d)) (framing_checks d) outer
    (λ a.
    choice (Every P) (root_vector d =? 4) (data_checks E2018 p) (extended_checks whole p)
    (λ h. each_data P E2018 p start named fields) (λ f. each_extended P whole p kind sync framed named own short order))

-- What is so of every check's refusal, and of the record of each kind, is so of the answer.
pub each_answer : (P : Packet → Type 0) (d : List ℕ) →
    let p = framing_part d in
    Every (λ (r : Refusal). P (Refused r)) (packet_checks d) →
    P (Data (data_record p)) →
    P (Synchronization (synchronization_record p)) →
    P (Discovery (discovery_record p)) →
    P (packet_of d)
unfolding packet_of
each_answer P d checks values sync disc =
    let p = framing_part d in
    always Refused P (packet_checks d) (record_of d) checks
    (choice P (root_vector d =? 4) (Data (data_record p)) (extended_record p) (λ h. values)
    (λ f. choice P (vector_of Four p =? 1) (Synchronization (synchronization_record p)) (Discovery (discovery_record p)) (λ h. sync) (λ f. disc)))

-- What every check's refusal has, a refusal of the reader has.
module _ (P : Refusal → Type 0) (d : List ℕ) where
  abbrev Told : Packet → Type 0
  Told (Data x) = Unit {0}
  Told (Synchronization x) = Unit {0}
  Told (Discovery x) = Unit {0}
  Told (Refused r) = P r

  pub refused_with : (r : Refusal) → Every P (packet_checks d) → packet_of d ≡ Refused r → P r
  refused_with r all e =
      let answer : Told (packet_of d) = each_answer Told d all tt tt tt in
      rw e at answer

abbrev Allowed : Refusal → Type 0
Allowed r = Holds (allowed r)

-- The checks of a name in its field, which both editions have, tell what document 01's table has.
pub name_tabled : (p : List ℕ) → Every Allowed (source_name_checks (name_field p))
name_tabled p =
    every_named Allowed p (fact (allowed (refusal 6 framing 0)))
    (λ n few g. bounded (allowed (refusal 7 framing n)) n 62 refl few)

-- And so do all checks of a datagram.
tabled : (d : List ℕ) → Every Allowed (packet_checks d)
tabled d =
    let r = root_part d in
    let p = framing_part d in
    let len = length_of p in
    let vec = vector_of Four p in
    let q = discovery_part p len in
    let us = universes (count_in (length_of q)) (list_part q) in
    let head = head_checks Four discovery q in
    let own = discoveryLayer.own_checks q (length_of q) (vector_of Four q) in
    each_check Allowed d
    (computed allowed (preamble_checks d ++ root_checks E2018 r) refl)
    (computed allowed (head_checks Four framing p ++ dataLayer.start_checks p len vec) refl)
    (λ room. name_tabled p)
    (computed allowed (field_checks E2018 p len) refl)
    (computed allowed (head_checks Four framing p ++ kind_checks (length r) len vec) refl)
    (computed allowed (synchronization_checks p len) refl)
    (computed allowed (discoveryFraming.start_checks p len) refl)
    (λ room.
    every_++ Allowed head own (λ f. absurd (omega (arith, f, room)), λ h. (λ f. fact (allowed (refusal 3 discovery (flags_of q))), λ h. tt))
    (λ a. computed allowed own refl))
    (fact (allowed (refusal 1 universe_list 0)))
    (λ i. fact (allowed (refusal 12 universe_list (get_or us i 0))))

-- A refusal has a number and a place of document 01's table, the value 0 where the table names none, and at most 62 for 7.
pub refusals : (d : List ℕ) (r : Refusal) → packet_of d ≡ Refused r → Holds (allowed r)
refusals d r e = refused_with Allowed d r (tabled d) e
