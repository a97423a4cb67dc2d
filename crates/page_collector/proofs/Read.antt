-- What a datagram that is read as a discovery packet says of its page. Assumes nothing.
use Rattle.std.proofs.Common.{◌≡◌, ℕ, ◌+◌, ◌-◌, ◌≤◌, List, [], ◌++◌, length, take, drop, refl, ◌∙◌, arith, length-take}
use Rattle.wire.specs.Bytes.{Bytes}
use Rattle.wire.specs.Fields.{part_of}
use Rattle.wire.proofs.Bytes.{bytes_drop, bytes_take}
use Rattle.refusal.specs.Check.{Test, Check, ◌≤?◌, ◌=?◌, choose, framing, discovery}
use Rattle.refusal.proofs.Tests.{decide, chosen, passed_over, choice}
use Rattle.refusal.proofs.Laws.{All, all_front, all_back, found}
use Rattle.name.specs.Name.{name_field, source_name_checks}
use Rattle.pdu.specs.Head.{head_checks, length_of, vector_of}
use Rattle.pdu.specs.declared.VectorLength.TheVariants.{Four}
use Rattle.pdu.specs.declared.Edition.TheVariants.{E2018}
use Rattle.discovery.specs.Layer.{own_checks, discovery_checks, list_part, count_in}
use Rattle.discovery.specs.Universes.{list_checks}
use Rattle.framing.specs.Data.{data_checks}
use Rattle.extended.specs.Synchronization.{synchronization_checks}
use Rattle.extended.specs.UniverseDiscovery.{discovery_part, start_checks, discovery_framing_checks}
use Rattle.extended.specs.Extended.{kind_checks, extended_checks}
use Rattle.root.specs.Root.{preamble_checks, root_part, root_checks}
use Rattle.packet.specs.Packet.{root_vector, framing_part, framing_checks, packet_checks, record_of, data_record, synchronization_record, discovery_record, extended_record, packet_of}
use Rattle.packet.specs.declared.DiscoveryRecord.{DiscoveryRecord}
use Rattle.packet.specs.declared.Packet.{Packet}
use Rattle.packet.specs.declared.Packet.TheVariants.{Data, Synchronization, Discovery, Refused}

-- what the first of two does not give was given by the second, and its checks hold
the_second : (t : Test) (cs ds : List Check) (a b x : Packet) → (a ≡ x → ⊥) → All (choose t cs ds) × (choose t a b ≡ x) → All ds × (b ≡ x)
the_second t cs ds a b x other g =
    decide t (λ y. absurd (other (chosen t a b y refl ∙ g.1)))
    (λ n. (rw (← passed_over t cs ds n refl) at g.0, passed_over t a b n refl ∙ g.1))

module _ (d : List ℕ) (x : DiscoveryRecord) (e : packet_of d ≡ Discovery x) where
  abbrev p : List ℕ
  p = framing_part d

  abbrev q : List ℕ
  q = discovery_part p (length_of p)

  -- all checks of discovery framing hold, and it is its record
  framed : All (discovery_framing_checks p (length_of p)) × (Discovery (discovery_record p) ≡ Discovery x)
  unfolding packet_of
  framed =
      let outer = preamble_checks d ++ root_checks E2018 (root_part d) in
      let room = length (root_part d) in
      let n = length_of p in
      let heads = head_checks Four framing p in
      let kinds = kind_checks room n (vector_of Four p) in
      let bodies = choose (vector_of Four p =? 1) (synchronization_checks p n) (discovery_framing_checks p n) in
      let all = found Refused (packet_checks d) (record_of d) (Discovery x) (λ r f. let z : ◌≡◌ {A = ℕ} 0 1 = cc in omega arith) e in
      let extended =
      the_second (root_vector d =? 4) (data_checks E2018 p) (extended_checks room p) (Data (data_record p)) (extended_record p) (Discovery x)
      (λ f. let z : ◌≡◌ {A = ℕ} 0 1 = cc in omega arith) (all_back outer (framing_checks d) all.0, all.1) in
      the_second (vector_of Four p =? 1) (synchronization_checks p n) (discovery_framing_checks p n) (Synchronization (synchronization_record p)) (Discovery (discovery_record p)) (Discovery x)
      (λ f. let z : ◌≡◌ {A = ℕ} 0 1 = cc in omega arith) (all_back kinds bodies (all_back heads (kinds ++ bodies) extended.0), extended.1)

  -- the discovery layer's own
  own : All (own_checks q (length_of q) (vector_of Four q))
  own =
      let names = source_name_checks (name_field p) in
      let layer = discovery_checks q in
      let heads = head_checks Four discovery q in
      let mine = own_checks q (length_of q) (vector_of Four q) in
      let lists = list_checks (list_part q) (count_in (length_of q)) in
      all_front mine lists (all_back heads (mine ++ lists) (all_back names layer (all_back (start_checks p (length_of p)) (names ++ layer) framed.0)))

  is : discovery_record p ≡ x
  is = let f = framed.1 in cc

  -- Its page is none past its last, and it has at most 512 universes.
  pub page_within : (x.fields.page ≤ x.fields.last_page) × (x.universes.len ≤ 1024)
  page_within = rw (← is) (omega (arith, own), omega (arith, own))

  -- Its last page's number is a byte of the datagram.
  pub last_small : Bytes d → x.fields.last_page ≤ 255
  last_small b =
      let n = length_of p in
      let r = root_part d in
      let bytes : Bytes q = bytes_take (n - 74) (drop 74 p) (bytes_drop 74 p (bytes_take (length_of r - 22) (drop 22 r) (bytes_drop 22 r (bytes_drop 16 d b)))) in
      rw (← is) (omega (arith, bytes 7))

-- A part is no longer than its span says.
pub part_short : (d : List ℕ) (start len : ℕ) → length (part_of d start len) ≤ len
unfolding part_of
part_short d start len =
    choice (λ (l : List ℕ). length l ≤ len) (start + len ≤? length d) (take len (drop start d)) []
    (λ h. omega (arith, length-take len (drop start d))) (λ h. omega arith)
