-- At the told byte stands what the told value says: each check's value is read of a part of the datagram, and stands in the datagram where the
-- part's bytes stand. Assumes nothing.
use Prim.Native.Nat.{ℕ, zero, suc, ◌+◌, ◌-◌, ◌*◌, ◌/◌, ◌%◌, ◌≤◌, ◌<◌}
use mathlib.Core.Path.{◌≡◌, refl, ap, subst, ◌∙◌}
use mathlib.Core.List.{List, ◌++◌}
use native.Mathlib.Omega.{arith}
use lib.ListN.{length, take, drop, length-take, length-drop}
use lib.Seq.{get_or-take, get_or-drop}
use Rattle.wire.specs.Fields.{byte_at, u16_at, u32_at}
use Rattle.refusal.specs.declared.Refusal.{Refusal}
use Rattle.refusal.specs.Check.{Check, Test, start_of, root, framing, dmp, discovery, ◌=?◌, choose}
use Rattle.refusal.proofs.Tests.{Holds, choice}
use Rattle.refusal.proofs.Laws.{Each, each_++, each_computed}
use Rattle.name.specs.Name.{name_field, source_name_checks}
use Rattle.name.proofs.Good.{every_named}
use Rattle.pdu.specs.Head.{head_checks, length_of, vector_of}
use Rattle.pdu.specs.declared.VectorLength.{VectorLength}
use Rattle.pdu.specs.declared.VectorLength.TheVariants.{One, Four}
use Rattle.pdu.specs.declared.Edition.{Edition}
use Rattle.pdu.specs.declared.Edition.TheVariants.{E2018, E2009}
use Rattle.dmp.specs.Layer as dmpLayer
use Rattle.dmp.specs.Layer.{dmp_checks}
use Rattle.discovery.specs.Layer as discoveryLayer
use Rattle.discovery.specs.Layer.{discovery_checks, list_part, count_in}
use Rattle.discovery.specs.Universes.{universes, pairs_from, ascends, told_from, list_checks}
use Rattle.framing.specs.Data as dataLayer
use Rattle.framing.specs.Data.{data_checks, dmp_part, priority_checks, sync_address_checks, universe_checks, rest_checks, field_checks}
use Rattle.extended.specs.Synchronization.{synchronization_checks}
use Rattle.extended.specs.UniverseDiscovery as discoveryFraming
use Rattle.extended.specs.UniverseDiscovery.{discovery_part, discovery_framing_checks}
use Rattle.extended.specs.Extended as extendedLayer
use Rattle.extended.specs.Extended.{kind_checks, extended_checks}
use Rattle.root.specs.Root as rootLayer
use Rattle.root.specs.Root.{preamble_checks, root_part, root_checks, vector_checks}
use Rattle.packet.specs.Packet.{root_vector, framing_part}
use Rattle.failed_check.specs.Tell.{checks_of, told_of, outer_checks, framed_checks}
use Rattle.failed_check.specs.declared.Fault.{Fault}
use Rattle.std.specs.Prelude.{Some}
use Rattle.failed_check.proofs.Bytes.{told_good}
use Rattle.failed_check.proofs.Whole.{told_fails}
use Rattle.demands.specs.There.{there}

module _ (d : List ℕ) where
  -- the bytes of a part are the datagram's, from a byte on
  abbrev pub Stands : ℕ → List ℕ → Type 0
  Stands from p = (k : ℕ) → k < length p → byte_at p k ≡ byte_at d (from + k)

  -- so are its numbers, where it holds them whole
  module _ (from : ℕ) (p : List ℕ) (stands : Stands from p) where
    pub u16_there : (k : ℕ) → k + 1 < length p → u16_at p k ≡ u16_at d (from + k)
    unfolding u16_at
    u16_there k h =
        let next : from + (k + 1) ≡ from + k + 1 = omega arith in
        rw (stands k (omega (arith, h)), stands (k + 1) h, next)

    u32_there : (k : ℕ) → k + 3 < length p → u32_at p k ≡ u32_at d (from + k)
    unfolding u32_at
    u32_there k h =
        let next : from + (k + 2) ≡ from + k + 2 = omega arith in
        rw (u16_there k (omega (arith, h)), u16_there (k + 2) (omega (arith, h)), next)

    pub length_there : 2 ≤ length p → length_of p ≡ u16_at d (from + 0) % 0x1000
    length_there h = ap (λ (n : ℕ). n % 0x1000) (u16_there 0 (omega (arith, h)))

    -- and the bytes of its rest, and of a part of it
    pub rest_stands : (i : ℕ) → Stands (from + i) (drop i p)
    rest_stands i k h =
        let at : from + (i + k) ≡ from + i + k = omega arith in
        get_or-drop i p k 0 ∙ stands (i + k) (omega (arith, h, length-drop i p)) ∙ ap (byte_at d) at

    pub part_stands : (i n : ℕ) → Stands (from + i) (take n (drop i p))
    part_stands i n k h =
        let long = length-take n (drop i p) in
        get_or-take n (drop i p) k 0 (omega (arith, h, long)) ∙ rest_stands i k (omega (arith, h, long))

  pub root_stands : Stands 16 (root_part d)
  root_stands k h = get_or-drop 16 d k 0

  pub framing_stands : Stands 38 (framing_part d)
  framing_stands = part_stands 16 (root_part d) root_stands 22 (length_of (root_part d) - 22)

  -- what a check tells stands at the byte that it tells
  abbrev tells : Check → Test
  tells c = there c.identity.reason d c.identity.byte c.otherwise.value

  abbrev pub There : Check → Type 0
  There c = Holds (tells c)

  head_there : (n : VectorLength) (place : ℕ) (p : List ℕ) → Stands (start_of place) p → Each There (head_checks n place p)
  head_there n place p stands = (λ f. refl, λ h. (λ f. ap (λ (b : ℕ). b / 0x10 * 0x10) (stands 0 (omega (arith, h))), λ t. tt))

  -- The preamble, and the root layer.
  vector_there : (edition : Edition) (vec : ℕ) → vec ≡ u32_at d 18 → Each There (vector_checks edition vec)
  vector_there E2018 vec e = (λ f. e, λ t. tt)
  vector_there E2009 vec e = (λ f. e, λ t. tt)

  outer_there : (edition : Edition) → Each There (outer_checks edition d)
  outer_there edition =
      let p = root_part d in
      let len = length_of p in
      let vec = vector_of Four p in
      let vectors = vector_checks edition vec in
      each_++ There (preamble_checks d) (root_checks edition p) (each_computed tells (preamble_checks d) refl)
      (λ preamble.
      each_++ There (head_checks Four root p) (rootLayer.body_checks edition p len vec) (head_there Four root p root_stands)
      (λ head. (
        λ f. length_there 16 p root_stands (omega (arith, head.0)),
        λ fits.
            each_++ There vectors (rootLayer.cid_checks len) (vector_there edition vec (u32_there 16 p root_stands 2 (omega (arith, head.0))))
            (λ t. each_computed tells (rootLayer.cid_checks len) refl),
      )))

  -- A name is told with how many of its bytes are good, at most 62.
  name_there : (p : List ℕ) → Each There (source_name_checks (name_field p))
  name_there p =
      let few = every_named (λ (r : Refusal). r.value ≤ 62) p (omega arith) (λ n h good. h) in
      (λ f. refl, λ t. (λ f. (few.1 t).0 f, λ h. tt))

  -- The layers, each in its part.
  dmp_there : (p : List ℕ) → Stands 115 p → Each There (dmp_checks p)
  dmp_there p stands =
      let len = length_of p in
      let vec = vector_of One p in
      let start = dmpLayer.start_checks p len vec in
      each_++ There (head_checks One dmp p) (dmpLayer.body_checks p len vec) (head_there One dmp p stands)
      (λ head.
      each_++ There start (dmpLayer.count_checks p len) (
        λ f. length_there 115 p stands (omega (arith, head.0)),
        λ t. (λ f. stands 2 (omega (arith, head.0)), λ t. each_computed tells (drop 2 start) refl),
      )
      (λ t. (
        λ f. refl,
        λ ten.
            let count = u16_there 115 p stands 8 (omega (arith, ten)) in
            (λ f. count, λ t. (λ f. omega (arith, f, count), λ t. (λ f. refl, λ t. tt))),
      )))

  -- the universes behind u, the first of which is told at byte 120 + i: u stands two bytes before it
  order_there : (n i u : ℕ) (l : List ℕ) → u ≡ u16_at d (118 + i) → 2 * n ≤ length l → Stands (120 + i) l →
      Each There (told_from i (pairs_from ascends u (universes n l)))
  unfolding universes
  order_there zero i u l e room stands = tt
  order_there (suc n) i u l e room stands =
      let v = u16_at l 0 in
      let here : v ≡ u16_at d (120 + i) = u16_there (120 + i) l stands 0 (omega (arith, room)) ∙ ap (u16_at d) (omega arith) in
      let before : u ≡ u16_at d (120 + i - 2) = e ∙ ap (u16_at d) (omega arith) in
      let next : 120 + i + 2 ≡ 120 + (i + 2) = omega arith in (
        λ f. (here, omega (arith, f, before)),
        λ t.
            order_there n (i + 2) v (drop 2 l) (here ∙ ap (u16_at d) (omega arith)) (omega (arith, room, length-drop 2 l))
            (subst (λ (from : ℕ). Stands from (drop 2 l)) next (rest_stands (120 + i) l stands 2)),
      )

  pub list_there : (n : ℕ) (l : List ℕ) → Stands 120 l → Each There (list_checks l n)
  unfolding universes
  list_there zero l stands = (λ f. refl, λ t. tt)
  list_there (suc n) l stands = (
    λ f. refl,
    λ room.
        order_there n 2 (u16_at l 0) (drop 2 l) (u16_there 120 l stands 0 (omega (arith, room))) (omega (arith, room, length-drop 2 l))
        (rest_stands 120 l stands 2),
  )

  discovery_there : (p : List ℕ) → Stands 112 p → Each There (discovery_checks p)
  discovery_there p stands =
      let len = length_of p in
      let vec = vector_of Four p in
      let own = discoveryLayer.own_checks p len vec in
      each_++ There (head_checks Four discovery p) (discoveryLayer.body_checks p len vec) (head_there Four discovery p stands)
      (λ head.
      let long : length_of p ≡ u16_at d 112 % 0x1000 = length_there 112 p stands (omega (arith, head.0)) in
      each_++ There own (list_checks (list_part p) (count_in len))
      (λ f. long, λ t. (λ f. u32_there 112 p stands 2 (omega (arith, head.0)), λ t. (λ f. long, λ t. (λ f. refl, λ t. tt))))
      (λ t. list_there (count_in len) (list_part p) (rest_stands 112 p stands 8)))

  module _ (p : List ℕ) (stands : Stands 38 p) where
    address_there : (edition : Edition) → Each There (sync_address_checks edition p)
    address_there E2009 = tt
    address_there E2018 = (λ f. refl, λ h. (λ f. u16_there 38 p stands 71 (omega (arith, h)), λ t. tt))

    data_there : (edition : Edition) → Each There (data_checks edition p)
    data_there edition =
        let len = length_of p in
        let vec = vector_of Four p in
        let q = dmp_part p len in
        let start = dataLayer.start_checks p len vec in
        let named = source_name_checks (name_field p) in
        each_++ There (head_checks Four framing p) (dataLayer.body_checks edition p len vec) (head_there Four framing p stands)
        (λ head.
        each_++ There start (named ++ field_checks edition p len) (
          λ f. length_there 38 p stands (omega (arith, head.0)),
          λ t. (λ f. u32_there 38 p stands 2 (omega (arith, head.0)), λ t. (λ f. refl, λ t. tt)),
        )
        (λ t.
        each_++ There named (field_checks edition p len) (name_there p)
        (λ t.
        each_++ There (priority_checks p) (sync_address_checks edition p ++ rest_checks p len)
        (λ f. refl, λ h. (λ f. stands 70 (omega (arith, h)), λ t. tt))
        (λ t.
        each_++ There (sync_address_checks edition p) (rest_checks p len) (address_there edition)
        (λ t.
        each_++ There (universe_checks p len) (dmp_checks q)
        (λ f. refl, λ t. (λ f. refl, λ t. (λ f. refl, λ h. (λ f. u16_there 38 p stands 75 (omega (arith, h)), λ t. (λ f. refl, λ t. tt)))))
        (λ t. dmp_there q (part_stands 38 p stands 77 (len - 77))))))))

    extended_there : (whole : ℕ) → Each There (extended_checks whole p)
    extended_there whole =
        let len = length_of p in
        let vec = vector_of Four p in
        let q = discovery_part p len in
        let start = discoveryFraming.start_checks p len in
        let named = source_name_checks (name_field p) in
        let sync = synchronization_checks p len in
        let disc = discovery_framing_checks p len in
        each_++ There (head_checks Four framing p) (extendedLayer.body_checks whole p len vec) (head_there Four framing p stands)
        (λ head.
        let long : length_of p ≡ u16_at d 38 % 0x1000 = length_there 38 p stands (omega (arith, head.0)) in
        each_++ There (kind_checks whole len vec) (choose (vec =? 1) sync disc)
        (λ f. long, λ t. (λ f. u32_there 38 p stands 2 (omega (arith, head.0)), λ t. tt))
        (λ t.
        choice (Each There) (vec =? 1) sync disc
        (λ one. (λ f. long, λ fits. (λ f. long, λ eleven. (λ f. u16_there 38 p stands 7 (omega (arith, fits, eleven)), λ t. tt))))
        (λ other.
        each_++ There start (named ++ discovery_checks q) (λ f. long, λ t. (λ f. long, λ t. tt))
        (λ t.
        each_++ There named (discovery_checks q) (name_there p)
        (λ t. discovery_there q (part_stands 38 p stands 74 (len - 74)))))))

  -- All checks of both readers.
  all_there : (edition : Edition) → Each There (checks_of edition d)
  all_there E2009 =
      let p = framing_part d in
      each_++ There (outer_checks E2009 d) (data_checks E2009 p) (outer_there E2009) (λ t. data_there p framing_stands E2009)
  all_there E2018 =
      let p = framing_part d in
      let whole = length (root_part d) in
      each_++ There (outer_checks E2018 d) (framed_checks E2018 (root_vector d) whole p) (outer_there E2018)
      (λ t.
      choice (Each There) (root_vector d =? 4) (data_checks E2018 p) (extended_checks whole p) (λ h. data_there p framing_stands E2018)
      (λ h. extended_there p framing_stands whole))

-- Whatever is told of a datagram, in either edition: the told value is the number of the field that stands at the told byte, or 0 where the reason
-- has none; for a name at most 62; and a universe out of order is not above the one two bytes before it.
pub what_is_there : (edition : Edition) (d : List ℕ) (f : Fault) → told_of edition d ≡ Some f →
    Holds (there f.check.reason d f.check.byte f.refusal.value)
what_is_there edition d f e =
    let x = told_fails edition d f e in
    let good : There d x.here =
    told_good (There d) x.before x.here x.after (subst (Each (There d)) x.cut (all_there d edition)) x.hold x.fails in
    rw x.told good
