-- What is told to be wrong is wrong with the datagram: each check asks a part of the datagram, and of the datagram's own numbers the same is so.
-- Assumes nothing.
use Prim.Native.Nat.{ℕ, ◌+◌, ◌-◌, ◌≤◌}
use mathlib.Core.Path.{◌≡◌, refl, sym, ap, subst, ◌∙◌}
use mathlib.Core.List.{List, [], ◌∷◌, ◌++◌}
use native.Mathlib.Omega.{arith}
use lib.ListN.{length, take, drop, length-take, length-drop}
use Rattle.refusal.specs.Check.{Check, Numbered, root, framing, dmp, discovery, ◌=?◌, choose}
use Rattle.refusal.proofs.Tests.{Holds, choice}
use Rattle.refusal.proofs.Laws.{All, Each, each_++}
use Rattle.name.specs.Name.{name_field, text_of, zero_at, source_name_checks}
use Rattle.name.proofs.Laws.{text_length}
use Rattle.name.proofs.Good.{good_bytes}
use Rattle.pdu.specs.Head.{head_checks, length_of, vector_of, size_of}
use Rattle.pdu.specs.declared.VectorLength.{VectorLength}
use Rattle.pdu.specs.declared.VectorLength.TheVariants.{One, Four}
use Rattle.pdu.specs.declared.Edition.{Edition}
use Rattle.pdu.specs.declared.Edition.TheVariants.{E2018, E2009}
use Rattle.dmp.specs.Layer as dmpLayer
use Rattle.dmp.specs.Layer.{dmp_checks}
use Rattle.discovery.specs.Layer as discoveryLayer
use Rattle.discovery.specs.Layer.{discovery_checks, list_part, count_in}
use Rattle.discovery.specs.Universes.{universes, pairs, ascends, told_from, list_checks}
use Rattle.framing.specs.Data as dataLayer
use Rattle.framing.specs.Data.{data_checks, dmp_part, priority_checks, sync_address_checks, universe_checks, rest_checks, field_checks}
use Rattle.extended.specs.Synchronization.{synchronization_checks}
use Rattle.extended.specs.UniverseDiscovery as discoveryFraming
use Rattle.extended.specs.UniverseDiscovery.{discovery_part, discovery_framing_checks}
use Rattle.extended.specs.Extended as extendedLayer
use Rattle.extended.specs.Extended.{kind_checks, extended_checks}
use Rattle.root.specs.Root as rootLayer
use Rattle.root.specs.Root.{preamble_checks, root_part, root_checks, vector_checks}
use Rattle.root.proofs.Laws.{within}
use Rattle.packet.specs.Packet.{root_vector, framing_part}
use Rattle.failed_check.specs.Tell.{checks_of, told_of, outer_checks, framed_checks}
use Rattle.failed_check.specs.declared.Fault.{Fault}
use Rattle.std.specs.Prelude.{Some}
use Rattle.failed_check.proofs.Bytes.{told_good}
use Rattle.failed_check.proofs.Whole.{told_fails}
use Rattle.finding_text.specs.Numbers.{length_at, room_at, head_at}
use Rattle.demands.specs.Wrong.{wrong}
use Rattle.demands.proofs.GoodBytes.{field_at}
use Rattle.demands.proofs.There.{Stands, There, u16_there, length_there, part_stands, rest_stands, root_stands, framing_stands, list_there}

module _ (d : List ℕ) where
  -- what a check tells to be wrong is wrong
  abbrev Wrong : Check → Type 0
  Wrong c = Holds (wrong c.identity.reason d c.otherwise.place c.identity.byte c.otherwise.value)

  head_wrong : (n : VectorLength) (place : ℕ) (p : List ℕ) → length p ≡ room_at d place → 2 + size_of n ≡ head_at place →
      Each Wrong (head_checks n place p)
  head_wrong n place p room head = (λ f. omega (arith, f, room, head), λ t. (λ f. f, λ t. tt))

  -- The preamble, and the root layer.
  vector_wrong : (edition : Edition) (vec : ℕ) → Each Wrong (vector_checks edition vec)
  vector_wrong E2018 vec = (λ f. f, λ t. tt)
  vector_wrong E2009 vec = (λ f. f, λ t. tt)

  outer_wrong : (edition : Edition) → Each Wrong (outer_checks edition d)
  outer_wrong edition =
      let p = root_part d in
      let len = length_of p in
      let vec = vector_of Four p in
      let vectors = vector_checks edition vec in
      let room : length p ≡ room_at d root = length-drop 16 d in
      each_++ Wrong (preamble_checks d) (root_checks edition p)
      (λ f. omega (arith, f), λ t. (λ f. f, λ t. (λ f. f, λ t. (λ f. f, λ t. tt))))
      (λ preamble.
      each_++ Wrong (head_checks Four root p) (rootLayer.body_checks edition p len vec) (head_wrong Four root p room refl)
      (λ head.
      let long : len ≡ length_at d 16 = length_there d 16 p (root_stands d) (omega (arith, head.0)) in (
        λ f. omega (arith, f, room),
        λ fits. each_++ Wrong vectors (rootLayer.cid_checks len) (vector_wrong edition vec) (λ t. (λ f. omega (arith, f, long), λ t. tt)),
      )))

  -- A name whose field is there.
  name_wrong : (p : List ℕ) → 70 ≤ length p → name_field p ≡ take 64 (drop 44 d) → Each Wrong (source_name_checks (name_field p))
  name_wrong p h same =
      let field = name_field p in
      let ends : zero_at field ≡ zero_at (take 64 (drop 44 d)) = ap zero_at same in (
        λ f. omega (arith, f, ends, length-take 64 (drop 6 p), length-drop 6 p, h),
        λ ended. (λ f. omega (arith, (good_bytes (text_of field) f).1, text_length field, ends), λ t. tt),
      )

  -- The layers, each in its part.
  dmp_wrong : (p : List ℕ) → Stands d 115 p → length p ≡ room_at d dmp → Each Wrong (dmp_checks p)
  dmp_wrong p stands room =
      let len = length_of p in
      let vec = vector_of One p in
      let start = dmpLayer.start_checks p len vec in
      let word = u16_there d 115 p stands in
      each_++ Wrong (head_checks One dmp p) (dmpLayer.body_checks p len vec) (head_wrong One dmp p room refl)
      (λ head.
      let long : len ≡ length_at d 115 = length_there d 115 p stands (omega (arith, head.0)) in
      each_++ Wrong start (dmpLayer.count_checks p len) (
        λ f. omega (arith, f, room),
        λ t. (
          λ f. f,
          λ t. (
            λ f. omega (arith, f, room),
            λ four. (
              λ f e. f (stands 3 (omega (arith, four)) ∙ e),
              λ t. (
                λ f. omega (arith, f, four, room),
                λ six. (
                  λ f e. f (word 4 (omega (arith, six)) ∙ e),
                  λ t. (λ f. omega (arith, f, six, room), λ eight. (λ f e. f (word 6 (omega (arith, eight)) ∙ e), λ t. tt)),
                ),
              ),
            ),
          ),
        ),
      )
      (λ s. (
        λ f. omega (arith, f, s.1.1.1.1.1.1.0, room),
        λ ten.
            let count = word 8 (omega (arith, ten)) in
            (λ f e. f (e ∙ sym long), λ t. (λ f. omega (arith, f, count), λ t. (λ f. omega (arith, f, count), λ t. tt))),
      )))

  -- a universe that is told stands where it is told, two bytes behind one that it is not above
  order_wrong : (i : ℕ) (cs : List Numbered) → Each (There d) (told_from i cs) → Each Wrong (told_from i cs)
  order_wrong i [] h = tt
  order_wrong i (c ∷ cs) h = (λ f. (h.0 f).1, λ t. order_wrong (i + 2) cs (h.1 t))

  discovery_wrong : (p : List ℕ) → Stands d 112 p → length p ≡ room_at d discovery → 8 ≤ length p → Each Wrong (discovery_checks p)
  discovery_wrong p stands room eight =
      let len = length_of p in
      let vec = vector_of Four p in
      let l = list_part p in
      let own = discoveryLayer.own_checks p len vec in
      each_++ Wrong (head_checks Four discovery p) (discoveryLayer.body_checks p len vec) (head_wrong Four discovery p room refl)
      (λ head.
      each_++ Wrong own (list_checks l (count_in len)) (
        λ f e. f (e ∙ sym room),
        λ same. (
          λ f. f,
          λ t. (
            λ f. omega (arith, f (omega (arith, eight, same))),
            λ t. (λ f. omega (arith, f, stands 6 (omega (arith, eight)), stands 7 (omega (arith, eight))), λ t. tt),
          ),
        ),
      )
      (λ s. (
        λ f. omega (arith, f, s.0, eight, length-drop 8 p),
        λ fits.
            order_wrong 2 (pairs ascends (universes (count_in len) l))
            ((list_there d (count_in len) l (rest_stands d 112 p stands 8)).1 fits),
      )))

  module _ (p : List ℕ) (stands : Stands d 38 p) (room : length p ≡ room_at d framing) (field : 70 ≤ length p → name_field p ≡ take 64 (drop 44 d)) where
    address_wrong : (edition : Edition) → 71 ≤ length p → Each Wrong (sync_address_checks edition p)
    address_wrong E2009 h = tt
    address_wrong E2018 h = (λ f. omega (arith, f, h, room), λ t. (λ f. omega (arith, f), λ t. tt))

    data_wrong : (edition : Edition) → Each Wrong (data_checks edition p)
    data_wrong edition =
        let len = length_of p in
        let vec = vector_of Four p in
        let q = dmp_part p len in
        let start = dataLayer.start_checks p len vec in
        let named = source_name_checks (name_field p) in
        each_++ Wrong (head_checks Four framing p) (dataLayer.body_checks edition p len vec) (head_wrong Four framing p room refl)
        (λ head.
        let long : len ≡ length_at d 38 = length_there d 38 p stands (omega (arith, head.0)) in
        each_++ Wrong start (named ++ field_checks edition p len)
        (λ f. omega (arith, f, room), λ t. (λ f. f, λ t. (λ f. omega (arith, f, room), λ t. tt)))
        (λ s.
        let seventy = s.1.1.0 in
        each_++ Wrong named (field_checks edition p len) (name_wrong p seventy (field seventy))
        (λ t.
        each_++ Wrong (priority_checks p) (sync_address_checks edition p ++ rest_checks p len)
        (λ f. omega (arith, f, seventy, room), λ t. (λ f. omega (arith, f), λ t. tt))
        (λ pr.
        each_++ Wrong (sync_address_checks edition p) (rest_checks p len) (address_wrong edition pr.0)
        (λ t.
        each_++ Wrong (universe_checks p len) (dmp_checks q) (
          λ f. omega (arith, f, pr.0, room),
          λ h. (
            λ f. omega (arith, f, h, room),
            λ h. (λ f. omega (arith, f, h, room), λ t. (λ f n. omega (arith, f (omega (arith, n))), λ t. (λ f. omega (arith, f, long), λ t. tt))),
          ),
        )
        (λ u.
        dmp_wrong q (part_stands d 38 p stands 77 (len - 77))
        (omega (arith, u.1.1.1.1.0, s.0, long, length-take (len - 77) (drop 77 p), length-drop 77 p))))))))

    extended_wrong : (whole : ℕ) → whole ≡ room_at d root → Each Wrong (extended_checks whole p)
    extended_wrong whole all =
        let len = length_of p in
        let vec = vector_of Four p in
        let q = discovery_part p len in
        let start = discoveryFraming.start_checks p len in
        let named = source_name_checks (name_field p) in
        let sync = synchronization_checks p len in
        let disc = discovery_framing_checks p len in
        each_++ Wrong (head_checks Four framing p) (extendedLayer.body_checks whole p len vec) (head_wrong Four framing p room refl)
        (λ head.
        let long : len ≡ length_at d 38 = length_there d 38 p stands (omega (arith, head.0)) in
        each_++ Wrong (kind_checks whole len vec) (choose (vec =? 1) sync disc) (λ f. omega (arith, f, all), λ t. (λ f. f, λ t. tt))
        (λ t.
        choice (Each Wrong) (vec =? 1) sync disc
        (λ one. (λ f. omega (arith, f, room), λ t. (λ f. f, λ t. (λ f n. omega (arith, f (omega (arith, n))), λ t. tt))))
        (λ other.
        each_++ Wrong start (named ++ discovery_checks q) (λ f. omega (arith, f, room), λ t. (λ f. omega (arith, f), λ t. tt))
        (λ s.
        let own : length q ≡ len - 74 = omega (arith, s.0, s.1.0, length-take (len - 74) (drop 74 p), length-drop 74 p) in
        let seventy : 70 ≤ length p = omega (arith, s.0, s.1.0) in
        each_++ Wrong named (discovery_checks q) (name_wrong p seventy (field seventy))
        (λ t. discovery_wrong q (part_stands d 38 p stands 74 (len - 74)) (omega (arith, own, long)) (omega (arith, own, s.1.0)))))))

  -- What an accepted root layer says of the framing layer's part.
  module _ (edition : Edition) (outer : All (outer_checks edition d)) where
    framing_long : length (framing_part d) ≡ length_of (root_part d) - 22
    framing_long =
        let len = length_of (root_part d) in
        omega (arith, within edition d outer, length-take (len - 22) (drop 22 (root_part d)), length-drop 22 (root_part d), length-drop 16 d)

    framing_room : length (framing_part d) ≡ room_at d framing
    framing_room =
        let long : length_of (root_part d) ≡ length_at d 16 =
        length_there d 16 (root_part d) (root_stands d) (omega (arith, within edition d outer, length-drop 16 d)) in
        omega (arith, framing_long, long)

  -- All checks of both readers.
  all_wrong : (edition : Edition) → Each Wrong (checks_of edition d)
  all_wrong E2009 =
      let p = framing_part d in
      each_++ Wrong (outer_checks E2009 d) (data_checks E2009 p) (outer_wrong E2009)
      (λ a. data_wrong p (framing_stands d) (framing_room E2009 a) (field_at d) E2009)
  all_wrong E2018 =
      let p = framing_part d in
      let whole = length (root_part d) in
      each_++ Wrong (outer_checks E2018 d) (framed_checks E2018 (root_vector d) whole p) (outer_wrong E2018)
      (λ a.
      let room = framing_room E2018 a in
      choice (Each Wrong) (root_vector d =? 4) (data_checks E2018 p) (extended_checks whole p) (λ h. data_wrong p (framing_stands d) room (field_at d) E2018)
      (λ h. extended_wrong p (framing_stands d) room (field_at d) whole (length-drop 16 d)))

-- Whatever fault is told of a datagram, in either edition: what its reason says is so of the datagram's own numbers.
pub what_is_wrong : (edition : Edition) (d : List ℕ) (f : Fault) → told_of edition d ≡ Some f →
    Holds (wrong f.check.reason d f.refusal.place f.check.byte f.refusal.value)
what_is_wrong edition d f e =
    let x = told_fails edition d f e in
    let good : Wrong d x.here =
    told_good (Wrong d) x.before x.here x.after (subst (Each (Wrong d)) x.cut (all_wrong d edition)) x.hold x.fails in
    rw x.told good
