-- The told byte lies where request 06 says, and in the datagram, unless what is told is that there are too few bytes: number 1. Assumes nothing.
use Prim.Native.Nat.{ℕ, ◌+◌, ◌*◌, ◌-◌, ◌≤◌, ◌<◌}
use mathlib.Core.Path.{◌≡◌, refl, subst}
use mathlib.Core.Bool.{true}
use mathlib.Core.List.{List, [], ◌∷◌, ◌++◌}
use native.Mathlib.Omega.{arith}
use lib.ListN.{length, drop, length-take, length-drop}
use Rattle.refusal.specs.Check.{Test, Check, discovery, ◌≤?◌, ◌=?◌, ◌and◌, choose}
use Rattle.refusal.proofs.Tests.{Holds, Fails, choice}
use Rattle.refusal.proofs.Laws.{All, Each, each, each_++, each_map, each_computed}
use Rattle.name.specs.Name.{name_field, source_name_checks}
use Rattle.pdu.specs.Head.{head_checks, length_of, vector_of}
use Rattle.pdu.specs.declared.VectorLength.TheVariants.{Four}
use Rattle.pdu.specs.declared.Edition.{Edition}
use Rattle.pdu.specs.declared.Edition.TheVariants.{E2018, E2009}
use Rattle.dmp.specs.Layer as dmpLayer
use Rattle.dmp.specs.Layer.{dmp_checks}
use Rattle.discovery.specs.Layer as discoveryLayer
use Rattle.discovery.specs.Layer.{discovery_checks, list_part, count_in}
use Rattle.discovery.specs.Universes.{universes, pairs, pairs_from, ascends, told_from, list_checks}
use Rattle.discovery.proofs.Laws.{universes_length}
use Rattle.framing.specs.Data as dataLayer
use Rattle.framing.specs.Data.{data_checks, dmp_part, priority_checks, sync_address_checks, universe_checks, rest_checks, field_checks}
use Rattle.extended.specs.Synchronization.{synchronization_checks}
use Rattle.extended.specs.UniverseDiscovery as discoveryFraming
use Rattle.extended.specs.UniverseDiscovery.{discovery_part, discovery_framing_checks}
use Rattle.extended.specs.Extended.{kind_checks, extended_checks}
use Rattle.root.specs.Root.{preamble_checks, root_part, root_checks}
use Rattle.root.proofs.Laws.{within}
use Rattle.packet.specs.Packet.{root_vector, framing_part}
use Rattle.failed_check.specs.Bytes.{lies, number_of}
use Rattle.failed_check.specs.Tell.{checks_of, told_of, outer_checks, framed_checks}
use Rattle.failed_check.specs.declared.Fault.{Fault}
use Rattle.std.specs.Prelude.{Some}
use Rattle.failed_check.proofs.Whole.{told_fails}

-- the byte of a check lies as it is said, and in n bytes, or at their end where the number is 1
pub record Good (n : ℕ) (c : Check) : Type 0 where
  pub numbered : c.otherwise.number ≡ number_of c.identity.reason
  pub said : Holds (lies c.identity.reason c.otherwise.place c.identity.byte)
  pub end : c.identity.byte ≤ n
  pub inside : (c.otherwise.number ≡ 1 → ⊥) → c.identity.byte < n

-- checks with the numbers of their reasons, none of whose bytes is above b, which is computed
abbrev known : ℕ → Check → Test
known b c = c.otherwise.number =? number_of c.identity.reason and lies c.identity.reason c.otherwise.place c.identity.byte and c.identity.byte ≤? b

bounded : (b n : ℕ) (cs : List Check) → b < n → each (known b) cs ≡ true → Each (Good n) cs
bounded b n cs h e =
    each_map (λ (c : Check). Holds (known b c)) (Good n)
    (λ c x. record { numbered = x.0; said = x.1.0; end = omega (arith, x.1.1, h); inside = λ other. omega (arith, x.1.1, h) }) cs
    (each_computed (known b) cs e)

-- a check with the number 1, whose byte is at the end at most
short : (n : ℕ) (c : Check) → c.otherwise.number ≡ number_of c.identity.reason → c.otherwise.number ≡ 1 → c.identity.byte ≤ n →
    Holds (lies c.identity.reason c.otherwise.place c.identity.byte) → Good n c
short n c k e h l = record { numbered = k; said = l; end = h; inside = λ other. absurd (other e) }

-- a check whose byte lies before the end
fine : (n : ℕ) (c : Check) → c.otherwise.number ≡ number_of c.identity.reason →
    Holds (lies c.identity.reason c.otherwise.place c.identity.byte) → c.identity.byte < n → Good n c
fine n c k l h = record { numbered = k; said = l; end = omega (arith, h); inside = λ other. h }

-- all checks but the first
abbrev later : List Check → List Check
later [] = []
later (c ∷ cs) = cs

-- The preamble, and the root layer.
module _ (d : List ℕ) where
  preamble_good : Each (Good (length d)) (preamble_checks d)
  preamble_good = (λ f. short (length d) _ refl refl (omega arith) refl, λ h. bounded 4 (length d) (later (preamble_checks d)) (omega (arith, h)) refl)

  root_good : (edition : Edition) → 16 ≤ length d → Each (Good (length d)) (root_checks edition (root_part d))
  root_good E2018 h =
      (λ f. short (length d) _ refl refl (omega (arith, h)) refl, λ k. bounded 18 (length d) (later (root_checks E2018 (root_part d))) (omega (arith, k, length-drop 16 d)) refl)
  root_good E2009 h =
      (λ f. short (length d) _ refl refl (omega (arith, h)) refl, λ k. bounded 18 (length d) (later (root_checks E2009 (root_part d))) (omega (arith, k, length-drop 16 d)) refl)

-- The layers, over parts that lie in n bytes.
module _ (n : ℕ) where
  dmp_good : (q : List ℕ) → 115 + length q ≤ n → Each (Good n) (dmp_checks q)
  dmp_good q w = (
    λ f. short n _ refl refl (omega (arith, w)) refl,
    λ h. (
      λ f. fine n _ refl refl (omega (arith, h, w)),
      λ h2. (
        λ f. fine n _ refl refl (omega (arith, h, w)),
        λ h3. (
          λ f. fine n _ refl refl (omega (arith, h, w)),
          λ h4. (
            λ f. fine n _ refl refl (omega (arith, h, w)),
            λ four. (
              λ f. fine n _ refl refl (omega (arith, four, w)),
              λ h6. (
                λ f. fine n _ refl refl (omega (arith, h, w)),
                λ six. (
                  λ f. fine n _ refl refl (omega (arith, six, w)),
                  λ h8. (
                    λ f. fine n _ refl refl (omega (arith, h, w)),
                    λ eight. (
                      λ f. fine n _ refl refl (omega (arith, eight, w)),
                      λ h10.
                          (λ f. fine n _ refl refl (omega (arith, h, w)), λ ten. bounded 123 n (later (dmpLayer.count_checks q (length_of q))) (omega (arith, ten, w)) refl),
                    ),
                  ),
                ),
              ),
            ),
          ),
        ),
      ),
    ),
  )

  module _ (p : List ℕ) (w : 38 + length p ≤ n) where
    address_good : (edition : Edition) → 71 ≤ length p → Each (Good n) (sync_address_checks edition p)
    address_good E2009 h = tt
    address_good E2018 h = (λ f. fine n _ refl refl (omega (arith, h, w)), λ k. (λ f. fine n _ refl refl (omega (arith, k, w)), λ t. tt))

    universe_good : (len : ℕ) → 71 ≤ length p → Each (Good n) (universe_checks p len)
    universe_good len h = (
      λ f. fine n _ refl refl (omega (arith, h, w)),
      λ h2. (
        λ f. fine n _ refl refl (omega (arith, h, w)),
        λ h3. (
          λ f. fine n _ refl refl (omega (arith, h, w)),
          λ k.
              (λ f. fine n _ refl refl (omega (arith, k, w)), λ inside. (λ f. fine n _ refl refl (omega (arith, k, w)), λ t. tt)),
        ),
      ),
    )

    data_good : (edition : Edition) → Each (Good n) (data_checks edition p)
    data_good edition =
        let len = length_of p in
        let q = dmp_part p len in
        let named = source_name_checks (name_field p) in
        let start = dataLayer.start_checks p len (vector_of Four p) in (
          λ f. short n _ refl refl (omega (arith, w)) refl,
          λ h. (
            λ f. fine n _ refl refl (omega (arith, h, w)),
            λ flags.
                each_++ (Good n) start (named ++ field_checks edition p len) (bounded 40 n start (omega (arith, h, w)) refl)
                (λ s.
                each_++ (Good n) named (field_checks edition p len) (bounded 44 n named (omega (arith, s.1.1.0, w)) refl)
                (λ names.
                each_++ (Good n) (priority_checks p) (sync_address_checks edition p ++ rest_checks p len)
                (λ f. fine n _ refl refl (omega (arith, h, w)), λ k. (λ f. fine n _ refl refl (omega (arith, k, w)), λ t. tt))
                (λ pr.
                each_++ (Good n) (sync_address_checks edition p) (rest_checks p len) (address_good edition pr.0)
                (λ ad.
                each_++ (Good n) (universe_checks p len) (dmp_checks q) (universe_good len pr.0)
                (λ u. dmp_good q (omega (arith, u.1.1.1.1.0, s.0, w, length-take (len - 77) (drop 77 p), length-drop 77 p))))))),
          ),
        )

    sync_good : (len : ℕ) → 6 ≤ length p → Each (Good n) (synchronization_checks p len)
    sync_good len h = (
      λ f. fine n _ refl refl (omega (arith, h, w)),
      λ fits. (λ f. fine n _ refl refl (omega (arith, h, w)), λ eleven. (λ f. fine n _ refl refl (omega (arith, fits, eleven, w)), λ t. tt)),
    )

  -- from a universe on
  order_good : (i u : ℕ) (us : List ℕ) → 2 ≤ i → 120 + i + 2 * length us ≤ n → Each (Good n) (told_from i (pairs_from ascends u us))
  order_good i u [] least h = tt
  order_good i u (v ∷ vs) least h = (λ f. fine n _ refl (omega (arith, least)) (omega (arith, h)), λ t. order_good (i + 2) v vs (omega (arith, least)) (omega (arith, h)))

  pairs_good : (us : List ℕ) → 120 + 2 * length us ≤ n → Each (Good n) (told_from 2 (pairs ascends us))
  pairs_good [] h = tt
  pairs_good (u ∷ us) h = order_good 2 u us (omega arith) (omega (arith, h))

  discovery_good : (q : List ℕ) → 8 ≤ length q → 112 + length q ≤ n → Each (Good n) (discovery_checks q)
  discovery_good q h w =
      let len = length_of q in
      let head = head_checks Four discovery q in
      let own = discoveryLayer.own_checks q len (vector_of Four q) in
      each_++ (Good n) head (discoveryLayer.body_checks q len (vector_of Four q)) (bounded 112 n head (omega (arith, h, w)) refl)
      (λ a.
      each_++ (Good n) own (list_checks (list_part q) (count_in len)) (bounded 118 n own (omega (arith, h, w)) refl)
      (λ b. (
        λ f. short n _ refl refl (omega (arith, h, w)) refl,
        λ fits. pairs_good (universes (count_in len) (list_part q)) (omega (arith, fits, w, universes_length (count_in len) (list_part q), length-drop 8 q, h)),
      )))

  module _ (p : List ℕ) (w : 38 + length p ≤ n) where
    framed_good : (len : ℕ) → 6 ≤ length p → Each (Good n) (discovery_framing_checks p len)
    framed_good len h =
        let q = discovery_part p len in
        let start = discoveryFraming.start_checks p len in
        let named = source_name_checks (name_field p) in
        each_++ (Good n) start (named ++ discovery_checks q) (bounded 38 n start (omega (arith, h, w)) refl)
        (λ s.
        let e : length q ≡ len - 74 = omega (arith, s.0, s.1.0, length-take (len - 74) (drop 74 p), length-drop 74 p) in
        each_++ (Good n) named (discovery_checks q) (bounded 44 n named (omega (arith, s.0, s.1.0, w)) refl)
        (λ t. discovery_good q (omega (arith, e, s.1.0)) (omega (arith, e, s.0, s.1.0, w))))

    extended_good : (whole : ℕ) → Each (Good n) (extended_checks whole p)
    extended_good whole =
        let len = length_of p in
        let vec = vector_of Four p in
        let kinds = kind_checks whole len vec in (
          λ f. short n _ refl refl (omega (arith, w)) refl,
          λ h. (
            λ f. fine n _ refl refl (omega (arith, h, w)),
            λ flags.
                each_++ (Good n) kinds (choose (vec =? 1) (synchronization_checks p len) (discovery_framing_checks p len)) (bounded 40 n kinds (omega (arith, h, w)) refl)
                (λ a.
                choice (Each (Good n)) (vec =? 1) (synchronization_checks p len) (discovery_framing_checks p len) (λ y. sync_good p w len h) (λ y. framed_good len h)),
          ),
        )

-- All checks of both readers.
module _ (d : List ℕ) where
  framing_good : (edition : Edition) → 38 + length (framing_part d) ≤ length d →
      Each (Good (length d)) (framed_checks edition (root_vector d) (length (root_part d)) (framing_part d))
  framing_good E2009 w = data_good (length d) (framing_part d) w E2009
  framing_good E2018 w =
      let p = framing_part d in
      let whole = length (root_part d) in
      choice (Each (Good (length d))) (root_vector d =? 4) (data_checks E2018 p) (extended_checks whole p) (λ h. data_good (length d) p w E2018)
      (λ h. extended_good (length d) p w whole)

  outer_good : (edition : Edition) → Each (Good (length d)) (outer_checks edition d)
  outer_good edition =
      each_++ (Good (length d)) (preamble_checks d) (root_checks edition (root_part d)) (preamble_good d) (λ a. root_good d edition a.0)

  in_root : (edition : Edition) → All (outer_checks edition d) → 38 + length (framing_part d) ≤ length d
  in_root edition a =
      let len = length_of (root_part d) in
      omega (arith, within edition d a, length-take (len - 22) (drop 22 (root_part d)), length-drop 22 (root_part d), length-drop 16 d)

  all_good : (edition : Edition) → Each (Good (length d)) (checks_of edition d)
  all_good E2018 =
      each_++ (Good (length d)) (outer_checks E2018 d) (framed_checks E2018 (root_vector d) (length (root_part d)) (framing_part d)) (outer_good E2018)
      (λ a. framing_good E2018 (in_root E2018 a))
  all_good E2009 =
      each_++ (Good (length d)) (outer_checks E2009 d) (framed_checks E2009 (root_vector d) (length (root_part d)) (framing_part d)) (outer_good E2009)
      (λ a. framing_good E2009 (in_root E2009 a))

-- what is so of every check of a list is so of the one that is told
pub told_good : (Q : Check → Type 0) (before : List Check) (here : Check) (after : List Check) → Each Q (before ++ (here ∷ after)) → All before → Fails here.test → Q here
told_good Q [] here after e hold fails = e.0 fails
told_good Q (c ∷ cs) here after e hold fails = told_good Q cs here after (e.1 hold.0) hold.1 fails

-- The told number is that of the reason. The told byte lies where request 06 says; it is one of the datagram's, save where number 1 says that there are too few bytes, and then it is at
-- most the first behind them.
pub told_byte : (edition : Edition) (d : List ℕ) (f : Fault) → told_of edition d ≡ Some f →
    (f.refusal.number ≡ number_of f.check.reason)
    × Holds (lies f.check.reason f.refusal.place f.check.byte)
    × (f.check.byte ≤ length d)
    × ((f.refusal.number ≡ 1 → ⊥) → f.check.byte < length d)
told_byte edition d f e =
    let x = told_fails edition d f e in
    let good : Good (length d) x.here =
    told_good (Good (length d)) x.before x.here x.after (subst (Each (Good (length d))) x.cut (all_good d edition)) x.hold x.fails in
    rw x.told (good.numbered, good.said, good.end, good.inside)
