-- A layer's refusal is its own, or that of the layer in it. Assumes nothing.
use Prim.Native.Nat.{ℕ, ◌≤◌, ◌/◌}
use mathlib.Core.Path.{◌≡◌, refl, sym, ap, ◌∙◌}
use mathlib.Core.List.{List, ◌++◌}
use native.Mathlib.Omega.{arith}
use lib.ListN.{length, length-drop}
use Rattle.refusal.specs.declared.Refusal.{Refusal}
use Rattle.refusal.specs.declared.Identity.{Identity}
use Rattle.refusal.specs.Check.{Check, framing, discovery, universe_list, ◌=?◌}
use Rattle.refusal.proofs.Tests.{decide, chosen, passed_over}
use Rattle.refusal.proofs.Laws.{Every, computed, every_map, every_++, all_back}
use Rattle.name.specs.Name.{name_field, source_name_checks}
use Rattle.pdu.specs.Head.{head_checks, length_of, vector_of}
use Rattle.pdu.specs.declared.VectorLength.TheVariants.{Four}
use Rattle.pdu.specs.declared.Edition.{Edition}
use Rattle.pdu.specs.declared.Edition.TheVariants.{E2018, E2009}
use Rattle.dmp.specs.Layer.{dmp_checks}
use Rattle.discovery.specs.Layer.{discovery_checks, own_checks, list_part, count_in}
use Rattle.discovery.specs.Universes.{universes, pairs, ascends, list_checks}
use Rattle.discovery.proofs.Laws.{every_pairs, every_told}
use Rattle.framing.specs.Data.{dmp_part, data_checks, start_checks, priority_checks, sync_address_checks, universe_checks}
use Rattle.extended.specs.Synchronization.{synchronization_checks}
use Rattle.extended.specs.UniverseDiscovery as discoveryFraming
use Rattle.extended.specs.UniverseDiscovery.{discovery_part, discovery_framing_checks}
use Rattle.extended.specs.Extended.{kind_checks, extended_checks}
use Rattle.failed_check.specs.Tell.{told_by, Refuses, Names}
use Rattle.failed_check.proofs.Laws.{behind, before, among}

-- no check of a list is of the place of r
abbrev Elsewhere : List Check → Refusal → Type 0
Elsewhere cs r = Every (λ (s : Refusal). s.place ≡ r.place → ⊥) cs

elsewhere : (p : ℕ) (cs : List Check) (r : Refusal) → Every (λ (s : Refusal). s.place ≡ p) cs → (r.place ≡ p → ⊥) → Elsewhere cs r
elsewhere p cs r here other =
    every_map (λ (s : Refusal). s.place ≡ p) (λ (s : Refusal). s.place ≡ r.place → ⊥) (λ s e f. other (sym f ∙ e)) cs here

-- a list is looked at in place of another, which refuses and tells as it does
abbrev pub Same : List Check → Refusal → List Check → Type 0
Same cs r ds = (told_by cs ≡ told_by ds) × Refuses ds r

-- The data framing layer's own checks, and then the DMP layer's.
abbrev framed : Edition → List ℕ → List Check
framed edition p =
    head_checks Four framing p
    ++ (start_checks p (length_of p) (vector_of Four p)
    ++ (source_name_checks (name_field p) ++ (priority_checks p ++ (sync_address_checks edition p ++ universe_checks p (length_of p)))))

pub in_dmp : (edition : Edition) (p : List ℕ) (r : Refusal) → Refuses (data_checks edition p) r → (r.place ≡ framing → ⊥) →
    (77 ≤ length_of p) × (length_of p ≤ length p) × Same (data_checks edition p) r (dmp_checks (dmp_part p (length_of p)))
in_dmp E2018 p r e other =
    let cs = framed E2018 p in
    let rest = behind cs (dmp_checks (dmp_part p (length_of p))) r e (elsewhere framing cs r (computed (λ (s : Refusal). s.place =? framing) cs refl) other) in
    (omega (arith, rest.0), omega (arith, rest.0), (rest.1, rest.2))
in_dmp E2009 p r e other =
    let cs = framed E2009 p in
    let rest = behind cs (dmp_checks (dmp_part p (length_of p))) r e (elsewhere framing cs r (computed (λ (s : Refusal). s.place =? framing) cs refl) other) in
    (omega (arith, rest.0), omega (arith, rest.0), (rest.1, rest.2))

-- The discovery layer's own checks, and then those of its list.
abbrev pub layered : List ℕ → List Check
layered q = head_checks Four discovery q ++ own_checks q (length_of q) (vector_of Four q)

module _ (q : List ℕ) (r : Refusal) where
  listed : Every (λ (s : Refusal). s.place ≡ universe_list) (list_checks (list_part q) (count_in (length_of q)))
  listed =
      let us = universes (count_in (length_of q)) (list_part q) in
      let P : Refusal → Type 0 = λ (s : Refusal). s.place ≡ universe_list in
      (λ f. refl, λ h. every_told P 2 (pairs ascends us) (every_pairs ascends P us (λ u i. (λ f. refl, λ h. tt))))

  layer : Every (λ (s : Refusal). s.place ≡ discovery) (layered q)
  layer = computed (λ (s : Refusal). s.place =? discovery) (layered q) refl

  pub in_layer : Refuses (discovery_checks q) r → r.place ≡ discovery → Same (discovery_checks q) r (layered q)
  in_layer e here =
      before (layered q) (list_checks (list_part q) (count_in (length_of q))) r e
      (elsewhere universe_list (list_checks (list_part q) (count_in (length_of q))) r listed (omega (arith, here)))

  pub in_list : Refuses (discovery_checks q) r → (r.place ≡ discovery → ⊥) →
      (8 ≤ length q) × Same (discovery_checks q) r (list_checks (list_part q) (length (list_part q) / 2))
  in_list e other =
      let rest = behind (layered q) (list_checks (list_part q) (count_in (length_of q))) r e (elsewhere discovery (layered q) r layer other) in
      let own = all_back (head_checks Four discovery q) (own_checks q (length_of q) (vector_of Four q)) rest.0 in
      let count : count_in (length_of q) ≡ length (list_part q) / 2 = omega (arith, own.0, length-drop 8 q) in
      (omega (arith, own), (rest.1 ∙ ap (λ (n : ℕ). told_by (list_checks (list_part q) n)) count, rw (← count) rest.2))

  elsewhere_framing : r.place ≡ framing → Elsewhere (discovery_checks q) r
  elsewhere_framing here =
      every_++ (λ (s : Refusal). s.place ≡ r.place → ⊥) (layered q) (list_checks (list_part q) (count_in (length_of q)))
      (elsewhere discovery (layered q) r layer (omega (arith, here)))
      (λ a. elsewhere universe_list (list_checks (list_part q) (count_in (length_of q))) r listed (omega (arith, here)))

-- The framing layers under the extended root vector: all checks of a synchronization packet, and those of a discovery packet before its layer.
module _ (whole : ℕ) (p : List ℕ) where
  abbrev pub synchronized : List Check
  synchronized = head_checks Four framing p ++ (kind_checks whole (length_of p) (vector_of Four p) ++ synchronization_checks p (length_of p))

  abbrev pub discovered : List Check
  discovered =
      head_checks Four framing p
      ++ (kind_checks whole (length_of p) (vector_of Four p) ++ (discoveryFraming.start_checks p (length_of p) ++ source_name_checks (name_field p)))

  as_synchronization : vector_of Four p ≡ 1 → extended_checks whole p ≡ synchronized
  as_synchronization h =
      rw (sym (chosen (vector_of Four p =? 1) (synchronization_checks p (length_of p)) (discovery_framing_checks p (length_of p)) h refl))

  as_discovery : (vector_of Four p ≡ 1 → ⊥) → extended_checks whole p ≡ discovered ++ discovery_checks (discovery_part p (length_of p))
  as_discovery h =
      rw (sym (passed_over (vector_of Four p =? 1) (synchronization_checks p (length_of p)) (discovery_framing_checks p (length_of p)) h refl))

  module _ (r : Refusal) (e : Refuses (extended_checks whole p) r) where
    -- at the framing layer
    pub in_extended : (x : Identity) → r.place ≡ framing →
        (vector_of Four p ≡ 1 → Refuses synchronized r → Names synchronized r x) →
        ((vector_of Four p ≡ 1 → ⊥) → Refuses discovered r → Names discovered r x) →
        Names (extended_checks whole p) r x
    in_extended x here sync disc =
        decide (vector_of Four p =? 1)
        (λ h.
        let same = as_synchronization h in
        ap told_by same ∙ sync h (rw same at e))
        (λ h.
        let q = discovery_part p (length_of p) in
        let same = as_discovery h in
        let rest = before discovered (discovery_checks q) r (rw same at e) (elsewhere_framing q r here) in
        ap told_by same ∙ rest.0 ∙ disc h rest.1)

    -- behind it
    pub in_discovery_part : (r.place ≡ framing → ⊥) →
        (82 ≤ length_of p) × (length_of p ≤ length p) × Same (extended_checks whole p) r (discovery_checks (discovery_part p (length_of p)))
    in_discovery_part other =
        decide (vector_of Four p =? 1)
        (λ h.
        absurd (other (among (λ (s : Refusal). s.place =? framing) synchronized r refl (rw (as_synchronization h) at e))))
        (λ h.
        let q = discovery_part p (length_of p) in
        let same = as_discovery h in
        let rest =
        behind discovered (discovery_checks q) r (rw same at e)
        (elsewhere framing discovered r (computed (λ (s : Refusal). s.place =? framing) discovered refl) other) in
        (omega (arith, rest.0), omega (arith, rest.0), (ap told_by same ∙ rest.1, rest.2)))
