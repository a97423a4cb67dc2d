use Rattle.std.specs.Prelude.{ℕ, ◌-◌, List, ◌++◌, length, take, drop, ◌≡◌, Result, Ok, Err, Some}
use mathlib.Core.Path.{refl, sym, ap, ap₂, ◌∙◌}
use native.Mathlib.Omega.{arith}
use Rattle.std.proofs.lemmas.List.{length-drop}
use Rattle.refusal.specs.declared.Refusal.{Refusal}
use Rattle.refusal.specs.Check.{Check}
use Rattle.refusal.proofs.Laws.{read_as}
use Rattle.pdu.specs.declared.Edition.{Edition}
use Rattle.pdu.specs.declared.Edition.TheVariants.{E2018, E2009}
use Rattle.root.specs.Root.{root_part, found_in, root_of}
use Rattle.root.specs.declared.RootLayer.{RootLayer}
use Rattle.root.proofs.Laws.{Within, root_within}
use Rattle.packet.proofs.Laws.{framing_part_lem}
use Rattle.failed_check.specs.Tell.{told_by, told_of, checks_of, outer_checks, framed_checks, Refuses}
use Rattle.failed_check.specs.declared.Fault.{Fault}
use Rattle.failed_check.proofs.Laws.{refused_by, told_back, told_front}
use Rattle.failed_check.proofs.tell.Goals as goal

-- the framing layer's checks, of the part that the root layer leaves
abbrev inner : Edition → List ℕ → RootLayer → List Check
inner edition d l = framed_checks edition l.vector (length (root_part d)) (take (l.end - 22) (drop 22 (root_part d)))

outer-first : (edition : Edition) (d : List ℕ) → checks_of edition d ≡ outer_checks edition d ++ inner edition d (found_in (root_part d))
outer-first E2018 d = refl
outer-first E2009 d = refl

-- the root layer refuses
refuses : (edition : Edition) (d : List ℕ) (r : Refusal) → root_of edition d ≡ Err r → Refuses (outer_checks edition d) r
unfolding root_of
refuses edition d r e = refused_by (outer_checks edition d) (found_in (root_part d)) r e

by-outer : (edition : Edition) (d : List ℕ) (f : Fault) → told_by (outer_checks edition d) ≡ Some f → Some f ≡ told_of edition d
unfolding told_of
by-outer edition d f e =
    sym (ap told_by (outer-first edition d) ∙ told_front (outer_checks edition d) (inner edition d (found_in (root_part d))) f e)

-- it is found, and lies in the datagram
by-inner : (edition : Edition) (d : List ℕ) (l : RootLayer) → root_of edition d ≡ Ok l → told_by (inner edition d l) ≡ told_of edition d
unfolding told_of root_of
by-inner edition d l e =
    let f = read_as (outer_checks edition d) (found_in (root_part d)) l e in
    ap (λ (x : RootLayer). told_by (inner edition d x)) (sym f.1)
    ∙ sym (told_back (outer_checks edition d) (inner edition d (found_in (root_part d))) f.0)
    ∙ ap told_by (sym (outer-first edition d))

inside : (edition : Edition) (d : List ℕ) (l : RootLayer) {x : Result RootLayer Refusal} → x ≡ root_of edition d → x ≡ Ok l → Within d l.end
inside edition d l e f = root_within edition d l (sym e ∙ f)

pub find-check-requires : goal.find-check-requires
find-check-requires c = refuses _ _ _ (sym c.parse.ensures ∙ c.in-Err.is)

pub overflow_add-part : goal.overflow_add-part
overflow_add-part c = omega (arith, inside _ _ _ c.parse.ensures c.in-Ok.is)

pub slice_bounds-part-count : goal.slice_bounds-part-count
slice_bounds-part-count c = omega (arith, inside _ _ _ c.parse.ensures c.in-Ok.is)

pub slice_bounds-part-start : goal.slice_bounds-part-start
slice_bounds-part-start c = omega (arith, inside _ _ _ c.parse.ensures c.in-Ok.is)

pub slice_bounds-part-end : goal.slice_bounds-part-end
slice_bounds-part-end c = omega (arith, inside _ _ _ c.parse.ensures c.in-Ok.is)

pub overflow_sub-datagram : goal.overflow_sub-datagram
overflow_sub-datagram c = omega (arith, inside _ _ _ c.parse.ensures c.in-Ok.is)

pub returns-in-Err : goal.returns-in-Err
returns-in-Err c = by-outer _ _ _ c.find-check.ensures

pub returns-in-Ok : goal.returns-in-Ok
returns-in-Ok c = let d = c.args.datagram.now in
    let l = c.in-Ok.layer in
    let edition = c.args.edition in
    c.tell_framing.ensures
    ∙ ap₂ (λ (whole : ℕ) (p : List ℕ). told_by (framed_checks edition l.vector whole p)) (sym (length-drop 16 d)) (framing_part_lem d l.end)
    ∙ by-inner edition d l (sym c.parse.ensures ∙ c.in-Ok.is)
