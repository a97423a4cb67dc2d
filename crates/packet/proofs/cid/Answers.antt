use Prim.Native.Nat.{ℕ, ◌≤◌}
use mathlib.Core.List.{List, [], append-nil}
use mathlib.Core.Path.{◌≡◌, refl, sym, ap, ◌∙◌}
use native.Mathlib.Omega.{arith}
use lib.ListN.{length, drop, replicate, length-drop}
use lib.Seq.{sets, length-take-le}
use Rattle.refusal.specs.Check.{◌≤?◌}
use Rattle.refusal.proofs.Tests.{chosen, passed_over, decide}
use Rattle.wire.specs.Fields.{part_of}
use Rattle.wire.proofs.Laws.{sets_front}
use Rattle.packet.specs.Packet.{cid_of, cid_in}
use Rattle.packet.proofs.cid.Goals as goal

-- sixteen zeros, over which the CID's part is copied: it is whole or empty
copied : (d : List ℕ) → sets (replicate 16 0) 0 (part_of d 22 16) ≡ cid_in d
unfolding part_of cid_in
copied d =
    let z = replicate {A = ℕ} 16 0 in
    let t = 38 ≤? length d in
    decide t
    (λ h.
    let fits : 16 ≤ length (drop 22 d) = omega (arith, length-drop 22 d) in
    ap (sets z 0) (sym (chosen t (cid_of d) [] h refl))
    ∙ sets_front (cid_of d) z 16 (length-take-le 16 (drop 22 d) fits) (omega arith)
    ∙ append-nil (cid_of d)
    ∙ chosen t (cid_of d) z h refl)
    (λ f. ap (sets z 0) (sym (passed_over t (cid_of d) [] f refl)) ∙ passed_over t (cid_of d) z f refl)

pub returns : goal.returns
returns c = c.copy.ensures ∙ ap (sets (replicate 16 0) 0) c.part.ensures ∙ copied _
