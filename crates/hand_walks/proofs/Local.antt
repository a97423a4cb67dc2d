-- An array that a function has as a local is lent to a call as a `&mut [T]`, and is the function's own again with the call's last list. Of any type.
--     lends_local      the array's cell ∗ what it owns  ⊢ ⇛ ∃ γ. own (the `&κ mut [T]` at ((b, o), γ, xs)) ∗ the lender's part
--     local_back       [†κ] ∗ the lender's part ∗ finally γ zs  ⊢ ⇛ the array in memory, at zs
--     part_out         an array in memory is a cell and what it owns, at some machine value
-- Assumes `Logic`.
use mathlib.Core.Path.{◌≡◌, refl, ◌∙◌}
use Prim.Native.Nat.{ℕ}
use mathlib.Core.List.{List, [], ◌∷◌}
use lib.ListN.{length}
use seplogic.Ra.Ura.{Ura}
use base.Fraction.{full_share}
use mir.Syntax.{Lifetime, ty_array}
use mir.Val.{Val}
use base.Logic.{ent, sep, ex}
use base.Fml.{Lft, GName, Fml, fsep, fat, fdead, flent}
use types.Logic.{Logic, sem}
use types.Kit.{‵, ◌⊛◌, later, ◌$◌, ◌∵◌, !, qed, by, move, use1, use3, drop, rewrite, fsplit, fjoin, fpick, fpack, feq_i, frame, await, updating, now as at_once, show, done}
use types.SemTy.{cells, Arr}
use types.Share.{arr_parts}
use denote.RattleType.{RattleType}
use denote.Laws.{Is, shows}
use denote.Memory.{cell_at, lone, part_at, mem, shares, part_of}
use denote.Array.{Array, array_val}
use denote.ArrayMemory.{Single, Array-apart, Array-whole}
use denote.Slice.{slice_val, MutSlice, Room, finally}
use denote.Lend.{Held, lends_slice, slice_back}
use denote.Index.{row, whole_out, whole_in}
use denote.Steps.{peeks}

module _ (R : RattleType) (n : ℕ) (b o : ℕ) {M : Type 1} {𝓤 : Ura M} (𝓛 : Logic 𝓤) where
  open 𝓛 use {H, A}

  abbrev Cell : Val → Fml
  Cell w = fat full_share (ty_array (lone R.mir) n) b o w

  into_part : (xs : List R.Denot) (w : Val) → ent 𝓤 (sep 𝓤 (sem 𝓛 (Cell w)) (sem 𝓛 ((Array R n).own_val xs (w ∷ [])))) (sem 𝓛 (part_at (Array R n) full_share xs b o))
  unfolding part_of
  into_part xs w =
      qed 𝓛 (‵ (Cell w) ∷ ‵ ((Array R n).own_val xs (w ∷ [])) ∷ []) ∵ use1 𝓛 (‵ (cell_at full_share (Array R n).mir (w ∷ []) b o)) (𝓛.laws.at_raw full_share (ty_array (lone R.mir) n) b o w) $ fjoin ! $
      fpack ! (List Val) (λ vs. fsep (cell_at full_share (Array R n).mir vs b o) ((Array R n).own_val xs vs)) (w ∷ []) $ done !

  pub part_out : (zs : List R.Denot) → ent 𝓤 (sem 𝓛 (part_at (Array R n) full_share zs b o)) (ex 𝓤 (λ (w : Val). sep 𝓤 (sem 𝓛 (Cell w)) (sem 𝓛 ((Array R n).own_val zs (w ∷ [])))))
  unfolding part_of
  part_out zs =
      qed 𝓛 (‵ (part_at (Array R n) full_share zs b o) ∷ []) ∵ fpick ! (λ vs. fsplit ! $ move ! (1 ∷ []) $ peeks ! (Array R n) (Is (Array R n)) (shows 𝓛 (Array R n)) zs vs (λ p.
      rewrite ! 0 (λ (us : List Val). ‵ ((Array R n).own_val zs us)) p.1.0.0 refl $ rewrite ! 1 (λ (us : List Val). ‵ (cell_at full_share (Array R n).mir us b o)) p.1.0.0 refl $
      move ! (1 ∷ []) $ use1 𝓛 (‵ (Cell (array_val p.0))) (𝓛.laws.raw_at full_share (ty_array (lone R.mir) n) b o (array_val p.0)) $
      show ! (λ (w : Val). sep 𝓤 (sem 𝓛 (Cell w)) (sem 𝓛 ((Array R n).own_val zs (w ∷ [])))) (array_val p.0) $ frame ! $ done !))

  pub lends_local : Single R.mir → (ℓ : Lifetime) (κ : Lft) (xs : List R.Denot) (w : Val) → Room R (length xs)
      → ent 𝓤 (sep 𝓤 (sem 𝓛 (Cell w)) (sem 𝓛 ((Array R n).own_val xs (w ∷ []))))
      (H.⇛ (ex 𝓤 (λ (γ : GName). sep 𝓤 (sem 𝓛 ((MutSlice ℓ κ R).own_val (record { ref_ptr = (b, o); ghost_name = γ; now = xs }) (slice_val (b, o) (length xs) ∷ []))) (sem 𝓛 (flent κ (Held R (length xs) b o γ))))))
  lends_local one ℓ κ xs w room =
      qed 𝓛 ((‵ (Cell w) ⊛ ‵ ((Array R n).own_val xs (w ∷ []))) ∷ []) ∵ use1 𝓛 (‵ (part_at (Array R n) full_share xs b o)) (into_part xs w) $
      use1 𝓛 (‵ ((arr_parts (shares R) n).part full_share xs b o)) (Array-apart 𝓛 R full_share one n xs b o) $ fsplit ! $ drop ! $
      use1 𝓛 (‵ (cells (mem R) xs b o)) (whole_in 𝓛 R xs b o) $ by ! (lends_slice 𝓛 R ℓ κ xs b o room)

  pub local_back : (κ : Lft) (γ : GName) (xs zs : List R.Denot) → length xs ≡ n → length zs ≡ length xs
      → ent 𝓤 (sep 𝓤 (A.dead κ) (sep 𝓤 (sem 𝓛 (flent κ (Held R (length xs) b o γ))) (sem 𝓛 (finally R γ zs)))) (H.⇛ (sem 𝓛 (part_at (Array R n) full_share zs b o)))
  local_back κ γ xs zs l e =
      qed 𝓛 (‵ (fdead κ) ∷ ‵ (flent κ (Held R (length xs) b o γ)) ∷ ‵ (finally R γ zs) ∷ []) ∵ updating ! $
      use3 𝓛 (later (‵ ((Arr (mem R) (length xs)).own_at zs b o))) (slice_back 𝓛 R κ γ zs (length xs) b o) $ await ! tt $ fsplit ! $ drop ! $ use1 𝓛 (‵ (row R full_share zs b o)) (whole_out 𝓛 R zs b o) $
      feq_i ! ℕ (length zs) n (e ∙ l) $ fjoin ! $ at_once ! $ by ! (Array-whole 𝓛 R full_share n zs b o)
