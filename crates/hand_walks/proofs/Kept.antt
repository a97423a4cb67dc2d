-- The lending laws where many calls in turn leave a list as long as it was: the machine's length n stays one number.
--     Loan                 a `&mut` slice as it is lent to a function: lifetime, share of its token, place, name, list
--     Own, Passed, Owed    what the function owns of it, what a call for the lifetime ν is handed, and what is kept meanwhile
--     lends, comes         it is lent on to a call, and comes back
--     lends_array, home    an array in a local is lent, and comes home with its machine value
use mathlib.Core.Path.{◌≡◌, refl, sym, ap, subst, ◌∙◌}
use Prim.Native.Nat.{ℕ}
use mathlib.Core.List.{List, [], ◌∷◌}
use lib.ListN.{length}
use seplogic.Ra.Ura.{Ura}
use base.Fraction.{full_share}
use mir.Syntax.{Lifetime, ty_array}
use mir.Val.{Val}
use base.Logic.{ent, sep, ex, guard}
use base.Fml.{Lft, GName, Share, Fml, fat, fdead, flent}
use types.Logic.{Logic, sem}
use types.Kit.{‵, ◌⊛◌, some, later, ◌$◌, ◌∵◌, !, qed, by, move, use1, use3, rewrite, split, pick, await, updating, now as at_once, check, done}
use denote.RattleType.{RattleType}
use denote.Laws.{Is, Tells, Makes, shows}
use denote.Memory.{lone, part_at}
use denote.Array.{Array, array_vals, Array-Tells, Array-Makes}
use denote.ArrayMemory.{Single}
use denote.Ref.{MutBor}
use denote.Slice.{slice_val, MutSlice, Room, finally}
use denote.Lend.{Held}
use denote.Steps.{only, owned, facts}
use Rattle.hand_walks.proofs.Relent.{LentAgain, lends_again, comes_back}
use Rattle.hand_walks.proofs.Local.{lends_local, local_back, part_out}

-- a lent list, under its name
abbrev pub lent : {X : Type 0} → ℕ × ℕ → GName → List X → MutBor (List X)
lent p δ ys = record { ref_ptr = p; ghost_name = δ; now = ys }

module _ (R : RattleType) (ℓ : Lifetime) (b o n : ℕ) where
  -- what a slice of n elements owns
  abbrev pub Slice : Lft → GName → List R.Denot → Fml
  Slice κ γ ys = (MutSlice ℓ κ R).own_val (lent (b, o) γ ys) (slice_val (b, o) n ∷ [])

pub record Loan (R : RattleType) : Type 0 where
  pub κ : Lft
  pub q : Share
  pub b : ℕ
  pub o : ℕ
  pub γ : GName
  pub ys : List R.Denot
  pub room : Room R (length ys)

module _ {R : RattleType} (x : Loan R) where
  abbrev pub size : ℕ
  size = length x.ys

  abbrev pub word : Val
  word = slice_val (x.b, x.o) size

  abbrev pub Own : Lifetime → List R.Denot → Fml
  Own ℓ ys = Slice R ℓ x.b x.o size x.κ x.γ ys

  abbrev pub Passed : Lifetime → ℕ → GName → List R.Denot → Fml
  Passed ℓ ν δ ys = Slice R ℓ x.b x.o size (ν ∷ []) δ ys

  abbrev pub Owed : ℕ → GName → List R.Denot → Fml
  Owed ν δ ys = LentAgain R x.κ (ν ∷ []) x.q x.γ x.b x.o δ ys

module _ {R : RattleType} {M : Type 1} {𝓤 : Ura M} (𝓛 : Logic 𝓤) (ℓ ℓ' : Lifetime) (x : Loan R) (ν : ℕ) (ys : List R.Denot) (e : length ys ≡ size x) where
  open 𝓛 use {H, A}

  pub lends : ent 𝓤 (sep 𝓤 (sem 𝓛 (Own x ℓ ys)) (A.lft x.κ x.q)) (H.⇛ (ex 𝓤 (λ (δ : GName). sep 𝓤 (sem 𝓛 (Passed x ℓ' ν δ ys)) (sem 𝓛 (Owed x ν δ ys)))))
  lends =
      subst (λ (m : ℕ). ent 𝓤 (sep 𝓤 (sem 𝓛 (Slice R ℓ x.b x.o m x.κ x.γ ys)) (A.lft x.κ x.q)) (H.⇛ (ex 𝓤 (λ (δ : GName). sep 𝓤 (sem 𝓛 (Slice R ℓ' x.b x.o m (ν ∷ []) δ ys)) (sem 𝓛 (Owed x ν δ ys)))))) e
      (lends_again R x.κ (ν ∷ []) x.q x.γ x.b x.o 𝓛 ℓ ℓ' ys)

  pub comes : (δ : GName) (zs : List R.Denot) → length zs ≡ length ys →
      ent 𝓤 (sep 𝓤 (A.dead (ν ∷ [])) (sep 𝓤 (sem 𝓛 (Owed x ν δ ys)) (sem 𝓛 (finally R δ zs)))) (H.⇛ (sep 𝓤 (sem 𝓛 (Own x ℓ zs)) (A.lft x.κ x.q)))
  comes δ zs l =
      subst (λ (m : ℕ). ent 𝓤 (sep 𝓤 (A.dead (ν ∷ [])) (sep 𝓤 (sem 𝓛 (Owed x ν δ ys)) (sem 𝓛 (finally R δ zs)))) (H.⇛ (sep 𝓤 (sem 𝓛 (Slice R ℓ x.b x.o m x.κ x.γ zs)) (A.lft x.κ x.q)))) e
      (comes_back R x.κ (ν ∷ []) x.q x.γ x.b x.o 𝓛 ℓ ℓ' ys δ zs (subst (Room R) (sym e) x.room) l)

-- the cell of an array
abbrev Cell : RattleType → ℕ → ℕ → ℕ → Val → Fml
Cell R n b o w = fat full_share (ty_array (lone R.mir) n) b o w

module _ (R : RattleType) (vals : R.Denot → List Val) (n b o : ℕ) {M : Type 1} {𝓤 : Ura M} (𝓛 : Logic 𝓤) (κ : Lft) (xs : List R.Denot) (e : length xs ≡ n) where
  open 𝓛 use {H, A}

  pub lends_array : Single R.mir → Makes 𝓛 R (Is R) → (ℓ : Lifetime) → Room R n → Is (Array R n) xs (array_vals vals xs) →
      ent 𝓤 (sem 𝓛 (Cell R n b o (only (array_vals vals xs)))) (H.⇛ (ex 𝓤 (λ (δ : GName). sep 𝓤 (sem 𝓛 (Slice R ℓ b o n κ δ xs)) (sem 𝓛 (flent κ (Held R (length xs) b o δ))))))
  lends_array one mk ℓ room is =
      subst (λ (m : ℕ). ent 𝓤 (sem 𝓛 (Cell R n b o (only (array_vals vals xs)))) (H.⇛ (ex 𝓤 (λ (δ : GName). sep 𝓤 (sem 𝓛 (Slice R ℓ b o m κ δ xs)) (sem 𝓛 (flent κ (Held R (length xs) b o δ))))))) e
      (qed 𝓛 (‵ (Cell R n b o (only (array_vals vals xs))) ∷ []) ∵ owned ! (Array R n) (Is (Array R n)) (Array-Makes 𝓛 R mk n) xs (array_vals vals xs) is $ move ! (1 ∷ 0 ∷ []) $
      by ! (lends_local R n b o 𝓛 one ℓ κ xs (only (array_vals vals xs)) (subst (Room R) (sym e) room)))

  pub home : Tells R (Is R) vals → (δ : GName) (zs : List R.Denot) → length zs ≡ n →
      ent 𝓤 (sep 𝓤 (A.dead κ) (sep 𝓤 (sem 𝓛 (flent κ (Held R (length xs) b o δ))) (sem 𝓛 (finally R δ zs))))
      (H.⇛ (guard 𝓤 (Is (Array R n) zs (array_vals vals zs)) (sem 𝓛 (Cell R n b o (only (array_vals vals zs))))))
  home tell δ zs l =
      qed 𝓛 (‵ (fdead κ) ∷ ‵ (flent κ (Held R (length xs) b o δ)) ∷ ‵ (finally R δ zs) ∷ []) ∵ updating ! $ use3 𝓛 (later (‵ (part_at (Array R n) full_share zs b o))) (local_back R n b o 𝓛 κ δ xs zs e (l ∙ sym e)) $ await ! tt $
      use1 𝓛 (some (λ (w : Val). ‵ (Cell R n b o w) ⊛ ‵ ((Array R n).own_val zs (w ∷ [])))) (part_out R n b o 𝓛 zs) $ pick ! (λ w. split ! $ move ! (1 ∷ []) $
      facts ! (Array R n) (Is (Array R n)) (shows 𝓛 (Array R n)) zs (w ∷ []) (λ is.
      let same : w ∷ [] ≡ array_vals vals zs = Array-Tells R vals tell n zs (w ∷ []) is in
      rewrite ! 0 (λ (u : Val). ‵ (Cell R n b o u)) (ap only same) refl $ at_once ! $ check ! (subst (Is (Array R n) zs) same is) $ done !))
