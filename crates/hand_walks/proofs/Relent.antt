-- A `&κ mut [T]` is lent on to a call, as a `&κ' mut [T]` for a lifetime of that call's own, and comes back with the call's last list. `Denote/Lend.antt` has this of a `&mut T`; here it is of a slice, of any type.
--     LentAgain        what is kept while the slice is away under the name γ₁: the lender's part at κ', and the own borrow at κ, open, with both halves of its ghost variable
--     lends_again      own (the `&κ mut [T]` at ((b, o), γ, ys)) ∗ [κ]_q  ⊢ ⇛ ∃ γ₁. own (the `&κ' mut [T]` at ((b, o), γ₁, ys)) ∗ LentAgain γ₁
--     comes_back       where there is `Room` and zs is as long as ys:  [†κ'] ∗ LentAgain γ₁ ∗ finally γ₁ zs  ⊢ ⇛ (own (the `&κ mut [T]` at ((b, o), γ, zs)) ∗ [κ]_q)
--     Relends          what a call does that takes the slice so, and else only what is carried by value: it asks for the slice, and answers some r and last list zs, of which P
--     relends          a contract that takes only that, and ensures P, does
--     calls_relent     such a call as a step: whoever holds the slice has it again afterwards, with that list
-- Assumes `Logic`.
use mathlib.Core.Path.{◌≡◌, sym, ap, subst}
use Prim.Native.Nat.{ℕ}
use mathlib.Core.List.{List, [], ◌∷◌}
use lib.ListN.{length}
use seplogic.Ra.Ura.{Ura}
use base.Fraction.{full_share}
use mir.Syntax.{Lifetime, Callee, Place, Opd as Operand, Body, seq, call, named}
use mir.Val.{Val}
use base.Logic.{SProp, ent, sep, ex, emp, guard_i}
use base.Fml.{Lft, GName, Share, Fml, ftrue, fsep, feq, flft, fdead, fobs, fauth, flent, fbor, fobor}
use prog.Wp.{Calls, Loops, Env}
use types.Logic.{Logic, sem}
use contract.Monad.{fact}
use sound.WpLaws.{FmC}
use types.Kit.{Item, Post, runs, lands, Seq, ‵, raw, ◌⊛◌, some, later, ◌$◌, ◌∵◌, !, qed, move, keep, use0, use1, use2, use3, drop, split, join, pick, fsplit, fjoin, feq_l, frame, await, updating, now as at_once, show, done}
use types.Run.{Opds}
use types.SemTy.{cells, Arr}
use types.Tokens.{lft_new, lft_end}
use denote.RattleType.{RattleType, Denots, owns}
use denote.Shadow.{pure_l, pure_i}
use denote.Memory.{mem}
use denote.Ref.{MutBor}
use denote.Slice.{slice_val, MutSlice, heres, Room, finally, mut_slice_at, coded_holeys}
use denote.Lend.{Held, lends_slice, slice_back}
use denote.Index.{row, whole_out, whole_in, opens_slice, closes_slice}
use denote.Steps.{nothing, heard}
use denote.Triple.Statement.{Contract, Triple}
use denote.Triple.Call.{calls_at}
use Rattle.hand_walks.proofs.Carried.{Carried, Carry, Carries, rows, vals as values, Nothings, nothings, all_owned, lands_as}

module _ (R : RattleType) (κ κ' : Lft) (q : Share) (γ : GName) (b o : ℕ) where
  abbrev at_list : GName → List R.Denot → MutBor (List R.Denot)
  at_list δ ys = record { ref_ptr = (b, o); ghost_name = δ; now = ys }

  abbrev pub LentAgain : GName → List R.Denot → Fml
  LentAgain γ₁ ys = fsep (flent κ' (Held R (length ys) b o γ₁)) (fsep (fobor κ q (Held R (length ys) b o γ)) (fsep (fobs γ ((coded_holeys R).code (heres R ys))) (fauth γ ((coded_holeys R).code (heres R ys)))))

  module _ {M : Type 1} {𝓤 : Ura M} (𝓛 : Logic 𝓤) (ℓ ℓ' : Lifetime) (ys : List R.Denot) where
    open 𝓛 use {H, A}

    abbrev vals : List Val
    vals = slice_val (b, o) (length ys) ∷ []

    pub lends_again : ent 𝓤 (sep 𝓤 (sem 𝓛 ((MutSlice ℓ κ R).own_val (at_list γ ys) vals)) (A.lft κ q))
        (H.⇛ (ex 𝓤 (λ (γ₁ : GName). sep 𝓤 (sem 𝓛 ((MutSlice ℓ' κ' R).own_val (at_list γ₁ ys) vals)) (sem 𝓛 (LentAgain γ₁ ys)))))
    lends_again =
        qed 𝓛 (‵ ((MutSlice ℓ κ R).own_val (at_list γ ys) vals) ∷ ‵ (flft κ q) ∷ []) ∵ updating ! $ fsplit ! $ pure_l ! (mut_slice_at R (at_list γ ys) vals) (λ p. fsplit ! $ opens_slice ! tt R ys b o $
        use1 𝓛 (‵ (cells (mem R) ys b o)) (whole_in 𝓛 R ys b o) $
        use1 𝓛 (later (some (λ (γ₁ : GName). ‵ ((MutSlice ℓ' κ' R).own_val (at_list γ₁ ys) vals) ⊛ ‵ (flent κ' (Held R (length ys) b o γ₁))))) (lends_slice 𝓛 R ℓ' κ' ys b o p.1) $ await ! tt $ pick ! (λ γ₁. split ! $
        -- [the slice that is lent; the lender's part; the own borrow, open; obs γ; auth γ]
        at_once ! $ show ! (λ (γ' : GName). sep 𝓤 (sem 𝓛 ((MutSlice ℓ' κ' R).own_val (at_list γ' ys) vals)) (sem 𝓛 (LentAgain γ' ys))) γ₁ $ frame ! $
        move ! (2 ∷ 3 ∷ []) $ fjoin ! $ move ! (2 ∷ 0 ∷ []) $ fjoin ! $ move ! (1 ∷ 0 ∷ []) $ fjoin ! $ done !))

    pub comes_back : (γ₁ : GName) (zs : List R.Denot) → Room R (length ys) → length zs ≡ length ys
        → ent 𝓤 (sep 𝓤 (A.dead κ') (sep 𝓤 (sem 𝓛 (LentAgain γ₁ ys)) (sem 𝓛 (finally R γ₁ zs)))) (H.⇛ (sep 𝓤 (sem 𝓛 ((MutSlice ℓ κ R).own_val (at_list γ zs) vals)) (A.lft κ q)))
    comes_back γ₁ zs room e =
        qed 𝓛 (‵ (fdead κ') ∷ ‵ (LentAgain γ₁ ys) ∷ ‵ (finally R γ₁ zs) ∷ []) ∵ updating ! $ move ! (1 ∷ []) $ fsplit ! $ move ! (2 ∷ 0 ∷ 3 ∷ []) $
        use3 𝓛 (later (‵ ((Arr (mem R) (length ys)).own_at zs b o))) (slice_back 𝓛 R κ' γ₁ zs (length ys) b o) $ await ! tt $ fsplit ! $ drop ! $ use1 𝓛 (‵ (row R full_share zs b o)) (whole_out 𝓛 R zs b o) $
        move ! (1 ∷ []) $ fsplit ! $ move ! (1 ∷ []) $ fsplit ! $ move ! (3 ∷ 2 ∷ 0 ∷ 1 ∷ []) $ closes_slice ! tt R ys zs e b o $ at_once ! $
        fjoin ! $ pure_i ! (mut_slice_at R (at_list γ zs) vals) (tt, (tt, tt)) (ap (λ (m : ℕ). slice_val (b, o) m ∷ []) (sym e), subst (Room R) (sym e) room) $ fjoin ! $ done !

module _ (E : RattleType) (b o : ℕ) (ys : List E.Denot) where
  abbrev lent : GName → List E.Denot → MutBor (List E.Denot)
  lent δ zs = record { ref_ptr = (b, o); ghost_name = δ; now = zs }

  abbrev slice : Val
  slice = slice_val (b, o) (length ys)

  module _ {M : Type 1} {𝓤 : Ura M} (𝓛 : Logic 𝓤) where
    open 𝓛 use {H, A}

    pub record Relends (pre : ℕ → GName → SProp 𝓤) (post : ℕ → GName → Val → SProp 𝓤) (R : Carried) (P : R.row.Denot → List E.Denot → Type 0) : Type 2 where
      pub asks : (ν : ℕ) (δ : GName) → ent 𝓤 (sep 𝓤 (A.lft (ν ∷ []) full_share) (sem 𝓛 ((MutSlice (named 0) (ν ∷ []) E).own_val (lent δ ys) (slice ∷ [])))) (pre ν δ)
      pub gives : (ν : ℕ) (δ : GName) (w : Val) → ent 𝓤 (post ν δ w) (H.⇛ (ex 𝓤 (λ (r : R.row.Denot). ex 𝓤 (λ (zs : List E.Denot).
          sep 𝓤 (A.lft (ν ∷ []) full_share) (sep 𝓤 (sem 𝓛 (R.row.own_val r (w ∷ []))) (sep 𝓤 (sem 𝓛 (finally E δ zs)) (fact 𝓤 ((length zs ≡ length ys) × P r zs))))))))

    module _ (Ts : List Carried) (a : Denots (rows Ts)) (R : Carried) (P : R.row.Denot → List E.Denot → Type 0) where
      abbrev Asks : ℕ → GName → SProp 𝓤
      Asks ν δ = sep 𝓤 (sep 𝓤 (sep 𝓤 (A.lft (ν ∷ []) full_share) (emp 𝓤)) (sem 𝓛 (owns (MutSlice (named 0) (ν ∷ []) E ∷ rows Ts) (lent δ ys, a) (slice ∷ [], values Ts a)))) (emp 𝓤)

      -- beside the last list there is the borrow, closed: it is let go
      abbrev Ends : ℕ → GName → List E.Denot × Nothings Ts → Fml
      Ends ν δ z = fsep (fsep (fsep (finally E δ z.0) (feq ℕ (length z.0) (length ys))) (fbor (ν ∷ []) (Held E (length ys) b o δ))) (nothings Ts z.1)

      abbrev Leaves : ℕ → GName → Val → SProp 𝓤
      Leaves ν δ w = H.⇛ (ex 𝓤 (λ (r : R.row.Denot). sep 𝓤 (sep 𝓤 (sep 𝓤 (A.lft (ν ∷ []) full_share) (emp 𝓤)) (sem 𝓛 (R.row.own_val r (w ∷ []))))
          (ex 𝓤 (λ (z : List E.Denot × Nothings Ts). sep 𝓤 (sem 𝓛 (Ends ν δ z)) (fact 𝓤 (P r z.0))))))

      pub relends : Carries Ts a → Relends Asks Leaves R P
      relends is = record {
        asks = λ ν δ. qed 𝓛 (‵ (flft (ν ∷ []) full_share) ∷ ‵ ((MutSlice (named 0) (ν ∷ []) E).own_val (lent δ ys) (slice ∷ [])) ∷ []) ∵ nothing ! $ move ! (1 ∷ 0 ∷ []) $ join ! $ move ! (1 ∷ []) $
            use0 𝓛 (‵ (owns (rows Ts) a (values Ts a))) (all_owned 𝓛 Ts a is) $ move ! (1 ∷ 0 ∷ []) $ fjoin ! $ move ! (1 ∷ 0 ∷ []) $ join ! $ frame ! $ done !;
        gives = λ ν δ w. qed 𝓛 (later (some (λ (r : R.row.Denot). ((‵ (flft (ν ∷ []) full_share) ⊛ ‵ ftrue) ⊛ ‵ (R.row.own_val r (w ∷ []))) ⊛ some (λ (z : List E.Denot × Nothings Ts). ‵ (Ends ν δ z) ⊛ raw (fact 𝓤 (P r z.0))))) ∷ []) ∵
            updating ! $ await ! tt $ pick ! (λ r. split ! $ split ! $ split ! $ move ! (3 ∷ []) $ pick ! (λ z. split ! $ fsplit ! $ fsplit ! $ move ! (1 ∷ []) $ drop ! $ fsplit ! $ move ! (1 ∷ []) $ feq_l ! (λ l.
            move ! (2 ∷ []) $ heard ! (P r z.0) (λ p. use0 𝓛 (raw (fact 𝓤 ((length z.0 ≡ length ys) × P r z.0))) (guard_i 𝓤 ((length z.0 ≡ length ys) × P r z.0) (emp 𝓤) (l, p)) $
            -- [the facts; the last list; nothing; the token; true; the result]
            keep ! (3 ∷ 5 ∷ 1 ∷ 0 ∷ []) $ at_once ! $
            show ! (λ (r' : R.row.Denot). ex 𝓤 (λ (zs : List E.Denot). sep 𝓤 (A.lft (ν ∷ []) full_share) (sep 𝓤 (sem 𝓛 (R.row.own_val r' (w ∷ []))) (sep 𝓤 (sem 𝓛 (finally E δ zs)) (fact 𝓤 ((length zs ≡ length ys) × P r' zs)))))) r $
            show ! (λ (zs : List E.Denot). sep 𝓤 (A.lft (ν ∷ []) full_share) (sep 𝓤 (sem 𝓛 (R.row.own_val r (w ∷ []))) (sep 𝓤 (sem 𝓛 (finally E δ zs)) (fact 𝓤 ((length zs ≡ length ys) × P r zs))))) z.0 $ done !))));
      }

  module _ {M : Type 1} {𝓤 : Ura M} {𝓛 : Logic 𝓤} {K : Type 0} {Γ : List (Item 𝓤)} {En : Env 𝓤 𝓛.H} {C : Calls 𝓤 𝓛.H} {Λ : Loops 𝓤 𝓛.H} {t : Post 𝓤 𝓛.H} {d : Place} {rest : Body} where
    open 𝓛 use {H}

    pub calls_relent : K → FmC 𝓤 H 𝓛.laws C → {f : Callee} {xs : List Operand} {κ : Lft} {q : Share} {γ : GName} (c : Contract 𝓤) → Triple 𝓤 (C f) c → (x : ℕ → GName → c.Ghost) (R : Carried) (P : R.row.Denot → List E.Denot → Type 0)
        → Relends 𝓛 (λ ν δ. c.pre (x ν δ)) (λ ν δ. c.post (x ν δ)) R P → Room E (length ys)
        → ((ν : ℕ) (δ : GName) → Opds K 𝓛 (raw (c.pre (x ν δ)) ∷ ‵ (LentAgain E κ (ν ∷ []) q γ b o δ ys) ∷ Γ) En xs (c.args (x ν δ)))
        → ((r : R.row.Denot) (zs : List E.Denot) → P r zs → length zs ≡ length ys → Carry R r → Seq K 𝓛 (‵ ((MutSlice (named 0) κ E).own_val (lent γ zs) (slice ∷ [])) ∷ ‵ (flft κ q) ∷ Γ) (lands C Λ En d (R.val r) rest t))
        → Seq K 𝓛 (‵ ((MutSlice (named 0) κ E).own_val (lent γ ys) (slice ∷ [])) ∷ ‵ (flft κ q) ∷ Γ) (runs C Λ En (seq (call f xs d) rest) t)
    calls_relent g fm {f} {xs} {κ} {q} {γ} c known x R P rel room os k =
        lft_new g tt (λ ν. move g (1 ∷ 2 ∷ []) $
        use2 𝓛 (later (some (λ (δ : GName). ‵ ((MutSlice (named 0) (ν ∷ []) E).own_val (lent δ ys) (slice ∷ [])) ⊛ ‵ (LentAgain E κ (ν ∷ []) q γ b o δ ys)))) (lends_again E κ (ν ∷ []) q γ b o 𝓛 (named 0) (named 0) ys) $ await g tt $ pick g (λ δ. split g $
        move g (2 ∷ 0 ∷ []) $ use2 𝓛 (raw (c.pre (x ν δ))) (rel.asks ν δ) $
        -- [what the callee asks; what is kept; …]
        calls_at g fm c known (x ν δ) (os ν δ) (λ w.
        use1 𝓛 (later (some (λ (r : R.row.Denot). some (λ (zs : List E.Denot). ‵ (flft (ν ∷ []) full_share) ⊛ (‵ (R.row.own_val r (w ∷ [])) ⊛ (‵ (finally E δ zs) ⊛ raw (fact 𝓤 ((length zs ≡ length ys) × P r zs)))))))) (rel.gives ν δ w) $
        await g tt $ pick g (λ r. pick g (λ zs. split g $ move g (1 ∷ []) $ split g $ move g (1 ∷ []) $ split g $ move g (1 ∷ []) $ heard g ((length zs ≡ length ys) × P r zs) (λ p.
        -- [the last list; the result; the token; what is kept; …]
        move g (2 ∷ []) $ lft_end g tt $ move g (0 ∷ 3 ∷ 1 ∷ []) $
        use3 𝓛 (later (‵ ((MutSlice (named 0) κ E).own_val (lent γ zs) (slice ∷ [])) ⊛ ‵ (flft κ q))) (comes_back E κ (ν ∷ []) q γ b o 𝓛 (named 0) (named 0) ys δ zs room p.0) $ await g tt $ split g $
        move g (2 ∷ []) $ lands_as g R r w (λ is. k r zs p.1 p.0 is)))))))
