-- A `&κ mut [T]` is lent to a call as a `&κ' [T]`, for a lifetime of that call's own, and comes back as it went. Of any type T that a `&` can be made of: `ShareLaw` is `Denote/Shares.antt`'s law, at a lifetime l that κ is within.
-- A declared type has it from its `TheLaws`: `Denote/Param/Shared.antt`'s `struct_shares` or `enum_shares` at `the_shared`, with l the type's `lives`, and `the_within κ`.
--     LentShared       what is kept meanwhile: the lender's part at κ', the own borrow at κ, open, which holds one half of κ's token, the other half, and both halves of its ghost variable
--     lends_shared     own (the `&κ mut [T]` at ((b, o), γ, ys)) ∗ [κ]_q ∗ [κ']_s  ⊢ ⇛ (own (the `&κ' [T]` at ((b, o), ys)) ∗ LentShared ∗ [κ']_s)
--     shared_back      where there is `Room`:  [†κ'] ∗ LentShared  ⊢ ⇛ (own (the `&κ mut [T]` at ((b, o), γ, ys)) ∗ [κ]_q)
--     Shares           what a call does that takes the slice so, and else only what is carried by value: it asks for the slice, and answers some r, of which P
--     lends            a contract that takes only that, and ensures P, does
--     calls_shared     such a call as a step: whoever holds the slice has it again afterwards
-- Assumes `Logic`.
use mathlib.Core.Path.{refl}
use Prim.Native.Nat.{ℕ}
use mathlib.Core.List.{List, [], ◌∷◌}
use lib.ListN.{length}
use seplogic.Ra.Ura.{Ura}
use base.Fraction.{full_share}
use mir.Syntax.{Lifetime, Callee, Place, Opd as Operand, Body, seq, call, named}
use mir.Val.{Val}
use base.Logic.{SProp, ent, sep, ex, emp}
use base.Share
use base.Fml.{Lft, GName, Share, Fml, Incl, Incl-trans, ftrue, fsep, flft, fdead, fobs, fauth, flent, fobor}
use prog.Wp.{Calls, Loops, Env}
use types.Logic.{Logic, sem}
use contract.Monad.{fact}
use contract.BorrowLft.{meet_⊑_left, meet_⊑_right}
use sound.WpLaws.{FmC}
use types.Kit.{Item, Post, runs, lands, Seq, ‵, raw, ◌⊛◌, some, later, ◌$◌, ◌∵◌, !, qed, move, keep, use0, use1, use2, use3, drop, split, join, pick, fsplit, fjoin, feq_i, frame, await, updating, now as at_once, show, done}
use types.Run.{Opds}
use types.Tokens.{lent_back, lft_new, lft_end}
use types.Share.{arr_parts}
use denote.RattleType.{RattleType, Denots, owns}
use denote.Shadow.{pure_l, pure_i}
use denote.Memory.{shares}
use denote.Shares.{Shares as ShareLaw}
use denote.Ref.{Bor, MutBor}
use denote.Slice.{slice_val, MutSlice, ShrSlice, heres, Room, mut_slice_at, coded_holeys}
use denote.Lend.{Held, lends_shr_slice}
use denote.Index.{opens_slice, closes_slice}
use denote.Steps.{nothing, heard}
use denote.Triple.Statement.{Contract, Triple}
use denote.Triple.Call.{calls_at}
use Rattle.hand_walks.proofs.Carried.{Carried, Carry, Carries, rows, vals as values, Nothings, nothings, all_owned, lands_as}

module _ (R : RattleType) (κ κ' : Lft) (q : Share) (γ : GName) (b o : ℕ) where
  abbrev at_list : GName → List R.Denot → MutBor (List R.Denot)
  at_list δ ys = record { ref_ptr = (b, o); ghost_name = δ; now = ys }

  abbrev read_list : List R.Denot → Bor (List R.Denot)
  read_list ys = record { ref_ptr = (b, o); now = ys }

  abbrev All : List R.Denot → Fml
  All ys = (arr_parts (shares R) (length ys)).part full_share ys b o

  abbrev pub LentShared : List R.Denot → Fml
  LentShared ys = fsep (flent κ' (All ys))
      (fsep (fsep (fobor κ (Share.left q) (Held R (length ys) b o γ)) (flft κ (Share.right q))) (fsep (fobs γ ((coded_holeys R).code (heres R ys))) (fauth γ ((coded_holeys R).code (heres R ys)))))

  module _ {M : Type 1} {𝓤 : Ura M} (𝓛 : Logic 𝓤) (ℓ ℓ' : Lifetime) (ys : List R.Denot) where
    open 𝓛 use {H, A}

    abbrev vals : List Val
    vals = slice_val (b, o) (length ys) ∷ []

    pub lends_shared : (l : Lft) → ShareLaw 𝓛 R l → Incl κ l → (s : Share) → ent 𝓤 (sep 𝓤 (sem 𝓛 ((MutSlice ℓ κ R).own_val (at_list γ ys) vals)) (sep 𝓤 (A.lft κ q) (A.lft κ' s)))
        (H.⇛ (sep 𝓤 (sem 𝓛 ((ShrSlice ℓ' κ' R).own_val (read_list ys) vals)) (sep 𝓤 (sem 𝓛 (LentShared ys)) (A.lft κ' s))))
    lends_shared l law in_l s =
        qed 𝓛 (‵ ((MutSlice ℓ κ R).own_val (at_list γ ys) vals) ∷ ‵ (flft κ q) ∷ ‵ (flft κ' s) ∷ []) ∵ updating ! $ fsplit ! $ pure_l ! (mut_slice_at R (at_list γ ys) vals) (λ p. fsplit ! $
        move ! (2 ∷ []) $ use1 𝓛 (‵ (flft κ (Share.left q)) ⊛ ‵ (flft κ (Share.right q))) (𝓛.lfts.lft_split κ q) $ split ! $ move ! (2 ∷ 3 ∷ 0 ∷ []) $ opens_slice ! tt R ys b o $
        feq_i ! ℕ (length ys) (length ys) refl $ fjoin ! $
        -- [the list in memory; the own borrow, open; obs γ; auth γ; the other half of κ's token; κ's token]
        move ! (0 ∷ 5 ∷ 4 ∷ []) $ use3 𝓛 (later ((‵ ((ShrSlice ℓ' κ' R).own_val (read_list ys) vals) ⊛ ‵ (flent κ' (All ys))) ⊛ (‵ (flft κ' s) ⊛ ‵ (flft κ (Share.right q)))))
        (lends_shr_slice 𝓛 R ℓ' κ' full_share ys b o p.1 l law ((κ', s) ∷ (κ, Share.right q) ∷ []) (Incl-trans (meet_⊑_right κ' κ) in_l) (meet_⊑_left κ' κ)) $ await ! tt $ split ! $ split ! $
        -- [the slice that is lent; the lender's part; the tokens; the own borrow, open; obs γ; auth γ]
        at_once ! $ frame ! $ move ! (1 ∷ []) $ split ! $ move ! (4 ∷ 5 ∷ []) $ fjoin ! $ move ! (4 ∷ 2 ∷ []) $ fjoin ! $ fjoin ! $ move ! (2 ∷ 0 ∷ []) $ fjoin ! $ done !)

    pub shared_back : Room R (length ys) → ent 𝓤 (sep 𝓤 (A.dead κ') (sem 𝓛 (LentShared ys))) (H.⇛ (sep 𝓤 (sem 𝓛 ((MutSlice ℓ κ R).own_val (at_list γ ys) vals)) (A.lft κ q)))
    shared_back room =
        qed 𝓛 (‵ (fdead κ') ∷ ‵ (LentShared ys) ∷ []) ∵ updating ! $ move ! (1 ∷ []) $ fsplit ! $ move ! (2 ∷ 0 ∷ []) $ lent_back ! tt $ fsplit ! $ drop ! $
        -- [the list in memory; the own borrow, open, with half of κ's token, obs γ and auth γ]
        move ! (1 ∷ []) $ fsplit ! $ fsplit ! $ move ! (2 ∷ []) $ fsplit ! $ move ! (4 ∷ 2 ∷ 0 ∷ 1 ∷ []) $ closes_slice ! tt R ys ys refl b o $
        at_once ! $ move ! (2 ∷ 3 ∷ []) $ use2 𝓛 (‵ (flft κ q)) (𝓛.lfts.lft_join κ q) $ move ! (1 ∷ 2 ∷ []) $
        fjoin ! $ pure_i ! (mut_slice_at R (at_list γ ys) vals) (tt, (tt, tt)) (refl, room) $ fjoin ! $ done !

module _ (E : RattleType) (b o : ℕ) (ys : List E.Denot) where
  abbrev lent : GName → MutBor (List E.Denot)
  lent δ = record { ref_ptr = (b, o); ghost_name = δ; now = ys }

  abbrev read : Bor (List E.Denot)
  read = record { ref_ptr = (b, o); now = ys }

  abbrev slice : Val
  slice = slice_val (b, o) (length ys)

  module _ {M : Type 1} {𝓤 : Ura M} (𝓛 : Logic 𝓤) where
    open 𝓛 use {H, A}

    pub record Shares (pre : ℕ → SProp 𝓤) (post : ℕ → Val → SProp 𝓤) (R : Carried) (P : R.row.Denot → Type 0) : Type 2 where
      pub asks : (ν : ℕ) → ent 𝓤 (sep 𝓤 (A.lft (ν ∷ []) full_share) (sem 𝓛 ((ShrSlice (named 0) (ν ∷ []) E).own_val read (slice ∷ [])))) (pre ν)
      pub gives : (ν : ℕ) (w : Val) → ent 𝓤 (post ν w) (H.⇛ (ex 𝓤 (λ (r : R.row.Denot). sep 𝓤 (A.lft (ν ∷ []) full_share) (sep 𝓤 (sem 𝓛 (R.row.own_val r (w ∷ []))) (fact 𝓤 (P r))))))

    module _ (Ts : List Carried) (a : Denots (rows Ts)) (R : Carried) (P : R.row.Denot → Type 0) where
      abbrev Asks : ℕ → SProp 𝓤
      Asks ν = sep 𝓤 (sep 𝓤 (sep 𝓤 (A.lft (ν ∷ []) full_share) (emp 𝓤)) (sem 𝓛 (owns (ShrSlice (named 0) (ν ∷ []) E ∷ rows Ts) (read, a) (slice ∷ [], values Ts a)))) (emp 𝓤)

      abbrev Ends : Unit {0} × Nothings Ts → Fml
      Ends z = fsep ftrue (nothings Ts z.1)

      abbrev Leaves : ℕ → Val → SProp 𝓤
      Leaves ν w = H.⇛ (ex 𝓤 (λ (r : R.row.Denot). sep 𝓤 (sep 𝓤 (sep 𝓤 (A.lft (ν ∷ []) full_share) (emp 𝓤)) (sem 𝓛 (R.row.own_val r (w ∷ []))))
          (ex 𝓤 (λ (z : Unit {0} × Nothings Ts). sep 𝓤 (sem 𝓛 (Ends z)) (fact 𝓤 (P r))))))

      pub lends : Carries Ts a → Shares Asks Leaves R P
      lends is = record {
        asks = λ ν. qed 𝓛 (‵ (flft (ν ∷ []) full_share) ∷ ‵ ((ShrSlice (named 0) (ν ∷ []) E).own_val read (slice ∷ [])) ∷ []) ∵ nothing ! $ move ! (1 ∷ 0 ∷ []) $ join ! $ move ! (1 ∷ []) $
            use0 𝓛 (‵ (owns (rows Ts) a (values Ts a))) (all_owned 𝓛 Ts a is) $ move ! (1 ∷ 0 ∷ []) $ fjoin ! $ move ! (1 ∷ 0 ∷ []) $ join ! $ frame ! $ done !;
        gives = λ ν w. qed 𝓛 (later (some (λ (r : R.row.Denot). ((‵ (flft (ν ∷ []) full_share) ⊛ ‵ ftrue) ⊛ ‵ (R.row.own_val r (w ∷ []))) ⊛ some (λ (z : Unit {0} × Nothings Ts). ‵ (Ends z) ⊛ raw (fact 𝓤 (P r))))) ∷ []) ∵
            updating ! $ await ! tt $ pick ! (λ r. split ! $ split ! $ split ! $ move ! (3 ∷ []) $ pick ! (λ z. split ! $
            -- [nothing; the fact; the token; true; the result]
            keep ! (2 ∷ 4 ∷ 1 ∷ []) $ at_once ! $ show ! (λ (r' : R.row.Denot). sep 𝓤 (A.lft (ν ∷ []) full_share) (sep 𝓤 (sem 𝓛 (R.row.own_val r' (w ∷ []))) (fact 𝓤 (P r')))) r $ done !));
      }

  module _ {M : Type 1} {𝓤 : Ura M} {𝓛 : Logic 𝓤} {K : Type 0} {Γ : List (Item 𝓤)} {En : Env 𝓤 𝓛.H} {C : Calls 𝓤 𝓛.H} {Λ : Loops 𝓤 𝓛.H} {t : Post 𝓤 𝓛.H} {d : Place} {rest : Body} where
    open 𝓛 use {H}

    pub calls_shared : K → FmC 𝓤 H 𝓛.laws C → {f : Callee} {xs : List Operand} {κ : Lft} {q : Share} {γ : GName} (c : Contract 𝓤) → Triple 𝓤 (C f) c → (x : ℕ → c.Ghost) (R : Carried) (P : R.row.Denot → Type 0)
        → Shares 𝓛 (λ ν. c.pre (x ν)) (λ ν. c.post (x ν)) R P → Room E (length ys) → (l : Lft) → ShareLaw 𝓛 E l → Incl κ l
        → ((ν : ℕ) → Opds K 𝓛 (raw (c.pre (x ν)) ∷ ‵ (LentShared E κ (ν ∷ []) q γ b o ys) ∷ Γ) En xs (c.args (x ν)))
        → ((r : R.row.Denot) → P r → Carry R r → Seq K 𝓛 (‵ ((MutSlice (named 0) κ E).own_val (lent γ) (slice ∷ [])) ∷ ‵ (flft κ q) ∷ Γ) (lands C Λ En d (R.val r) rest t))
        → Seq K 𝓛 (‵ ((MutSlice (named 0) κ E).own_val (lent γ) (slice ∷ [])) ∷ ‵ (flft κ q) ∷ Γ) (runs C Λ En (seq (call f xs d) rest) t)
    calls_shared g fm {f} {xs} {κ} {q} {γ} c known x R P shared room l law in_l os k =
        lft_new g tt (λ ν. move g (1 ∷ 2 ∷ 0 ∷ []) $
        use3 𝓛 (later (‵ ((ShrSlice (named 0) (ν ∷ []) E).own_val read (slice ∷ [])) ⊛ (‵ (LentShared E κ (ν ∷ []) q γ b o ys) ⊛ ‵ (flft (ν ∷ []) full_share))))
        (lends_shared E κ (ν ∷ []) q γ b o 𝓛 (named 0) (named 0) ys l law in_l full_share) $ await g tt $ split g $ move g (1 ∷ []) $ split g $
        move g (1 ∷ 2 ∷ []) $ use2 𝓛 (raw (c.pre (x ν))) (shared.asks ν) $
        -- [what the callee asks; what is kept; …]
        calls_at g fm c known (x ν) (os ν) (λ w.
        use1 𝓛 (later (some (λ (r : R.row.Denot). ‵ (flft (ν ∷ []) full_share) ⊛ (‵ (R.row.own_val r (w ∷ [])) ⊛ raw (fact 𝓤 (P r)))))) (shared.gives ν w) $
        await g tt $ pick g (λ r. split g $ move g (1 ∷ []) $ split g $ move g (1 ∷ []) $ heard g (P r) (λ p.
        -- [the result; the token; what is kept; …]
        move g (1 ∷ []) $ lft_end g tt $ move g (0 ∷ 2 ∷ []) $
        use2 𝓛 (later (‵ ((MutSlice (named 0) κ E).own_val (lent γ) (slice ∷ [])) ⊛ ‵ (flft κ q))) (shared_back E κ (ν ∷ []) q γ b o 𝓛 (named 0) (named 0) ys room) $ await g tt $ split g $
        move g (2 ∷ []) $ lands_as g R r w (λ is. k r p is)))))
