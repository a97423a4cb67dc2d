-- Types that are carried by value, and calls that take and answer nothing else.
--     Carried          a type with, of a value, its one machine value; that the type's relation tells it, and types it; and that the relation is all that such a value owns
--     of_struct, of_enum, count, flag, void     a declared struct, a declared enum, a `usize`, a `bool` and a `()` as such
--     Answers          what a call by value gives: it asks for nothing, and answers some r, of which P
--     rows, vals, Carries, all_owned     of several: their types, their machine values, their relations, and that they are owned for nothing
--     answers          a contract that takes only what is carried, and ensures P, gives that
--     had, known       what one owns is had for nothing; and of one that is given the machine's value is known
--     lands_by, settles_by     a result lands as a value that it equals
--     lands_as         a result that lands lands as the machine value that its relation tells
--     calls_by_value   such a call as a step
-- Assumes `Logic`.
use mathlib.Core.Path.{◌≡◌, sym, ap, subst}
use mathlib.Core.List.{List, [], ◌∷◌}
use seplogic.Ra.Ura.{Ura}
use mir.Syntax.{Callee, Place, Opd as Operand, Body, seq, call, w64}
use mir.Val.{Val, vunit, vbool, vint}
use base.Logic.{SProp, ent, sep, ex, emp, id⊢}
use base.Fml.{Fml, ftrue, fsep}
use prog.Wp.{Calls, Loops, Env}
use types.Logic.{Logic, sem}
use contract.Monad.{fact}
use sound.WpLaws.{FmC}
use types.Kit.{Item, ‵, raw, ◌⊛◌, some, later, Goal, Post, runs, lands, settles, Seq, Step, step, ◌$◌, ◌∵◌, !, qed, move, use0, use1, drop, split, join, pick, fjoin, frame, await, updating, now as at_once, show, done}
use types.Run.{Opds}
use denote.RattleType.{RattleType, Denots, Valss, owns}
use denote.Laws.{Is, Tells, Typed, Makes, shows}
use denote.Plain.{uint_Tells, uint_Makes, uint_Lawful, bool_Tells, bool_Makes, bool_Lawful, Nothing-Tells, Nothing-Makes, Nothing-Lawful}
use denote.Builtin.{usize, bool, unit}
use denote.Steps.{only, owned, nothing, facts, heard}
use denote.Struct.Struct.{Plains}
use denote.Struct.Declared as struct
use denote.Struct.Laws as LL
use denote.Enum.Enum.{Plainss, Few}
use denote.Enum.Declared as enum
use denote.Enum.Laws as EL
use denote.Triple.Statement.{Contract, Triple}
use denote.Triple.Call.{calls_at}

pub record Carried : Type 2 where
  pub row : RattleType
  pub val : row.Denot → Val
  pub tells : Tells row (Is row) (λ x. val x ∷ [])
  pub typed : {M : Type 1} {𝓤 : Ura M} (𝓛 : Logic 𝓤) → (x : row.Denot) → Is row x (val x ∷ []) → Typed row.mir (val x ∷ [])
  pub makes : {M : Type 1} {𝓤 : Ura M} (𝓛 : Logic 𝓤) → Makes 𝓛 row (Is row)

abbrev pub of_struct : (T : struct.Declared) (L : LL.Laws T) → Plains (struct.fields T) → Carried
of_struct T L plain = record {
  row = struct.row T;
  val = LL.val T L;
  tells = LL.tells T L;
  typed = λ 𝓛 x is. (LL.lawful T L 𝓛).typed x (LL.val T L x ∷ []) is;
  makes = λ 𝓛. LL.makes T plain 𝓛;
}

abbrev pub of_enum : (T : enum.Declared) (L : EL.Laws T) → Plainss (enum.variants T) → Few (enum.shape T) → Carried
of_enum T L plain few = record {
  row = enum.row T;
  val = EL.val T L;
  tells = EL.tells T L;
  typed = λ 𝓛 x is. (EL.lawful T L 𝓛 few).typed x (EL.val T L x ∷ []) is;
  makes = λ 𝓛. EL.makes T plain 𝓛;
}

abbrev pub count : Carried
count = record {
  row = usize;
  val = vint w64;
  tells = uint_Tells w64;
  typed = λ 𝓛 x is. (uint_Lawful 𝓛 w64).typed x (vint w64 x ∷ []) is;
  makes = λ 𝓛. uint_Makes 𝓛 w64;
}

abbrev pub flag : Carried
flag = record {
  row = bool;
  val = vbool;
  tells = bool_Tells;
  typed = λ 𝓛 x is. (bool_Lawful 𝓛).typed x (vbool x ∷ []) is;
  makes = λ 𝓛. bool_Makes 𝓛;
}

abbrev pub void : Carried
void = record {
  row = unit;
  val = λ _. vunit;
  tells = Nothing-Tells;
  typed = λ 𝓛 x is. (Nothing-Lawful 𝓛).typed x (vunit ∷ []) is;
  makes = λ 𝓛. Nothing-Makes 𝓛;
}

-- several of them, as a call's arguments
abbrev pub rows : List Carried → List RattleType
rows [] = []
rows (T ∷ Ts) = T.row ∷ rows Ts

abbrev pub vals : (Ts : List Carried) → Denots (rows Ts) → Valss (rows Ts)
vals [] a = tt
vals (T ∷ Ts) a = (T.val a.0 ∷ [], vals Ts a.1)

abbrev pub Carry : (T : Carried) → T.row.Denot → Type 0
Carry T x = Is T.row x (T.val x ∷ [])

abbrev pub Carries : (Ts : List Carried) → Denots (rows Ts) → Type 0
Carries [] a = Unit {0}
Carries (T ∷ Ts) a = Carry T a.0 × Carries Ts a.1

-- nothing is said of their last values
abbrev pub Nothings : List Carried → Type 0
Nothings [] = Unit {0}
Nothings (T ∷ Ts) = Unit {0} × Nothings Ts

abbrev pub nothings : (Ts : List Carried) → Nothings Ts → Fml
nothings [] z = ftrue
nothings (T ∷ Ts) z = fsep ftrue (nothings Ts z.1)

module _ {M : Type 1} {𝓤 : Ura M} (𝓛 : Logic 𝓤) where
  open 𝓛 use {H}

  pub record Answers (pre : SProp 𝓤) (post : Val → SProp 𝓤) (R : Carried) (P : R.row.Denot → Type 0) : Type 2 where
    pub asks : ent 𝓤 (emp 𝓤) pre
    pub gives : (w : Val) → ent 𝓤 (post w) (H.⇛ (ex 𝓤 (λ (r : R.row.Denot). sep 𝓤 (sem 𝓛 (R.row.own_val r (w ∷ []))) (fact 𝓤 (P r)))))

  module _ where
    pub all_owned : (Ts : List Carried) (a : Denots (rows Ts)) → Carries Ts a → ent 𝓤 (emp 𝓤) (sem 𝓛 (owns (rows Ts) a (vals Ts a)))
    all_owned [] a is = id⊢ 𝓤 (emp 𝓤)
    all_owned (T ∷ Ts) a is =
        qed 𝓛 [] ∵ use0 𝓛 (‵ (owns (rows Ts) a.1 (vals Ts a.1))) (all_owned Ts a.1 is.1) $ owned ! T.row (Is T.row) (T.makes 𝓛) a.0 (T.val a.0 ∷ []) is.0 $ fjoin ! $ done !

    pub answers : (Ts : List Carried) (a : Denots (rows Ts)) → Carries Ts a → (R : Carried) (P : R.row.Denot → Type 0)
        → Answers (sep 𝓤 (sep 𝓤 (emp 𝓤) (sem 𝓛 (owns (rows Ts) a (vals Ts a)))) (emp 𝓤))
        (λ w. H.⇛ (ex 𝓤 (λ (r : R.row.Denot). sep 𝓤 (sep 𝓤 (emp 𝓤) (sem 𝓛 (R.row.own_val r (w ∷ [])))) (ex 𝓤 (λ (z : Nothings Ts). sep 𝓤 (sem 𝓛 (nothings Ts z)) (fact 𝓤 (P r))))))) R P
    answers Ts a is R P = record {
      asks = qed 𝓛 [] ∵ nothing ! $ use0 𝓛 (‵ (owns (rows Ts) a (vals Ts a))) (all_owned Ts a is) $ nothing ! $ join ! $ frame ! $ done !;
      gives = λ w. qed 𝓛 (later (some (λ (r : R.row.Denot). (‵ ftrue ⊛ ‵ (R.row.own_val r (w ∷ []))) ⊛ some (λ (z : Nothings Ts). ‵ (nothings Ts z) ⊛ raw (fact 𝓤 (P r))))) ∷ []) ∵ updating ! $ await ! tt $ pick ! (λ r.
          split ! $ split ! $ drop ! $ move ! (1 ∷ []) $ pick ! (λ z. split ! $ drop ! $ move ! (1 ∷ 0 ∷ []) $ at_once ! $
          show ! (λ (r' : R.row.Denot). sep 𝓤 (sem 𝓛 (R.row.own_val r' (w ∷ []))) (fact 𝓤 (P r'))) r $ done !));
    }

module _ {M : Type 1} {𝓤 : Ura M} {𝓛 : Logic 𝓤} {K : Type 0} {Γ : List (Item 𝓤)} where
  open 𝓛 use {H}

  pub had : K → {G : Goal 𝓤 H} (T : Carried) (x : T.row.Denot) → Carry T x → Step K 𝓛 (‵ (T.row.own_val x (T.val x ∷ [])) ∷ Γ) G Γ G
  had t T x is = owned t T.row (Is T.row) (T.makes 𝓛) x (T.val x ∷ []) is

  pub known : K → {G : Goal 𝓤 H} (T : Carried) (x : T.row.Denot) (w : Val) → (w ≡ T.val x → Carry T x → Seq K 𝓛 Γ G) → Seq K 𝓛 (‵ (T.row.own_val x (w ∷ [])) ∷ Γ) G
  known t T x w k = facts t T.row (Is T.row) (shows 𝓛 T.row) x (w ∷ []) (λ is.
      let same : w ∷ [] ≡ T.val x ∷ [] = T.tells x (w ∷ []) is in
      k (ap only same) (subst (Is T.row x) same is))

  pub lands_by : K → {C : Calls 𝓤 H} {Λ : Loops 𝓤 H} {E : Env 𝓤 H} {d : Place} {w v : Val} {rest : Body} {q : Post 𝓤 H} → w ≡ v → Step K 𝓛 Γ (lands C Λ E d v rest q) Γ (lands C Λ E d w rest q)
  lands_by t {C} {Λ} {E} {d} {w} {v} {rest} {q} e = step (λ s. subst (λ (u : Val). Seq K 𝓛 Γ (lands C Λ E d u rest q)) (sym e) s)

  pub settles_by : K → {E : Env 𝓤 H} {d : Place} {w v : Val} {q : Post 𝓤 H} → w ≡ v → Step K 𝓛 Γ (settles E d v q) Γ (settles E d w q)
  settles_by t {E} {d} {w} {v} {q} e = step (λ s. subst (λ (u : Val). Seq K 𝓛 Γ (settles E d u q)) (sym e) s)

module _ {M : Type 1} {𝓤 : Ura M} {𝓛 : Logic 𝓤} {K : Type 0} {Γ : List (Item 𝓤)} {E : Env 𝓤 𝓛.H} {C : Calls 𝓤 𝓛.H} {Λ : Loops 𝓤 𝓛.H} {q : Post 𝓤 𝓛.H} {d : Place} {rest : Body} where
  open 𝓛 use {H}

  pub lands_as : K → (R : Carried) (r : R.row.Denot) (w : Val) → (Carry R r → Seq K 𝓛 Γ (lands C Λ E d (R.val r) rest q)) → Seq K 𝓛 (‵ (R.row.own_val r (w ∷ [])) ∷ Γ) (lands C Λ E d w rest q)
  lands_as t R r w k = known t R r w (λ same is. lands_by t same $ k is)

  pub calls_by_value : K → FmC 𝓤 H 𝓛.laws C → {f : Callee} {xs : List Operand} (c : Contract 𝓤) → Triple 𝓤 (C f) c → (x : c.Ghost) (R : Carried) (P : R.row.Denot → Type 0) → Answers 𝓛 (c.pre x) (c.post x) R P
      → Opds K 𝓛 (raw (c.pre x) ∷ Γ) E xs (c.args x) → ((r : R.row.Denot) → P r → Carry R r → Seq K 𝓛 Γ (lands C Λ E d (R.val r) rest q))
      → Seq K 𝓛 Γ (runs C Λ E (seq (call f xs d) rest) q)
  calls_by_value t fm c known x R P a os k =
      use0 𝓛 (raw (c.pre x)) a.asks $ calls_at t fm c known x os (λ w.
      use1 𝓛 (later (some (λ (r : R.row.Denot). ‵ (R.row.own_val r (w ∷ [])) ⊛ raw (fact 𝓤 (P r))))) (a.gives w) $ await t tt $ pick t (λ r. split t $ move t (1 ∷ []) $ heard t (P r) (λ p.
      lands_as t R r w (λ is. k r p is))))
