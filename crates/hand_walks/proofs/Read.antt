-- What a walk reads: a field of a large struct, a large constant, and the types of a function's locals.
use mathlib.Core.Path.{◌≡◌, sym, subst}
use Prim.Native.Nat.{ℕ, zero, suc, ◌+◌}
use mathlib.Core.List.{List, [], ◌∷◌}
use mathlib.Core.Option.{Option, none, some}
use seplogic.Ra.Ura.{Ura}
use mir.Syntax.{Width, Ty, Tys, Local, local, ty_bool, int_big}
use mir.Val.{Val, Vals, vint, vstruct, of_list, Fits}
use mir.Fields.{get_v, set_v}
use base.Logic.{via, guard_i}
use base.Fml.{Share, fat}
use prog.Memory.{field_at}
use prog.Wp.{Env}
use types.Logic.{Logic}
use types.Kit.{Item, ‵, nth}
use types.Run.{Opd, Reads}
use types.Part.{Part, whole, sub, look_in}
use denote.RattleType.{mirs, flat}
use denote.Laws.{valss}
use denote.Memory.{lone}
use denote.Struct.Struct.{to_tys}
use denote.Struct.Declared.{Declared, fields, row}
use denote.Struct.Laws as LL

-- The type of local k, as a function's code has it: so that an environment that is written out is the function's own at once.
abbrev pub ty_at : List Local → ℕ → Ty
ty_at [] k = ty_bool
ty_at (local τ h ∷ ls) zero = τ
ty_at (local τ h ∷ ls) (suc k) = ty_at ls k

module _ {M : Type 1} {𝓤 : Ura M} {𝓛 : Logic 𝓤} {K : Type 0} {Γ : List (Item 𝓤)} where
  -- a large constant is read
  open 𝓛 use {H}

  pub big_lit : K → {E : Env 𝓤 H} {w : Width} {n : ℕ} → Fits w n → Opd K 𝓛 Γ E (int_big w n) (vint w n)
  big_lit t {E} {w} {n} fits = record { go = λ Kt h. via 𝓤 (Kt (vint w n)) h (guard_i 𝓤 (Fits w n) (Kt (vint w n)) fits) }

-- a struct's fields: their types, what the machine holds of them, and where field k stands
abbrev parts : Declared → Tys
parts T = to_tys (mirs (fields T))

abbrev insides : (T : Declared) → LL.Laws T → T.D → Vals
insides T L x = of_list (flat (fields T) (valss (fields T) (LL.spells T.parts L) (T.to x)))

abbrev or_none : Option (Ty × ℕ) → Ty × ℕ
or_none none = (ty_bool, 0)
or_none (some s) = s

abbrev pub field_in : Declared → ℕ → Ty × ℕ
field_in T k = or_none (field_at zero (parts T) k)

-- field k is read. What is found is named: a term that is left to be found has the types written out
pub look_field : {M : Type 1} {𝓤 : Ura M} {𝓛 : Logic 𝓤} {K : Type 0} {Γ : List (Item 𝓤)} → K → (T : Declared) (L : LL.Laws T) (x : T.D) (n k : ℕ) (v : Val) {q : Share} {b o : ℕ} →
    nth 𝓛 n Γ ≡ ‵ (fat q (lone (row T).mir) b o (LL.val T L x)) → field_at zero (parts T) k ≡ some (field_in T k) → get_v (insides T L x) k ≡ v → Reads K 𝓛 Γ (field_in T k).0 b (o + (field_in T k).1) v
look_field {𝓤 = 𝓤} {𝓛 = 𝓛} {K = K} {Γ = Γ} t T L x n k v {q} {b} {o} here at is =
    subst (λ (u : Val). Reads K 𝓛 Γ (field_in T k).0 b (o + (field_in T k).1) u) is
    (look_in t n (subst (λ (i : Item 𝓤). Part K 𝓛 i q (field_in T k).0 b (o + (field_in T k).1) (get_v (insides T L x) k) (λ u. ‵ (fat q (lone (row T).mir) b o (vstruct (set_v (insides T L x) k u))))) (sym here) (sub t k at (whole t))))
