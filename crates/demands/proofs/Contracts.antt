-- That a call's own contract settles its answer. L is the `Learnt` of the call's `Reads`, which the kit makes of the call's `ensures`: what its
-- caller learns of the lifetimes k, the arguments a, the result r and the parameters e as they are at exit. Assumes nothing.
use mathlib.Core.Path.{◌≡◌, sym, ap, ◌∙◌}
use seplogic.Ra.Ura.{Ura}
use base.Logic.{SProp, ent, sep, fst∗, snd∗}
use types.Logic.{Logic}
use prog.Memory.{Memory}
use prog.Routine.{Routine}
use contract.Monad.{Fun, fact, fact_i, fact_use}
use contract.Lifetimes.{Lfts}
use denote.Triple.Clauses.{Ended, Clauses, AtExit}
use borrow.Fn.World.{World, ArgsD, ResD}

module _ {K : Type 0} {A R E : K → Type 0} where
  -- two results are equal
  abbrev pub Settled : ((k : K) → A k → R k → E k → Type 0) → Type 0
  Settled L = (k : K) (a : A k) (r s : R k) (e f : E k) → L k a r e → L k a s f → r ≡ s

  -- what is seen of two results, or of two lent buffers, is equal
  abbrev pub SettledAs : {B : K → Type 0} → ((k : K) → A k → R k → E k → Type 0) → ((k : K) → R k → E k → B k) → Type 0
  SettledAs L seen = (k : K) (a : A k) (r s : R k) (e f : E k) → L k a r e → L k a s f → seen k r e ≡ seen k s f

  -- two results are equal, and so is what they leave in the lent buffer
  abbrev pub SettledWith : {B : K → Type 0} → ((k : K) → A k → R k → E k → Type 0) → ((k : K) → E k → B k) → Type 0
  SettledWith L left = (k : K) (a : A k) (r s : R k) (e f : E k) → L k a r e → L k a s f → (r ≡ s) × (left k e ≡ left k f)

  -- two results are equal where only the arguments are alike
  abbrev pub SettledAlike : ((k : K) → A k → R k → E k → Type 0) → ((k : K) → A k → A k → Type 0) → Type 0
  SettledAlike L alike = (k : K) (a b : A k) (r s : R k) (e f : E k) → alike k a b → L k a r e → L k b s f → r ≡ s

  -- two results are alike, if that is which is not the call's to settle; it may speak of what is learnt of each
  abbrev pub SettledIf : (L : (k : K) → A k → R k → E k → Type 0) → ((k : K) (a : A k) (r s : R k) (e f : E k) → L k a r e → L k a s f → Type 0) →
      ((k : K) → R k → R k → E k → E k → Type 0) → Type 0
  SettledIf L given alike = (k : K) (a : A k) (r s : R k) (e f : E k) (p : L k a r e) (q : L k a s f) → given k a r s e f p q → alike k r s e f

  module _ {L : (k : K) → A k → R k → E k → Type 0} where
    -- a contract that says the result by the arguments; what is seen; the result, and by it the buffer
    pub settled : {answer : (k : K) → A k → R k} → ((k : K) (a : A k) (r : R k) (e : E k) → L k a r e → r ≡ answer k a) → Settled L
    settled says k a r s e f p q = says k a r e p ∙ sym (says k a s f q)

    pub settled_alike : {answer : (k : K) → A k → R k} {alike : (k : K) → A k → A k → Type 0} →
        ((k : K) (a : A k) (r : R k) (e : E k) → L k a r e → r ≡ answer k a) → ((k : K) (a b : A k) → alike k a b → answer k a ≡ answer k b) →
        SettledAlike L alike
    settled_alike says same k a b r s e f h p q = says k a r e p ∙ same k a b h ∙ sym (says k b s f q)

    pub settled_as : {B : K → Type 0} {seen : (k : K) → R k → E k → B k} {answer : (k : K) → A k → B k} →
        ((k : K) (a : A k) (r : R k) (e : E k) → L k a r e → seen k r e ≡ answer k a) → SettledAs L seen
    settled_as says k a r s e f p q = says k a r e p ∙ sym (says k a s f q)

    pub settled_with : {B : K → Type 0} {left : (k : K) → E k → B k} {answer : (k : K) → A k → R k} {after : (k : K) → A k → R k → B k} →
        ((k : K) (a : A k) (r : R k) (e : E k) → L k a r e → (r ≡ answer k a) × (left k e ≡ after k a r)) → SettledWith L left
    settled_with {after = after} says k a r s e f p q =
        let same : r ≡ s = (says k a r e p).0 ∙ sym (says k a s f q).0 in
        (same, (says k a r e p).1 ∙ ap (after k a) same ∙ sym (says k a s f q).1)

-- The same of a call that is proved by a walk and has no `Reads`: of its clauses themselves, at every model.
abbrev Written : Ended → Type 2
Written T = (M : Type 1) (𝓤 : Ura M) (𝓛 : Logic 𝓤) → (Memory → SProp 𝓤) → (Routine → Fun 𝓤) → Clauses 𝓤 T

module _ (T : Ended) (C : Written T) where
  -- what is seen of two results and of what is lent
  abbrev pub SettledLent : {B : Lfts T.signature.lifetimes → Type 0} →
      ((k : Lfts T.signature.lifetimes) → ResD T.signature k → AtExit T k → B k) → Type 2
  SettledLent seen =
      (w : World) (k : Lfts T.signature.lifetimes) (a : ArgsD T.signature k) (r s : ResD T.signature k) (e f : AtExit T k) →
      let c = C w.M w.𝓤 w.𝓛 w.𝓜.mem w.𝓡.run k a in
      (g h : c.ghost) → ent w.𝓤 (sep w.𝓤 (c.ensures g r e) (c.ensures h s f)) (fact w.𝓤 (seen k r e ≡ seen k s f))

  -- of two results alone
  abbrev pub SettledBy : {B : Lfts T.signature.lifetimes → Type 0} → ((k : Lfts T.signature.lifetimes) → ResD T.signature k → B k) → Type 2
  SettledBy seen = SettledLent (λ k r e. seen k r)

-- from two facts a third
pub facts : {M : Type 1} (𝓤 : Ura M) {φ ψ χ : Type 0} → (φ → ψ → χ) → ent 𝓤 (sep 𝓤 (fact 𝓤 φ) (fact 𝓤 ψ)) (fact 𝓤 χ)
facts 𝓤 {φ} {ψ} {χ} then =
    let P : SProp 𝓤 = fact 𝓤 φ in
    let Q : SProp 𝓤 = fact 𝓤 ψ in
    let both : SProp 𝓤 = sep 𝓤 P Q in
    fact_use 𝓤 {P = both} {Q = fact 𝓤 χ} φ (fst∗ 𝓤 P Q) (λ p.
    fact_use 𝓤 {P = both} {Q = fact 𝓤 χ} ψ (snd∗ 𝓤 P Q) (λ q. fact_i 𝓤 χ both (then p q)))
