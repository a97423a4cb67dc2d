-- How the check that refused is found by its number and its place. Assumes nothing.
use Prim.Native.Nat.{ℕ, zero, suc}
use mathlib.Core.Path.{◌≡◌, refl, sym, ap, ◌∙◌}
use mathlib.Core.List.{List, [], ◌∷◌, ◌++◌}
use mathlib.Core.Bool.{true, false}
use mathlib.Core.Logic.{⊎_elim}
use native.Mathlib.Omega.{arith}
use Rattle.refusal.specs.declared.Refusal.{Refusal}
use Rattle.refusal.specs.declared.Identity.{Identity}
use Rattle.std.specs.Prelude.{Result, Ok, Err}
use Rattle.refusal.specs.Check.{Test, Check, Checked, outcome, pick, reading, checked_of, ◌=?◌, ◌and◌}
use Rattle.refusal.proofs.Tests.{Holds, Fails, decided, decide}
use Rattle.refusal.proofs.Laws.{not_refused, All, Stops, refusal_at, Every, every, decides, all_hold, first_fails, always, computed}
use Rattle.pdu.specs.declared.Edition.{Edition}
use Rattle.pdu.specs.declared.Edition.TheVariants.{E2018, E2009}
use Rattle.failed_check.specs.Tell.{fault, told_by, Refuses, Names}
use Rattle.failed_check.specs.declared.Fault.{Fault}
use Rattle.std.specs.Prelude.{None, Some}

-- the check at k is x
abbrev pub At : ℕ → List Check → Identity → Type 0
At k [] x = Unit {0}
At zero (c ∷ cs) x = x ≡ c.identity
At (suc k) (c ∷ cs) x = At k cs x

-- a refusal of a list is that of one of its checks
same_refusal : {A : Type 0} (r s : Refusal) → ◌≡◌ {A = Result A Refusal} (Err r) (Err s) → r ≡ s
same_refusal r s e = cc

pub no_refusal_lem : {A : Type 0} (a : A) (r : Refusal) → ◌≡◌ {A = Result A Refusal} (Ok a) (Err r) → ⊥
no_refusal_lem a r e = not_refused a r (sym e)

pub not_readable : (f : Fault) → None ≡ Some f → ⊥
not_readable f e = let z : ◌≡◌ {A = ℕ} 0 1 = cc in omega arith

-- a reader's refusal is that of its list
pub refused_by : {A : Type 0} (cs : List Check) (next : A) (r : Refusal) → reading Err cs (Ok next) ≡ Err r → Refuses cs r
unfolding checked_of
refused_by cs next r e =
    ⊎_elim (λ (a : All cs). absurd (no_refusal_lem next r (sym (all_hold Err cs (Ok next) a) ∙ e)))
    (λ (s : (k : ℕ) × Stops k cs).
    first_fails Err s.0 cs (Ok tt) s.1
    ∙ ap Err (same_refusal (refusal_at s.0 cs) r (sym (first_fails Err s.0 cs (Ok next) s.1) ∙ e)))
    (decides cs)

-- what is so of each refusal of a list is so of this one
pub among : (t : Refusal → Test) (cs : List Check) (r : Refusal) → every t cs ≡ true → Refuses cs r → Holds (t r)
unfolding checked_of
among t cs r all e =
    let answer : So (checked_of cs) = always Err So cs (Ok tt) (computed t cs all) tt in
    rw e at answer
  where
    So : Checked → Type 0
    So (Ok p) = Unit {0}
    So (Err r) = Holds (t r)

-- The first check of a list holds, or refuses.
module _ (c : Check) (cs : List Check) where
  pub skip_told : Holds c.test → told_by (c ∷ cs) ≡ told_by cs
  unfolding told_by
  skip_told h = rw (decided c.test true h)

  pub skip_refuses : Holds c.test → checked_of (c ∷ cs) ≡ checked_of cs
  unfolding checked_of reading
  skip_refuses h = rw (decided c.test true h)

  pub here_told : Fails c.test → told_by (c ∷ cs) ≡ Some (fault c.otherwise c.identity)
  unfolding told_by
  here_told h = rw (decided c.test false h)

  here_refuses : Fails c.test → checked_of (c ∷ cs) ≡ Err c.otherwise
  unfolding checked_of reading
  here_refuses h = rw (decided c.test false h)

  -- with a refusal that is known
  pub here : (r : Refusal) → Fails c.test → Refuses (c ∷ cs) r → Names (c ∷ cs) r c.identity
  here r h e =
      let same : c.otherwise ≡ r = same_refusal c.otherwise r (sym (here_refuses h) ∙ e) in
      here_told h ∙ ap (λ (s : Refusal). Some (fault s c.identity)) same

-- the checks that refuse with this number at this place
abbrev pub only : ℕ → ℕ → List Check → List Check
only n p [] = []
only n p (c ∷ cs) = pick (outcome (c.otherwise.number =? n and c.otherwise.place =? p)) (c ∷ only n p cs) (only n p cs)

abbrev Narrowed : List Check → Refusal → List Check → Type 0
Narrowed cs r ds = (told_by cs ≡ told_by ds) × Refuses ds r

-- they decide
narrow : (n p : ℕ) (cs : List Check) (r : Refusal) → Refuses cs r → r.number ≡ n → r.place ≡ p → Narrowed cs r (only n p cs)
unfolding checked_of reading
narrow n p [] r e f g = absurd (no_refusal_lem tt r e)
narrow n p (c ∷ cs) r e f g =
    let mine : Test = c.otherwise.number =? n and c.otherwise.place =? p in
    let ds = only n p cs in
    decide c.test
    (λ h.
    let rest : Narrowed cs r ds = narrow n p cs r (sym (skip_refuses c cs h) ∙ e) f g in
    decide mine
    (λ m. rw (decided mine true m) (skip_told c cs h ∙ rest.0 ∙ sym (skip_told c ds h), skip_refuses c ds h ∙ rest.1))
    (λ m. rw (decided mine false m) (skip_told c cs h ∙ rest.0, rest.1)))
    (λ h.
    let same : c.otherwise ≡ r = same_refusal c.otherwise r (sym (here_refuses c cs h) ∙ e) in
    let m : Holds mine = (ap (λ (s : Refusal). s.number) same ∙ f, ap (λ (s : Refusal). s.place) same ∙ g) in
    rw (decided mine true m) (here_told c cs h ∙ sym (here_told c ds h), here_refuses c ds h ∙ ap Err same))

-- the check that is told is the last of a list, for those before it hold
abbrev pub Last : Identity → List Check → Type 0
Last x [] = Unit {0}
Last x (c ∷ []) = x ≡ c.identity
Last x (c ∷ d ∷ ds) = Holds c.test × Last x (d ∷ ds)

last_named : (cs : List Check) (r : Refusal) (x : Identity) → Refuses cs r → Last x cs → Names cs r x
unfolding checked_of reading
last_named [] r x e l = absurd (no_refusal_lem tt r e)
last_named (c ∷ []) r x e l =
    decide c.test (λ h. absurd (no_refusal_lem tt r (sym (skip_refuses c [] h) ∙ e)))
    (λ h. here c [] r h e ∙ ap (λ (y : Identity). Some (fault r y)) (sym l))
last_named (c ∷ d ∷ ds) r x e l =
    skip_told c (d ∷ ds) l.0 ∙ last_named (d ∷ ds) r x (sym (skip_refuses c (d ∷ ds) l.0) ∙ e) l.1

-- it is the one at k, which fails as those before it hold
stop_named : (k : ℕ) (cs : List Check) (r : Refusal) (x : Identity) → Refuses cs r → Stops k cs → At k cs x → Names cs r x
stop_named k [] r x e s a = absurd s
stop_named zero (c ∷ cs) r x e s a = here c cs r s e ∙ ap (λ (y : Identity). Some (fault r y)) (sym a)
stop_named (suc k) (c ∷ cs) r x e s a =
    skip_told c cs s.0 ∙ stop_named k cs r x (sym (skip_refuses c cs s.0) ∙ e) s.1 a

-- The same of the checks with one number and one place.
module _ (n p : ℕ) (cs : List Check) (r : Refusal) (x : Identity) (e : Refuses cs r) (number : r.number ≡ n) (place : r.place ≡ p) where
  pub by_last : Last x (only n p cs) → Names cs r x
  by_last l =
      let f = narrow n p cs r e number place in
      f.0 ∙ last_named (only n p cs) r x f.1 l

  pub by_test : (k : ℕ) → Stops k (only n p cs) → At k (only n p cs) x → Names cs r x
  by_test k s a =
      let f = narrow n p cs r e number place in
      f.0 ∙ stop_named k (only n p cs) r x f.1 s a

-- A refusal at a place that no check of the front has is one of the rest.
pub behind : (cs ds : List Check) (r : Refusal) → Refuses (cs ++ ds) r → Every (λ (s : Refusal). s.place ≡ r.place → ⊥) cs →
    All cs × (told_by (cs ++ ds) ≡ told_by ds) × Refuses ds r
behind [] ds r e other = (tt, refl, e)
behind (c ∷ cs) ds r e other =
    decide c.test
    (λ h.
    let rest = behind cs ds r (sym (skip_refuses c (cs ++ ds) h) ∙ e) (other.1 h) in
    ((h, rest.0), skip_told c (cs ++ ds) h ∙ rest.1, rest.2))
    (λ h.
    let same : c.otherwise ≡ r = same_refusal c.otherwise r (sym (here_refuses c (cs ++ ds) h) ∙ e) in
    absurd (other.0 h (ap (λ (s : Refusal). s.place) same)))

none_left : (ds : List Check) (r : Refusal) → Refuses ds r → Every (λ (s : Refusal). s.place ≡ r.place → ⊥) ds → ⊥
unfolding checked_of reading
none_left [] r e other = no_refusal_lem tt r e
none_left (c ∷ cs) r e other =
    decide c.test (λ h. none_left cs r (sym (skip_refuses c cs h) ∙ e) (other.1 h))
    (λ h. other.0 h (ap (λ (s : Refusal). s.place) (same_refusal c.otherwise r (sym (here_refuses c cs h) ∙ e))))

-- And one at a place that no check of the rest has is one of the front.
pub before : (cs ds : List Check) (r : Refusal) → Refuses (cs ++ ds) r → Every (λ (s : Refusal). s.place ≡ r.place → ⊥) ds →
    (told_by (cs ++ ds) ≡ told_by cs) × Refuses cs r
before [] ds r e other = absurd (none_left ds r e other)
before (c ∷ cs) ds r e other =
    decide c.test
    (λ h.
    let rest = before cs ds r (sym (skip_refuses c (cs ++ ds) h) ∙ e) other in
    (skip_told c (cs ++ ds) h ∙ rest.0 ∙ sym (skip_told c cs h), skip_refuses c cs h ∙ rest.1))
    (λ h.
    let same = sym (here_refuses c (cs ++ ds) h) ∙ e in
    (here_told c (cs ++ ds) h ∙ sym (here_told c cs h), here_refuses c cs h ∙ same))

-- The same of a list that both editions have, each in its own way.
module _ (cs : Edition → List Check) (r : Refusal) where
  pub by_last_in : (edition : Edition) (n p : ℕ) (x : Identity) → Refuses (cs edition) r → r.number ≡ n → r.place ≡ p →
      Last x (only n p (cs E2018)) → Last x (only n p (cs E2009)) → Names (cs edition) r x
  by_last_in E2018 n p x e f g now old = by_last n p (cs E2018) r x e f g now
  by_last_in E2009 n p x e f g now old = by_last n p (cs E2009) r x e f g old

  pub by_test_in : (edition : Edition) (n p : ℕ) (x : Identity) (k l : ℕ) → Refuses (cs edition) r → r.number ≡ n → r.place ≡ p →
      Stops k (only n p (cs E2018)) → At k (only n p (cs E2018)) x → Stops l (only n p (cs E2009)) → At l (only n p (cs E2009)) x →
      Names (cs edition) r x
  by_test_in E2018 n p x k l e f g now is old was = by_test n p (cs E2018) r x e f g k now is
  by_test_in E2009 n p x k l e f g now is old was = by_test n p (cs E2009) r x e f g l old was

  pub among_in : (edition : Edition) (t : Refusal → Test) → every t (cs E2018) ≡ true → every t (cs E2009) ≡ true →
      Refuses (cs edition) r → Holds (t r)
  among_in E2018 t now old e = among t (cs E2018) r now e
  among_in E2009 t now old e = among t (cs E2009) r old e

-- All checks hold, and nothing is told; those of a front hold, and the rest is told; a check of the front is told.
pub all_readable : (cs : List Check) → All cs → told_by cs ≡ None
unfolding told_by
all_readable [] h = refl
all_readable (c ∷ cs) h = skip_told c cs h.0 ∙ all_readable cs h.1

pub told_back : (cs ds : List Check) → All cs → told_by (cs ++ ds) ≡ told_by ds
told_back [] ds h = refl
told_back (c ∷ cs) ds h = skip_told c (cs ++ ds) h.0 ∙ told_back cs ds h.1

pub told_front : (cs ds : List Check) (f : Fault) → told_by cs ≡ Some f → told_by (cs ++ ds) ≡ Some f
unfolding told_by
told_front [] ds f e = absurd (not_readable f e)
told_front (c ∷ cs) ds f e =
    decide c.test (λ h. skip_told c (cs ++ ds) h ∙ told_front cs ds f (sym (skip_told c cs h) ∙ e))
    (λ h. here_told c (cs ++ ds) h ∙ sym (here_told c cs h) ∙ e)
