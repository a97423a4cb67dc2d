-- Laws of `reading`, said once for every layer: which check decides, that all held, lists that are joined, that an answer is unique, and what
-- every check of a list tells. Assumes nothing.
use Prim.Native.Nat.{ℕ, zero, suc}
use mathlib.Core.Path.{◌≡◌, refl, sym, ap, ◌∙◌}
use mathlib.Core.List.{List, [], ◌∷◌, ◌++◌}
use mathlib.Core.Bool.{Bool, true, false}
use mathlib.Core.Logic.{◌⊎◌, inl, inr, ⊎_elim}
use native.Mathlib.Omega.{arith}
use Rattle.refusal.specs.declared.Refusal.{Refusal}
use Rattle.std.specs.Prelude.{Result, Ok, Err}
use Rattle.std.specs.Result.{IsErrAnd}
use Rattle.std.proofs.lemmas.Result.{err_from_is_err_and}
use Rattle.refusal.specs.Check.{Test, Checked, outcome, CheckOf, refusal, pick, choose, reading, checked_of}
use Rattle.refusal.proofs.Tests.{Holds, Fails, Fact, fact, decided}

-- all checks of a list hold
abbrev pub All : {I : Type 0} → List (CheckOf I) → Type 0
All [] = Unit {0}
All (c ∷ cs) = Holds c.test × All cs

-- check k, counted from 0, fails, and those before it hold
abbrev pub Stops : {I : Type 0} → ℕ → List (CheckOf I) → Type 0
Stops k [] = ⊥
Stops zero (c ∷ cs) = Fails c.test
Stops (suc k) (c ∷ cs) = Holds c.test × Stops k cs

-- the refusal of check k
abbrev pub refusal_at : {I : Type 0} → ℕ → List (CheckOf I) → Refusal
refusal_at k [] = refusal 0 0 0
refusal_at zero (c ∷ cs) = c.otherwise
refusal_at (suc k) (c ∷ cs) = refusal_at k cs

-- every check has a property, wherever it is the first to fail
abbrev pub Each : {I : Type 0} → (CheckOf I → Type 0) → List (CheckOf I) → Type 0
Each Q [] = Unit {0}
Each Q (c ∷ cs) = (Fails c.test → Q c) × (Holds c.test → Each Q cs)

-- the same of its refusal
abbrev pub Every : {I : Type 0} → (Refusal → Type 0) → List (CheckOf I) → Type 0
Every {I} P cs = Each (λ (c : CheckOf I). P c.otherwise) cs

-- a list holds whole, or one of its checks decides
pub decides : {I : Type 0} (cs : List (CheckOf I)) → All cs ⊎ ((k : ℕ) × Stops k cs)
decides [] = inl tt
decides (c ∷ cs) = by (outcome c.test) (fact c.test) (decides cs)
  where
    by : (o : Bool) → Fact o c.test → All cs ⊎ ((k : ℕ) × Stops k cs) → All (c ∷ cs) ⊎ ((k : ℕ) × Stops k (c ∷ cs))
    by true h (inl a) = inl (h, a)
    by true h (inr s) = inr (suc s.0, (h, s.1))
    by false f rest = inr (zero, f)

module _ {A : Type 0} (refused : Refusal → A) where
  -- where all checks hold, the answer is what follows
  pub all_hold : {I : Type 0} (cs : List (CheckOf I)) (next : A) → All cs → reading refused cs next ≡ next
  unfolding reading
  all_hold [] next h = refl
  all_hold (c ∷ cs) next h = rw (decided c.test true h.0) (all_hold cs next h.1)

  -- where check k is the first to fail, the answer is its refusal
  pub first_fails : {I : Type 0} (k : ℕ) (cs : List (CheckOf I)) (next : A) → Stops k cs → reading refused cs next ≡ refused (refusal_at k cs)
  unfolding reading
  first_fails k [] next s = absurd s
  first_fails zero (c ∷ cs) next s = rw (decided c.test false s)
  first_fails (suc k) (c ∷ cs) next s = rw (decided c.test true s.0) (first_fails k cs next s.1)

  -- joined lists: the second follows the first
  pub reading_++ : {I : Type 0} (cs ds : List (CheckOf I)) (next : A) → reading refused (cs ++ ds) next ≡ reading refused cs (reading refused ds next)
  unfolding reading
  reading_++ [] ds next = refl
  reading_++ (c ∷ cs) ds next = rw (reading_++ cs ds next)

  -- an answer that is no refusal: all checks held
  pub accepted : {I : Type 0} (P : A → Type 0) → ((r : Refusal) → P (refused r) → ⊥) → (cs : List (CheckOf I)) (next : A) → P (reading refused cs next) → All cs
  accepted P none cs next p =
      ⊎_elim (λ (a : All cs). a)
      (λ (s : (k : ℕ) × Stops k cs). absurd (none (refusal_at s.0 cs) (rw (← first_fails s.0 cs next s.1) p)))
      (decides cs)

  -- an answer x that no refusal gives: all checks held, and x is what follows
  pub found : {I : Type 0} (cs : List (CheckOf I)) (next x : A) → ((r : Refusal) → refused r ≡ x → ⊥) → reading refused cs next ≡ x → All cs × (next ≡ x)
  found cs next x none e =
      let h = accepted (λ (y : A). y ≡ x) none cs next e in
      (h, sym (all_hold cs next h) ∙ e)

  -- what is so of the answer that follows, and of each refusal, is so of the list's answer
  pub always : {I : Type 0} (P : A → Type 0) (cs : List (CheckOf I)) (next : A) → Every (λ (r : Refusal). P (refused r)) cs → P next → P (reading refused cs next)
  unfolding reading
  always P [] next e p = p
  always P (c ∷ cs) next e p = by (outcome c.test) (fact c.test) (λ h. always P cs next (e.1 h) p)
    where
      by : (o : Bool) → Fact o c.test → (Holds c.test → P (reading refused cs next)) →
          P (pick o (reading refused cs next) (refused c.otherwise))
      by true h rest = rest h
      by false f rest = e.0 f

-- The code's answers. Check k refuses; all hold; and the same where the answer is known by an equation.
pub stop : {I A : Type 0} (k : ℕ) (refused : Refusal → A) (cs : List (CheckOf I)) (next : A) {x : A} → Stops k cs → x ≡ refused (refusal_at k cs) → x ≡ reading refused cs next
stop k refused cs next s e = e ∙ sym (first_fails refused k cs next s)

-- the same where the value that is told was read by another call, which says what it is
pub stop_value : {I A : Type 0} (k : ℕ) (refused : Refusal → A) (cs : List (CheckOf I)) (next : A) {x : A} {v : ℕ} → Stops k cs →
    let r = refusal_at k cs in x ≡ refused (refusal r.number r.place v) → v ≡ r.value → x ≡ reading refused cs next
stop_value k refused cs next s e h =
    let r = refusal_at k cs in
    stop k refused cs next s (e ∙ ap (λ (w : ℕ). refused (refusal r.number r.place w)) h)

pub pass : {I A : Type 0} (refused : Refusal → A) (cs : List (CheckOf I)) (next : A) {x : A} → All cs → x ≡ next → x ≡ reading refused cs next
pass refused cs next h e = e ∙ sym (all_hold refused cs next h)

-- A list is read by the code that reads its front, cs, and goes on by cases of that answer: `after` hands a refusal on, and else reads the rest.
pub inner : {I A B : Type 0} (after : A → B) (refused : Refusal → A) (handed : Refusal → B) (cs : List (CheckOf I)) (a : A) (b : B) →
    ((r : Refusal) → after (refused r) ≡ handed r) → after a ≡ b → reading handed cs b ≡ after (reading refused cs a)
unfolding reading
inner after refused handed [] a b h e = sym e
inner after refused handed (c ∷ cs) a b h e = by (outcome c.test) (inner after refused handed cs a b h e)
  where
    by : (o : Bool) → reading handed cs b ≡ after (reading refused cs a) →
        pick o (reading handed cs b) (handed c.otherwise) ≡ after (pick o (reading refused cs a) (refused c.otherwise))
    by true rest = rest
    by false rest = sym (h c.otherwise)

-- the same where own checks come first, and where more follow
module _ {I A B : Type 0} (after : A → B) (refused : Refusal → A) (handed : Refusal → B) (own cs : List (CheckOf I)) (a : A) (b : B) (h : (r : Refusal) → after (refused r) ≡ handed r) where
  pub inner_last : after a ≡ b → reading handed (own ++ cs) b ≡ reading handed own (after (reading refused cs a))
  inner_last e = reading_++ handed own cs b ∙ ap (reading handed own) (inner after refused handed cs a b h e)

  pub inner_first : (rest : List (CheckOf I)) → after a ≡ reading handed rest b →
      reading handed (own ++ (cs ++ rest)) b ≡ reading handed own (after (reading refused cs a))
  inner_first rest e =
      reading_++ handed own (cs ++ rest) b
      ∙ ap (reading handed own) (reading_++ handed cs rest b ∙ inner after refused handed cs a (reading handed rest b) h e)

-- what `?` answers: a refusal is handed on, and else `next` goes on with what was found
abbrev pub after : {A B : Type 0} → (Refusal → B) → (A → B) → Result A Refusal → B
after handed next (Err r) = handed r
after handed next (Ok a) = next a

-- an answer that is no refusal: all checks held, and the answer is what follows them
abbrev found_or : {A : Type 0} → A → Result A Refusal → A
found_or d (Ok a) = a
found_or d (Err r) = d

pub not_refused : {A : Type 0} (a : A) (r : Refusal) → ◌≡◌ {A = Result A Refusal} (Err r) (Ok a) → ⊥
not_refused a r q = let z : ◌≡◌ {A = ℕ} 0 1 = cc in omega arith

pub read_as : {I A : Type 0} (cs : List (CheckOf I)) (next a : A) → reading Err cs (Ok next) ≡ Ok a → All cs × (next ≡ a)
read_as cs next a e =
    let f = found Err cs (Ok next) (Ok a) (not_refused a) e in
    (f.0, ap (found_or next) f.1)

-- the code's answers behind a `?`: it met a refusal, or went on with what was found
pub handed_on : {A B : Type 0} (next : A → Result B Refusal) {y : Result A Refusal} {r : Refusal} {x : Result B Refusal} →
    Err r ≡ y → IsErrAnd x (λ (e : Refusal). e ≡ r) → x ≡ after Err next y
handed_on next {r = r} {x = x} e h =
    let p = err_from_is_err_and x h in
    p.1 ∙ ap Err p.2 ∙ ap (after Err next) e

pub gone_on : {A B : Type 0} (next : A → Result B Refusal) {y : Result A Refusal} {a : A} {x : Result B Refusal} →
    Ok a ≡ y → x ≡ next a → x ≡ after Err next y
gone_on next e f = f ∙ ap (after Err next) e

-- the inner list stands alone, last, or first of more
module _ {A B : Type 0} (handed : Refusal → B) (next : A → B) where
  pub after_all : {I : Type 0} (cs : List (CheckOf I)) (a : A) → reading handed cs (next a) ≡ after handed next (reading Err cs (Ok a))
  after_all cs a = inner (after handed next) Err handed cs (Ok a) (next a) (λ r. refl) refl

  pub after_last : {I : Type 0} (own cs : List (CheckOf I)) (a : A) →
      reading handed (own ++ cs) (next a) ≡ reading handed own (after handed next (reading Err cs (Ok a)))
  after_last own cs a = inner_last (after handed next) Err handed own cs (Ok a) (next a) (λ r. refl) refl

  pub after_first : {I : Type 0} (own cs rest : List (CheckOf I)) (a : A) (b : B) → next a ≡ reading handed rest b →
      reading handed (own ++ (cs ++ rest)) b ≡ reading handed own (after handed next (reading Err cs (Ok a)))
  after_first own cs rest a b e = inner_first (after handed next) Err handed own cs (Ok a) b (λ r. refl) rest e

-- where the inner list only checks: `next` is what follows it
module _ {B : Type 0} (handed : Refusal → B) where
  abbrev pub after_check : B → Checked → B
  after_check next = after handed (λ t. next)

  pub check_last : {I : Type 0} (own cs : List (CheckOf I)) (b : B) → reading handed (own ++ cs) b ≡ reading handed own (after_check b (checked_of cs))
  unfolding checked_of
  check_last own cs b = after_last handed (λ t. b) own cs tt

  pub check_first : {I : Type 0} (own cs rest : List (CheckOf I)) (b : B) →
      reading handed (own ++ (cs ++ rest)) b ≡ reading handed own (after_check (reading handed rest b) (checked_of cs))
  unfolding checked_of
  check_first own cs rest b = after_first handed (λ t. reading handed rest b) own cs rest tt b refl

-- no checks
pub none_checked : (I : Type 0) → checked_of {I = I} [] ≡ (Ok tt)
unfolding checked_of reading
none_checked I = refl

-- a list and what follows it, chosen by one test
pub reading_choose : {I A : Type 0} (refused : Refusal → A) (t : Test) (cs ds : List (CheckOf I)) (a b : A) →
    reading refused (choose t cs ds) (choose t a b) ≡ choose t (reading refused cs a) (reading refused ds b)
unfolding choose
reading_choose refused t cs ds a b = by (outcome t)
  where
    by : (o : Bool) → reading refused (pick o cs ds) (pick o a b) ≡ pick o (reading refused cs a) (reading refused ds b)
    by true = refl
    by false = refl

-- what is answered by cases of an answer x that is y
pub by_answer : {A B : Type 0} (after : A → B) (x y : A) {b : B} → x ≡ y → b ≡ after y → b ≡ after x
by_answer after x y e f = f ∙ sym (ap after e)

-- two answers of one list are equal
pub unique : {I A : Type 0} (refused : Refusal → A) (cs : List (CheckOf I)) (next : A) {x y : A} → x ≡ reading refused cs next → y ≡ reading refused cs next → x ≡ y
unique refused cs next e f = e ∙ sym f

-- all of two lists
pub all_++ : {I : Type 0} (cs ds : List (CheckOf I)) → All cs → All ds → All (cs ++ ds)
all_++ [] ds h k = k
all_++ (c ∷ cs) ds h k = (h.0, all_++ cs ds h.1 k)

pub all_front : {I : Type 0} (cs ds : List (CheckOf I)) → All (cs ++ ds) → All cs
all_front [] ds h = tt
all_front (c ∷ cs) ds h = (h.0, all_front cs ds h.1)

pub all_back : {I : Type 0} (cs ds : List (CheckOf I)) → All (cs ++ ds) → All ds
all_back [] ds h = h
all_back (c ∷ cs) ds h = all_back cs ds h.1

-- every check of two lists, joined: the second is asked where the first holds
pub each_++ : {I : Type 0} (Q : CheckOf I → Type 0) (cs ds : List (CheckOf I)) → Each Q cs → (All cs → Each Q ds) → Each Q (cs ++ ds)
each_++ Q [] ds h k = k tt
each_++ Q (c ∷ cs) ds h k = (h.0, λ t. each_++ Q cs ds (h.1 t) (λ a. k (t, a)))

pub every_++ : {I : Type 0} (P : Refusal → Type 0) (cs ds : List (CheckOf I)) → Every P cs → (All cs → Every P ds) → Every P (cs ++ ds)
every_++ {I} P cs ds h k = each_++ (λ (c : CheckOf I). P c.otherwise) cs ds h k

-- what follows of a property of every check
pub each_map : {I : Type 0} (P Q : CheckOf I → Type 0) → ((c : CheckOf I) → P c → Q c) → (cs : List (CheckOf I)) → Each P cs → Each Q cs
each_map P Q f [] h = tt
each_map P Q f (c ∷ cs) h = (λ k. f c (h.0 k), λ t. each_map P Q f cs (h.1 t))

pub every_map : {I : Type 0} (P Q : Refusal → Type 0) → ((r : Refusal) → P r → Q r) → (cs : List (CheckOf I)) → Every P cs → Every Q cs
every_map {I} P Q f cs h = each_map (λ (c : CheckOf I). P c.otherwise) (λ (c : CheckOf I). Q c.otherwise) (λ c. f c.otherwise) cs h

-- a test of every check, of those that are told by name, is computed
abbrev pub each : {I : Type 0} → (CheckOf I → Test) → List (CheckOf I) → Bool
each t [] = true
each t (c ∷ cs) = pick (outcome (t c)) (each t cs) false

pub each_computed : {I : Type 0} (t : CheckOf I → Test) (cs : List (CheckOf I)) → each t cs ≡ true → Each (λ (c : CheckOf I). Holds (t c)) cs
each_computed t [] e = tt
each_computed {I} t (c ∷ cs) e = by (outcome (t c)) (fact (t c)) (each_computed t cs) e
  where
    by : (o : Bool) → Fact o (t c) → (each t cs ≡ true → Each (λ (c : CheckOf I). Holds (t c)) cs) →
        pick o (each t cs) false ≡ true → Each (λ (c : CheckOf I). Holds (t c)) (c ∷ cs)
    by true h rest e = (λ f. h, λ t. rest e)
    by false f rest e = let z : ◌≡◌ {A = ℕ} 0 1 = cc in absurd (omega arith)

-- the same of its refusal
abbrev pub every : {I : Type 0} → (Refusal → Test) → List (CheckOf I) → Bool
every {I} t cs = each (λ (c : CheckOf I). t c.otherwise) cs

pub computed : {I : Type 0} (t : Refusal → Test) (cs : List (CheckOf I)) → every t cs ≡ true → Every (λ (r : Refusal). Holds (t r)) cs
computed {I} t cs e = each_computed (λ (c : CheckOf I). t c.otherwise) cs e
