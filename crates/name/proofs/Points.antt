-- A list is well formed exactly where it is a run of encoded code points. Assumes nothing.
use Prim.Native.Nat.{ℕ, zero, suc, ◌+◌, ◌-◌, ◌*◌, ◌≤◌}
use mathlib.Core.Path.{◌≡◌, refl, sym, subst, ◌∙◌}
use mathlib.Core.List.{List, [], ◌∷◌, ◌++◌}
use native.Mathlib.Omega.{arith}
use Rattle.refusal.specs.Check.{◌≤?◌, ◌=?◌, choose}
use Rattle.refusal.proofs.Tests.{Holds, chosen, choice, decide}
use Rattle.name.specs.Utf8.{within, lead_of, trailed, step, well_formed}
use Rattle.name.specs.CodePoint.{scalar, encode, Encoded, none, more}
use Rattle.name.specs.declared.utf8.Expect.{Expect}
use Rattle.name.specs.declared.utf8.Expect.TheVariants.{Lead, Trail, Malformed}
use Rattle.name.proofs.Choices.{Choices, row, otherwise, First, answer, first, each}
use Rattle.name.proofs.Laws.{lead_table}
use Rattle.name.proofs.Longest.{after, well_formed→after, after→well_formed}

-- the table of code points, by how many bytes they have
unfoldable encode_table : (c : ℕ) → Choices (encode c)
unfolding encode
encode_table c = row _ _ (row _ _ (row _ _ (otherwise _)))

-- a list is what a character lacks, each byte in its range
abbrev Lacks : Expect → List ℕ → Type 0
Lacks Lead [] = Unit {0}
Lacks Lead (b ∷ s) = ⊥
Lacks (Trail low high n) [] = ⊥
Lacks (Trail low high n) (b ∷ s) = (low ≤ b) × (b ≤ high) × Lacks (trailed n) s
Lacks Malformed [] = ⊥
Lacks Malformed (b ∷ s) = ⊥

-- From code points to the definition. What is lacking makes a character whole.
whole : (e : Expect) (s : List ℕ) → Lacks e s → after e s ≡ Lead
whole Lead [] h = refl
whole Lead (b ∷ s) h = absurd h
whole (Trail low high n) [] h = absurd h
whole (Trail low high n) (b ∷ s) h = rw (← chosen (within low high b) (trailed n) Malformed (h.0, h.1) refl) (whole (trailed n) s h.2)
whole Malformed [] h = absurd h
whole Malformed (b ∷ s) h = absurd h

-- the first byte is of row k, and the others are what it lacks
abbrev Begins : ℕ → List ℕ → Type 0
Begins k [] = ⊥
Begins k (a ∷ s) = First k (lead_table a) × Lacks (answer k (lead_table a)) s

begins : (k : ℕ) (s : List ℕ) → Begins k s → after Lead s ≡ Lead
begins k [] h = absurd h
begins k (a ∷ s) h = rw (← first k (lead_table a) h.0 refl) (whole (answer k (lead_table a)) s h.1)

-- a code point of row n, whose bytes begin in row k
point : (n k c : ℕ) → First n (encode_table c) × Begins k (answer n (encode_table c)) → after Lead (encode c) ≡ Lead
point n k c h = rw (← first n (encode_table c) h.0 refl) (begins k (answer n (encode_table c)) h.1)

points : (c : ℕ) → Holds (scalar c) → after Lead (encode c) ≡ Lead
unfolding encode_table lead_table trailed choose
points c s =
    decide (c ≤? 0x7f) (λ h. point 0 0 c (omega arith))
    (λ f. decide (c ≤? 0x7ff) (λ h. point 1 1 c (omega arith))
    (λ f. decide (c ≤? 0xfff) (λ h. point 2 2 c (omega arith))
    (λ f. decide (c ≤? 0xcfff) (λ h. point 2 3 c (omega arith))
    (λ f. decide (c ≤? 0xd7ff) (λ h. point 2 5 c (omega arith))
    (λ f. let above = s (omega arith) in decide (c ≤? 0xffff) (λ h. point 2 4 c (omega arith))
    (λ f. decide (c ≤? 0x3ffff) (λ h. point 3 6 c (omega arith))
    (λ f. decide (c ≤? 0xfffff) (λ h. point 3 7 c (omega arith))
    (λ f. point 3 8 c (omega arith)))))))))

after_++ : (e : Expect) (s t : List ℕ) → after e (s ++ t) ≡ after (after e s) t
after_++ e [] t = refl
after_++ e (b ∷ s) t = after_++ (step e b) s t

encoded→after : {s : List ℕ} → Encoded s → after Lead s ≡ Lead
encoded→after none = refl
encoded→after (more c {s} h r) = after_++ Lead (encode c) s ∙ rw (points c h) (encoded→after r)

pub encoded→well_formed : {s : List ℕ} → Encoded s → Holds (well_formed s)
encoded→well_formed {s} r = after→well_formed s (encoded→after r)

-- And back. P of every list of n bytes is so of what a character lacks, where that is n bytes.
abbrev Lists : ℕ → (List ℕ → Type 0) → Type 0
Lists zero P = P []
Lists (suc n) P = (b : ℕ) → Lists n (λ s. P (b ∷ s))

abbrev size : Expect → ℕ
size Lead = 0
size (Trail low high n) = suc n
size Malformed = 0

size_trailed : (n : ℕ) → n ≡ size (trailed n)
unfolding trailed
size_trailed n = choice (λ (e : Expect). n ≡ size e) (n =? 0) Lead (Trail 0x80 0xbf (n - 1)) (λ h. h) (λ f. omega arith)

lists : (P : List ℕ → Type 0) (e : Expect) (s : List ℕ) → Lists (size e) P → Lacks e s → P s
lists P Lead [] p h = p
lists P Lead (b ∷ s) p h = absurd h
lists P (Trail low high n) [] p h = absurd h
lists P (Trail low high n) (b ∷ s) p h =
    lists (λ t. P (b ∷ t)) (trailed n) s (subst (λ (m : ℕ). Lists m (λ t. P (b ∷ t))) (size_trailed n) (p b)) h.2
lists P Malformed [] p h = p
lists P Malformed (b ∷ s) p h = absurd h

-- lists that are equal byte by byte
abbrev Same : List ℕ → List ℕ → Type 0
Same [] [] = Unit {0}
Same [] (b ∷ t) = ⊥
Same (a ∷ s) [] = ⊥
Same (a ∷ s) (b ∷ t) = (a ≡ b) × Same s t

same : (s t : List ℕ) → Same s t → s ≡ t
same [] [] h = refl
same [] (b ∷ t) h = absurd h
same (a ∷ s) [] h = absurd h
same (a ∷ s) (b ∷ t) h = rw (h.0, same s t h.1)

-- the code point whose bits stand in v and in the bytes that follow
abbrev value : ℕ → List ℕ → ℕ
value v [] = v
value v (b ∷ s) = value (v * 0x40 + (b - 0x80)) s

-- a list is the bytes of c, in row n
abbrev Codes : ℕ → ℕ → List ℕ → Type 0
Codes n c s = Holds (scalar c) × First n (encode_table c) × Same s (answer n (encode_table c))

abbrev Point : List ℕ → Type 0
Point s = (c : ℕ) × Holds (scalar c) × (s ≡ encode c)

codes : (a base : ℕ) (e : Expect) → Lists (size e) (λ s. Lacks e s → Codes (size e) (value (a - base) s) (a ∷ s)) →
    (s : List ℕ) → Lacks e s → Point (a ∷ s)
codes a base e all s h =
    let c = value (a - base) s in
    let p = lists (λ t. Lacks e t → Codes (size e) (value (a - base) t) (a ∷ t)) e s all h h in
    (c, p.0, first (size e) (encode_table c) p.1 (same (a ∷ s) (answer (size e) (encode_table c)) p.2))

-- a character's bytes are those of a code point: a line for each row of the first byte
decoded : (a : ℕ) (s : List ℕ) → Lacks (lead_of a) s → Point (a ∷ s)
unfolding encode_table lead_table trailed choose
decoded a =
    each (λ e. (s : List ℕ) → Lacks e s → Point (a ∷ s)) (lead_table a)
    (λ h. codes a 0 Lead (omega arith))
    (λ h. codes a 0xc0 (trailed 1) (omega arith))
    (λ h. codes a 0xe0 (Trail 0xa0 0xbf 1) (omega arith))
    (λ h. codes a 0xe0 (trailed 2) (omega arith))
    (λ h. codes a 0xe0 (trailed 2) (omega arith))
    (λ h. codes a 0xe0 (Trail 0x80 0x9f 1) (omega arith))
    (λ h. codes a 0xf0 (Trail 0x90 0xbf 2) (omega arith))
    (λ h. codes a 0xf0 (trailed 3) (omega arith))
    (λ h. codes a 0xf0 (Trail 0x80 0x8f 2) (omega arith))
    (codes a 0 Malformed (omega arith))

never : (s : List ℕ) → Lacks Malformed s → ⊥
never [] h = h
never (b ∷ s) h = h

-- What a character lacks, and then encoded code points: such a list behind one byte more, and that every text is one.
data Open (e : Expect) : List ℕ → Type 0 where
  opens : (front : List ℕ) {rest : List ℕ} → Lacks e front → Encoded rest → Open e (front ++ rest)

led : (a : ℕ) {s : List ℕ} → Open (lead_of a) s → Encoded (a ∷ s)
led a (opens front {rest} h r) =
    let p = decoded a front h in
    subst (λ (l : List ℕ). Encoded (l ++ rest)) (sym p.2) (more p.0 p.1 r)

trails : (low high n b : ℕ) {s : List ℕ} → Open (step (Trail low high n) b) s → Open (Trail low high n) (b ∷ s)
trails low high n b (opens front h r) = opens (b ∷ front) (lacks h) r
  where
    lacks : Lacks (step (Trail low high n) b) front → Lacks (Trail low high n) (b ∷ front)
    lacks =
        choice (λ (e : Expect). Lacks e front → Lacks (Trail low high n) (b ∷ front)) (within low high b) (trailed n) Malformed
        (λ w k. (w.0, w.1, k)) (λ f k. absurd (never front k))

open_at : (e : Expect) (s : List ℕ) → after e s ≡ Lead → Open e s
open_at Lead [] q = opens [] tt none
open_at Lead (a ∷ s) q = opens [] tt (led a (open_at (lead_of a) s q))
open_at (Trail low high n) [] q = let z : ◌≡◌ {A = ℕ} 0 1 = cc in absurd (omega arith)
open_at (Trail low high n) (b ∷ s) q = trails low high n b (open_at (step (Trail low high n) b) s q)
open_at Malformed [] q = let z : ◌≡◌ {A = ℕ} 0 1 = cc in absurd (omega arith)
open_at Malformed (b ∷ s) q = absurd (dead (open_at Malformed s q))
  where
    dead : {t : List ℕ} → Open Malformed t → ⊥
    dead (opens front h r) = never front h

closed : {s : List ℕ} → Open Lead s → Encoded s
closed (opens [] h r) = r
closed (opens (b ∷ front) h r) = absurd h

pub well_formed→encoded : (s : List ℕ) → Holds (well_formed s) → Encoded s
well_formed→encoded s h = closed (open_at Lead s (well_formed→after s h))
