-- For texts the rule byte by byte is the rule over characters. Assumes nothing.
use Prim.Native.Nat.{ℕ}
use mathlib.Core.Path.{◌≡◌, refl, sym, ap, subst, subst₂, ◌∙◌}
use mathlib.Core.List.{List, [], ◌∷◌, ◌++◌, append_assoc, append-nil}
use native.Mathlib.Omega.{arith}
use Rattle.refusal.specs.Check.{◌=?◌}
use Rattle.refusal.proofs.Tests.{Holds, Fails, clash, chosen, passed_over, decide}
use Rattle.name.specs.Utf8.{step}
use Rattle.name.specs.CodePoint.{scalar, encode}
use Rattle.name.specs.CodePoint as point
use Rattle.name.specs.declared.utf8.Expect.{Expect}
use Rattle.name.specs.declared.utf8.Expect.TheVariants.{Lead}
use Rattle.name.proofs.Longest.{after, well_formed→after, after→well_formed}
use Rattle.name.proofs.Points.{encoded→well_formed, well_formed→encoded}
use Rattle.name_pattern.specs.Characters.{goes_on}
use Rattle.name_pattern.specs.Rule.{star, question, Matches, ends, run, one, itself}
use Rattle.name_pattern.specs.Walk.{star_byte, question_byte, plain, Inside, beyond, Fits}
use Rattle.name_pattern.specs.Walk as walk
use Rattle.name_pattern.proofs.Lists.{conses, tails, heads}
use Rattle.name_pattern.proofs.Texts.{Spelt, none, more, Trailing, Character, character, Plains, plains, encode_star, encode_question, begins, outside, spelt}

before_same : {s t : List ℕ} (u : List ℕ) → s ≡ t → s ++ u ≡ t ++ u
before_same u e = ap (λ (l : List ℕ). l ++ u) e

-- The first character of a text, and where a text parts as its characters do.
record Begun (c : List ℕ) (cs : List (List ℕ)) (s : List ℕ) : Type 0 where
  code : ℕ
  is_scalar : Holds (scalar code)
  coded : c ≡ encode code
  later : List ℕ
  bytes : s ≡ encode code ++ later
  spells : Spelt cs later

begun : {c : List ℕ} {cs : List (List ℕ)} {s : List ℕ} → Spelt (c ∷ cs) s → Begun c cs s
begun (more k {s = s} h r) = record { code = k; is_scalar = h; coded = refl; later = s; bytes = refl; spells = r }

record Parted (cs ds : List (List ℕ)) (s : List ℕ) : Type 0 where
  front : List ℕ
  back : List ℕ
  bytes : s ≡ front ++ back
  spells : Spelt ds back

parted : (cs ds : List (List ℕ)) {s : List ℕ} → Spelt (cs ++ ds) s → Parted cs ds s
parted [] ds {s} h = record { front = []; back = s; bytes = refl; spells = h }
parted (c ∷ cs) ds h =
    let b = begun h in
    let w = parted cs ds b.spells in
    record {
      front = encode b.code ++ w.front;
      back = w.back;
      bytes = b.bytes ∙ rw append_assoc (ap (λ (l : List ℕ). encode b.code ++ l) w.bytes);
      spells = w.spells;
    }

-- a character that is neither a star nor a question mark has no byte that is one
stands_for_itself : (k : ℕ) → (encode k ≡ star → ⊥) → (encode k ≡ question → ⊥) → Holds (plain k)
stands_for_itself k f g = (λ e. f (ap encode e ∙ encode_star), λ e. g (ap encode e ∙ encode_question))

-- What is taken by characters is taken byte by byte.
beyond_trailing : (s n : List ℕ) → Trailing s → (Inside n → ⊥) → beyond (s ++ n) ≡ n
unfolding beyond
beyond_trailing [] [] h i = refl
beyond_trailing [] (b ∷ n) h i = sym (passed_over (goes_on b) (beyond n) (b ∷ n) (begins b i) refl)
beyond_trailing (b ∷ s) n h i = sym (chosen (goes_on b) (beyond (s ++ n)) (b ∷ s ++ n) h.0 (sym (beyond_trailing s n h.1 i)))

eat_all : {p n : List ℕ} (s : List ℕ) → Fits (star_byte ∷ p) n → Fits (star_byte ∷ p) (s ++ n)
eat_all [] t = t
eat_all (b ∷ s) t = walk.eat refl (eat_all s t)

one_taken : {p n : List ℕ} (l : List ℕ) → Character l → (Inside n → ⊥) → Fits p n → Fits (question_byte ∷ p) (l ++ n)
one_taken [] h i t = absurd h
one_taken {p} {n} (b ∷ s) h i t = walk.one {p = p} {n = s ++ n} refl h.0 (rw (beyond_trailing s n h.1 i) t)

bytes_taken : {p n : List ℕ} (l : List ℕ) → Plains l → Fits p n → Fits (l ++ p) (l ++ n)
bytes_taken [] h t = t
bytes_taken (b ∷ l) h t = walk.byte h.0 refl (bytes_taken l h.1 t)

pub matched→fits : {p n : List (List ℕ)} → Matches p n → {P N : List ℕ} → Spelt p P → Spelt n N → Fits P N
matched→fits ends none none = walk.ends
matched→fits (run {c} {p} {n} s e m) sp sn =
    let b = begun sp in
    let w = parted s n sn in
    subst₂ Fits (sym (b.bytes ∙ before_same b.later (sym b.coded ∙ e))) (sym w.bytes)
    (eat_all w.front (walk.skip refl (matched→fits m b.spells w.spells)))
matched→fits (one {c} {x} e m) sp sn =
    let b = begun sp in
    let w = begun sn in
    subst₂ Fits (sym (b.bytes ∙ before_same b.later (sym b.coded ∙ e))) (sym w.bytes)
    (one_taken (encode w.code) (character w.code) (outside w.spells) (matched→fits m b.spells w.spells))
matched→fits (itself {c} {x} f g e m) sp sn =
    let b = begun sp in
    let w = begun sn in
    let alike : encode b.code ≡ encode w.code = sym b.coded ∙ e ∙ w.coded in
    let plain_code = stands_for_itself b.code (λ q. f (b.coded ∙ q)) (λ q. g (b.coded ∙ q)) in
    subst₂ Fits (sym b.bytes) (sym (w.bytes ∙ before_same w.later (sym alike)))
    (bytes_taken (encode b.code) (plains b.code plain_code) (matched→fits m b.spells w.spells))

-- And back. What is left of a name is a text, perhaps behind the last bytes of a character, in whose middle a star stopped. A star leaves such
-- a rest again.
record Left (p : List ℕ) (n : List (List ℕ)) : Type 0 where
  front : List (List ℕ)
  back : List (List ℕ)
  parts : n ≡ front ++ back
  inner : List ℕ
  trails : Trailing inner
  bytes : List ℕ
  spells : Spelt back bytes
  fits : Fits p (inner ++ bytes)

left_here : {p l : List ℕ} (t : List ℕ) → Trailing t → {n : List (List ℕ)} {N : List ℕ} → Spelt n N → l ≡ t ++ N → Fits p l → Left p n
left_here {p} t h {n} {N} k e f = record {
  front = [];
  back = n;
  parts = refl;
  inner = t;
  trails = h;
  bytes = N;
  spells = k;
  fits = subst (Fits p) e f;
}

-- one character more
left_more : {p : List ℕ} {n : List (List ℕ)} (x : List ℕ) → Left p n → Left p (x ∷ n)
left_more x l = record {
  front = x ∷ l.front;
  back = l.back;
  parts = ap (λ (cs : List (List ℕ)). x ∷ cs) l.parts;
  inner = l.inner;
  trails = l.trails;
  bytes = l.bytes;
  spells = l.spells;
  fits = l.fits;
}

-- the first byte of a character, and the others
apart : (l : List ℕ) → Character l → (b : ℕ) × (s : List ℕ) × (l ≡ b ∷ s) × Fails (goes_on b) × Trailing s
apart [] h = absurd h
apart (b ∷ s) h = (b, s, refl, h.0, h.1)

star_leaves : {c : ℕ} {p l : List ℕ} → c ≡ star_byte → Fits (c ∷ p) l → (t : List ℕ) → Trailing t → {n : List (List ℕ)} {N : List ℕ} → Spelt n N → l ≡ t ++ N → Left p n
star_leaves s (walk.skip e f) t h k q = left_here t h k q f
star_leaves s (walk.eat e f) (a ∷ t) h k q = star_leaves s f t h.1 k (tails q)
star_leaves s (walk.eat e f) [] h none q = let z : ◌≡◌ {A = ℕ} 0 1 = cc in absurd (omega arith)
star_leaves s (walk.eat e f) [] h (more c {s = m} k r) q =
    let a = apart (encode c) (character c) in
    left_more (encode c) (star_leaves s f a.1 a.4 r (tails (q ∙ before_same m a.2)))
star_leaves s (walk.one e g f) t h k q = absurd (omega arith)
star_leaves s (walk.byte g e f) t h k q = absurd (g.0 s)

-- a name that is not used up, and begins inside no character: its first character
record First (b : ℕ) (m : List ℕ) (n : List (List ℕ)) : Type 0 where
  code : ℕ
  is_scalar : Holds (scalar code)
  trail : List ℕ
  trails : Trailing trail
  coded : encode code ≡ b ∷ trail
  later : List (List ℕ)
  parts : n ≡ encode code ∷ later
  bytes : List ℕ
  spells : Spelt later bytes
  rest : m ≡ trail ++ bytes

first : {b : ℕ} {m : List ℕ} → Fails (goes_on b) → (t : List ℕ) → Trailing t → {n : List (List ℕ)} {N : List ℕ} → Spelt n N → b ∷ m ≡ t ++ N → First b m n
first {b} g (a ∷ t) h k q = let e : b ≡ a = heads q in absurd (clash (goes_on a) h.0 (subst (λ (x : ℕ). Fails (goes_on x)) e g))
first g [] h none q = let z : ◌≡◌ {A = ℕ} 0 1 = cc in absurd (omega arith)
first {b} {m} g [] h (more c {cs = cs} {s = r} k x) q =
    let a = apart (encode c) (character c) in
    let j : b ∷ m ≡ a.0 ∷ (a.1 ++ r) = q ∙ before_same r a.2 in
    record {
      code = c;
      is_scalar = k;
      trail = a.1;
      trails = a.4;
      coded = a.2 ∙ ap (λ (y : ℕ). y ∷ a.1) (sym (heads j));
      later = cs;
      parts = refl;
      bytes = r;
      spells = x;
      rest = tails j;
    }

-- what a question mark takes
one_took : {c : ℕ} {p l : List ℕ} → c ≡ question_byte → Fits (c ∷ p) l → (b : ℕ) × (m : List ℕ) × (l ≡ b ∷ m) × Fails (goes_on b) × Fits p (beyond m)
one_took q (walk.skip e f) = absurd (omega arith)
one_took q (walk.eat e f) = absurd (omega arith)
one_took q (walk.one {b = b} {n = m} e g f) = (b, m, refl, g, f)
one_took q (walk.byte g e f) = absurd (g.1 q)

-- what plain bytes take
bytes_took : {p : List ℕ} (l : List ℕ) {m : List ℕ} → Plains l → Fits (l ++ p) m → (u : List ℕ) × (m ≡ l ++ u) × Fits p u
bytes_took [] {m} h f = (m, refl, f)
bytes_took (c ∷ l) h (walk.skip e f) = absurd (h.0.0 e)
bytes_took (c ∷ l) h (walk.eat e f) = absurd (h.0.0 e)
bytes_took (c ∷ l) h (walk.one e g f) = absurd (h.0.1 e)
bytes_took (c ∷ l) h (walk.byte {b = b} g e f) =
    let r = bytes_took l h.1 f in
    (r.0, conses (sym e) r.1, r.2)

-- No character begins another one.
after_++ : (e : Expect) (s t : List ℕ) → after e (s ++ t) ≡ after (after e s) t
after_++ e [] t = refl
after_++ e (b ∷ s) t = after_++ (step e b) s t

after_code : (c : ℕ) → Holds (scalar c) → after Lead (encode c) ≡ Lead
after_code c h = well_formed→after (encode c) (encoded→well_formed (rw append-nil at (point.more c h point.none)))

trailing_none : (y : List ℕ) → Trailing y → (Inside y → ⊥) → y ≡ []
trailing_none [] h i = refl
trailing_none (b ∷ y) h i = absurd (i h.0)

-- bytes that go on, before others, and before bytes that begin inside no character: they are the first of them
shorter : (s u t n : List ℕ) → Trailing s → (Inside n → ⊥) → s ++ u ≡ t ++ n → (y : List ℕ) × (t ≡ s ++ y) × (u ≡ y ++ n)
shorter [] u t n h i e = (t, refl, e)
shorter (a ∷ s) u [] [] h i e = let z : ◌≡◌ {A = ℕ} 0 1 = cc in absurd (omega arith)
shorter (a ∷ s) u [] (b ∷ n) h i e = let z : a ≡ b = heads e in absurd (i (subst (λ (x : ℕ). Holds (goes_on x)) z h.0))
shorter (a ∷ s) u (b ∷ t) n h i e =
    let r = shorter s u t n h.1 i (tails e) in
    (r.0, conses (sym (heads e)) r.1, r.2)

trailing_back : (s y : List ℕ) → Trailing (s ++ y) → Trailing y
trailing_back [] y h = h
trailing_back (b ∷ s) y h = trailing_back s y h.1

-- a character whose bytes begin a name is its first
record Led (c : ℕ) (u : List ℕ) (n : List (List ℕ)) : Type 0 where
  later : List (List ℕ)
  parts : n ≡ encode c ∷ later
  spells : Spelt later u

led : (c : ℕ) → Holds (scalar c) → (u t : List ℕ) → Trailing t → {n : List (List ℕ)} {N : List ℕ} → Spelt n N → t ++ N ≡ encode c ++ u → Led c u n
led c h u t k {n} x e =
    let a = apart (encode c) (character c) in
    let f : First a.0 (a.1 ++ u) n = first a.3 t k x (before_same u (sym a.2) ∙ sym e) in
    let g = shorter a.1 u f.trail f.bytes a.4 (outside f.spells) f.rest in
    let y : List ℕ = g.0 in
    let whole : encode f.code ≡ encode c ++ y = f.coded ∙ ap (λ (l : List ℕ). a.0 ∷ l) g.1 ∙ before_same y (sym a.2) in
    let ended : after Lead y ≡ Lead =
    ap (λ (o : Expect). after o y) (sym (after_code c h)) ∙ sym (after_++ Lead (encode c) y) ∙ ap (after Lead) (sym whole) ∙ after_code f.code f.is_scalar in
    let trails : Trailing y = trailing_back a.1 y (subst Trailing g.1 f.trails) in
    let empty : y ≡ [] = trailing_none y trails (outside (spelt (well_formed→encoded y (after→well_formed y ended)))) in
    let alike : encode f.code ≡ encode c = whole ∙ ap (λ (l : List ℕ). encode c ++ l) empty ∙ append-nil (encode c) in
    record {
      later = f.later;
      parts = f.parts ∙ ap (λ (l : List ℕ). l ∷ f.later) alike;
      spells = subst (Spelt f.later) (sym (g.2 ∙ before_same f.bytes empty)) f.spells;
    }

-- what follows a character of the pattern takes what is left
abbrev Follows : List (List ℕ) → List ℕ → Type 0
Follows p P = (t : List ℕ) (n : List (List ℕ)) (N : List ℕ) → Trailing t → Spelt n N → Fits P (t ++ N) → Matches p n

match_star : (c : List ℕ) (p : List (List ℕ)) (P : List ℕ) → c ≡ star → Follows p P → Follows (c ∷ p) (star_byte ∷ P)
match_star c p P s ih t n N h k f =
    let l = star_leaves refl f t h k refl in
    subst (Matches (c ∷ p)) (sym l.parts) (run l.front s (ih l.inner l.back l.bytes l.trails l.spells l.fits))

match_question : (c : List ℕ) (p : List (List ℕ)) (P : List ℕ) → c ≡ question → Follows p P → Follows (c ∷ p) (question_byte ∷ P)
match_question c p P q ih t n N h k f =
    let o = one_took refl f in
    let g : First o.0 o.1 n = first o.3 t h k (sym o.2) in
    let b : beyond o.1 ≡ g.bytes = ap beyond g.rest ∙ beyond_trailing g.trail g.bytes g.trails (outside g.spells) in
    subst (Matches (c ∷ p)) (sym g.parts) (one q (ih [] g.later g.bytes tt g.spells (subst (Fits P) b o.4)))

-- the characters that stand for themselves
not_special : (k : ℕ) → Holds (plain k) → (encode k ≡ star → ⊥) × (encode k ≡ question → ⊥)
not_special k h = (λ e. (subst Plains e (plains k h)).0.0 refl, λ e. (subst Plains e (plains k h)).0.1 refl)

match_plain : (k : ℕ) → Holds (scalar k) → Holds (plain k) → (p : List (List ℕ)) (P : List ℕ) → Follows p P → Follows (encode k ∷ p) (encode k ++ P)
match_plain k s q p P ih t n N h x w =
    let o = bytes_took (encode k) (plains k q) w in
    let l = led k s o.0 t h x o.1 in
    let (f, g) = not_special k q in
    subst (Matches (encode k ∷ p)) (sym l.parts) (itself f g refl (ih [] l.later o.0 tt l.spells o.2))

match_next : (k : ℕ) → Holds (scalar k) → (p : List (List ℕ)) (P : List ℕ) → Follows p P → Follows (encode k ∷ p) (encode k ++ P)
match_next k s p P ih =
    decide (k =? star_byte) (λ e. special (ap encode e ∙ encode_star) (match_star (encode k) p P (ap encode e ∙ encode_star) ih))
    (λ f. decide (k =? question_byte) (λ e. special (ap encode e ∙ encode_question) (match_question (encode k) p P (ap encode e ∙ encode_question) ih))
    (λ g. match_plain k s (f, g) p P ih))
  where
    special : {c : List ℕ} → encode k ≡ c → Follows (encode k ∷ p) (c ++ P) → Follows (encode k ∷ p) (encode k ++ P)
    special e w = subst (Follows (encode k ∷ p)) (before_same P (sym e)) w

used_up : {l : List ℕ} → Fits [] l → l ≡ []
used_up walk.ends = refl

nothing_left : (t : List ℕ) {n : List (List ℕ)} {N : List ℕ} → Spelt n N → t ++ N ≡ [] → [] ≡ n
nothing_left [] none e = refl
nothing_left [] (more c {s = s} h r) e =
    let b : _ ∷ _ ≡ [] = sym (before_same s (apart (encode c) (character c)).2) ∙ e in
    let z : ◌≡◌ {A = ℕ} 0 1 = cc in absurd (omega arith)
nothing_left (b ∷ t) h e = let z : ◌≡◌ {A = ℕ} 0 1 = cc in absurd (omega arith)

follows : {p : List (List ℕ)} {P : List ℕ} → Spelt p P → Follows p P
follows none = λ t n N h k f. subst (Matches []) (nothing_left t k (used_up f)) ends
follows (more c {cs = cs} {s = s} h r) = match_next c h cs s (follows r)

pub fits→matched : {p n : List (List ℕ)} {P N : List ℕ} → Spelt p P → Spelt n N → Fits P N → Matches p n
fits→matched {n = n} {N = N} k x f = follows k [] n N tt x f
