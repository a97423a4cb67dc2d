-- The zero decides: fields that are alike up to it are answered alike, whatever stands behind. Assumes nothing.
use Prim.Native.Nat.{ℕ, zero, suc, ◌+◌, ◌≤◌, ◌<◌, min}
use mathlib.Core.Path.{◌≡◌, refl, sym, ap, ◌∙◌}
use mathlib.Core.List.{List, [], ◌∷◌}
use mathlib.Core.Bool.{true}
use native.Mathlib.Omega.{arith}
use lib.ListN.{length, take, length-take}
use lib.Seq.{take-take}
use Rattle.refusal.specs.Check.{◌≤?◌, ◌=?◌, check, refusal, framing, reading}
use Rattle.refusal.specs.declared.Reason.TheVariants as why
use Rattle.refusal.proofs.Tests.{chosen, passed_over, decide, decided}
use Rattle.name.specs.Utf8.{whole_chars, well_formed}
use Rattle.name.specs.Name.{zero_at, text_of, Alike, source_name_of}
use Rattle.std.specs.Prelude.{Result, Ok, Err}
use Rattle.refusal.specs.declared.Refusal.{Refusal}

-- the first zero of a front is that of the list, or there is none
zero_cut : (n : ℕ) (s : List ℕ) → zero_at (take n s) ≡ min n (zero_at s)
unfolding zero_at
zero_cut zero s = omega arith
zero_cut (suc n) [] = omega arith
zero_cut (suc n) (b ∷ s) =
    let whole = suc (zero_at s) in
    let cut = suc (zero_at (take n s)) in
    decide (b =? 0) (λ z. omega (arith, chosen (b =? 0) 0 cut z refl, chosen (b =? 0) 0 whole z refl))
    (λ f. omega (arith, zero_cut n s, passed_over (b =? 0) 0 cut f refl, passed_over (b =? 0) 0 whole f refl))

-- what is answered where there is a zero, by the name before it
named : ℕ → List ℕ → Result ℕ Refusal
named n name = reading Err (check (well_formed name) (refusal 7 framing (whole_chars name)) why.NameNotUtf8 6 ∷ []) (Ok n)

by_name : (field : List ℕ) → zero_at field < length field → source_name_of field ≡ named (zero_at field) (text_of field)
unfolding source_name_of reading named
by_name field h =
    let holds : zero_at field + 1 ≤ length field = omega arith in
    rw (decided (zero_at field + 1 ≤? length field) true holds)

pub alike : (field other : List ℕ) → Alike field other → source_name_of field ≡ source_name_of other
alike field other a =
    let n = zero_at field in
    let cut : zero_at (take (n + 1) field) ≡ zero_at (take (n + 1) other) = ap zero_at a.front in
    let long : length (take (n + 1) field) ≡ length (take (n + 1) other) = ap length a.front in
    let same : zero_at other ≡ n = omega (arith, cut, zero_cut (n + 1) field, zero_cut (n + 1) other) in
    let text : text_of field ≡ take n other =
    sym (take-take n (n + 1) field (omega arith)) ∙ ap (take n) a.front ∙ take-take n (n + 1) other (omega arith) in
    let ended : zero_at other < length other = omega (arith, same, a.ended, long, length-take (n + 1) field, length-take (n + 1) other) in
    by_name field a.ended ∙ ap (named n) text ∙ sym (rw same at (by_name other ended))
