-- What the walk finds is what the definition says. Assumes nothing.
use Rattle.std.specs.Prelude.{ℕ, ◌≡◌, Bool, true, false, List, Ok, Err, is_err}
use Rattle.std.proofs.Common.{refl, sym, subst, ap, ◌∙◌}
use Rattle.refusal.specs.Check.{Checked, checked_of}
use Rattle.refusal.proofs.Tests.{Holds, Fails, chosen, passed_over, true_not_false}
use Rattle.refusal.proofs.Laws.{All, all_hold, accepted}
use Rattle.name.proofs.Points.{well_formed→encoded}
use Rattle.name_pattern.specs.Characters.{characters_of}
use Rattle.name_pattern.specs.Rule.{takes_whole}
use Rattle.name_pattern.specs.Pattern.{pattern_checks, asked, picks_of}
use Rattle.name_pattern.specs.Walk.{Tells, Fits}
use Rattle.name_pattern.proofs.Told.{told_so, told_not}
use Rattle.name_pattern.proofs.Rule.{takes_all}
use Rattle.name_pattern.proofs.Texts.{spelt}
use Rattle.name_pattern.proofs.Walks.{matched→fits, fits→matched}

tells_as : {A B : Type 0} (b : Bool) → (A → B) → (B → A) → Tells b A → Tells b B
tells_as true there back t = there t
tells_as false there back t = λ x. t (back x)

picks_fits : (p n : List ℕ) → Holds (asked p n) → Tells (picks_of p n) (Fits p n)
unfolding picks_of
picks_fits p n h =
    let pattern = spelt (well_formed→encoded p h.1.0) in
    let name = spelt (well_formed→encoded n h.1.1) in
    let computed = takes_whole (characters_of p) (characters_of n) in
    subst (λ (b : Bool). Tells b (Fits p n)) (chosen (asked p n) computed false h refl)
    (tells_as computed (λ m. matched→fits m pattern name) (λ f. fits→matched pattern name f) (takes_all (characters_of p) (characters_of n)))

pub not_asked : (p n : List ℕ) → Fails (asked p n) → false ≡ picks_of p n
unfolding picks_of
not_asked p n f = passed_over (asked p n) (takes_whole (characters_of p) (characters_of n)) false f refl

-- what `check_pattern` answered
pub refused : (p n : List ℕ) {r : Checked} → r ≡ checked_of (pattern_checks p) → is_err r ≡ true → false ≡ picks_of p n
unfolding checked_of
refused p n e h =
    let checks = pattern_checks p in
    not_asked p n (λ a b. absurd (true_not_false (sym h ∙ ap is_err (e ∙ all_hold Err checks (Ok tt) (a, (b, tt))))))

pub allowed : (p : List ℕ) {r : Checked} → r ≡ checked_of (pattern_checks p) → is_err r ≡ false → All (pattern_checks p)
unfolding checked_of
allowed p e h =
    accepted Err (λ (y : Checked). is_err y ≡ false) (λ r q. true_not_false q) (pattern_checks p) (Ok tt) (ap is_err (sym e) ∙ h)

pub picked : (p n : List ℕ) → Holds (asked p n) → Fits p n → true ≡ picks_of p n
picked p n h f = sym (told_so (picks_of p n) (picks_fits p n h) f)

pub not_picked : (p n : List ℕ) → Holds (asked p n) → (Fits p n → ⊥) → false ≡ picks_of p n
not_picked p n h f = sym (told_not (picks_of p n) (picks_fits p n h) f)
