use Prim.Native.Nat.{ℕ, ◌-◌}
use mathlib.Core.List.{List}
use mathlib.Core.Path.{◌≡◌, refl, sym, ap, ap₂, ◌∙◌}
use native.Mathlib.Omega.{arith}
use lib.ListN.{length, take, drop}
use Rattle.refusal.specs.Check.{reading, Checked, checked_of}
use Rattle.std.specs.Prelude.{Ok, Err}
use Rattle.wire.proofs.Laws.{rest}
use Rattle.refusal.proofs.Laws.{stop, pass, after_check, check_last, handed_on, gone_on}
use Rattle.discovery.specs.Universes.{list_checks}
use Rattle.discovery.specs.Layer.{body_of, own_checks, layer_of, list_part, count_in}
use Rattle.discovery.proofs.parse_body.Goals as goal

by-list : (p : List ℕ) (len vec : ℕ) →
    body_of p len vec
    ≡ reading Err (own_checks p len vec) (after_check Err (Ok (layer_of p len)) (checked_of (list_checks (list_part p) (count_in len))))
unfolding body_of
by-list p len vec = check_last Err (own_checks p len vec) (list_checks (list_part p) (count_in len)) (Ok (layer_of p len))

pub returns-then-length-p : goal.returns-then-length-p
unfolding body_of
returns-then-length-p c = stop 0 _ _ _ (omega arith) c.refuse.ensures

pub returns-then-vector-ne-VECTOR_UNIVERSE_DISCOVERY_UNIVERSE_LIST : goal.returns-then-vector-ne-VECTOR_UNIVERSE_DISCOVERY_UNIVERSE_LIST
unfolding body_of
returns-then-vector-ne-VECTOR_UNIVERSE_DISCOVERY_UNIVERSE_LIST c = stop 1 _ _ _ (omega arith) c.refuse-then-vector-ne-VECTOR_UNIVERSE_DISCOVERY_UNIVERSE_LIST.ensures

pub returns-then-length-lt-E131_UNIVERSE_DISCOVERY_LAYER_MIN_LENGTH : goal.returns-then-length-lt-E131_UNIVERSE_DISCOVERY_LAYER_MIN_LENGTH
unfolding body_of
returns-then-length-lt-E131_UNIVERSE_DISCOVERY_LAYER_MIN_LENGTH c = stop 2 _ _ _ (omega arith) c.refuse-then-length-lt-E131_UNIVERSE_DISCOVERY_LAYER_MIN_LENGTH.ensures

pub returns-then-length-gt-E131_UNIVERSE_DISCOVERY_LAYER_MAX_LENGTH : goal.returns-then-length-gt-E131_UNIVERSE_DISCOVERY_LAYER_MAX_LENGTH
unfolding body_of
returns-then-length-gt-E131_UNIVERSE_DISCOVERY_LAYER_MAX_LENGTH c = stop 2 _ _ _ (omega arith) c.refuse-then-length-gt-E131_UNIVERSE_DISCOVERY_LAYER_MAX_LENGTH.ensures

pub returns-then-last_page-page : goal.returns-then-last_page-page
unfolding body_of
returns-then-last_page-page c = stop 3 _ _ _ (omega arith) c.refuse-then-last_page-page.ensures

-- the code has the rest of the layer for the list's part
listed : (p : List ℕ) (n : ℕ) {x : Checked} → x ≡ checked_of (list_checks (take (length p - 8) (drop 8 p)) (count_in n)) →
    x ≡ checked_of (list_checks (list_part p) (count_in n))
listed p n e = e ∙ ap (λ (l : List ℕ). checked_of (list_checks l (count_in n))) (rest p 8)

pub returns-in_err-parse_universe_list : goal.returns-in_err-parse_universe_list
returns-in_err-parse_universe_list c = let a = c.args in
    pass _ _ _ (omega arith) (handed_on (λ t. Ok (layer_of a.p.now a.length)) (listed a.p.now a.length c.in_err-parse_universe_list.ensures) c.from_residual.ensures.1)
    ∙ sym (by-list a.p.now a.length a.vector)

pub returns : goal.returns
returns c = let a = c.args in
    pass _ _ _ (omega arith) (gone_on (λ t. Ok (layer_of a.p.now a.length)) (listed a.p.now a.length c.in_ok-parse_universe_list.ensures)
    (ap₂ (λ (x y : ℕ). Ok (record { fields = record { page = x; last_page = y }; count = count_in a.length })) c.byte_at-page.ensures c.byte_at-last_page.ensures))
    ∙ sym (by-list a.p.now a.length a.vector)
