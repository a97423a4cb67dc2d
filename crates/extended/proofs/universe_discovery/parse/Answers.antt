use Rattle.std.specs.Prelude.{ℕ, List, ◌≡◌, Result, Ok, Err}
use mathlib.Core.Path.{refl, sym, ◌∙◌}
use native.Mathlib.Omega.{arith}
use Rattle.refusal.specs.declared.Refusal.{Refusal}
use Rattle.refusal.specs.Check.{reading}
use Rattle.refusal.proofs.Laws.{stop, pass, after, after_all, after_first, handed_on, gone_on}
use Rattle.name.specs.Name.{name_field, zero_at, source_name_checks, source_name_of}
use Rattle.name.proofs.Laws.{name_found}
use Rattle.pdu.specs.Head.{length_of}
use Rattle.discovery.specs.Layer.{discovery_of, discovery_checks, layer_of as page_of}
use Rattle.discovery.specs.declared.DiscoveryLayer.{DiscoveryLayer}
use Rattle.extended.specs.UniverseDiscovery.{start_checks, discovery_framing_of, discovery_part, layer_named}
use Rattle.extended.specs.declared.universe_discovery.DiscoveryFraming.{DiscoveryFraming}
use Rattle.extended.proofs.universe_discovery.parse.Goals as goal

-- the layer, by what its list and its name are found to be; q is the discovery layer's part
abbrev with_page : ℕ → DiscoveryLayer → Result DiscoveryFraming Refusal
with_page name l = Ok (record { name = name; fields = l.fields; universes = l.count })

abbrev with_name : List ℕ → ℕ → Result DiscoveryFraming Refusal
with_name q name = after Err (with_page name) (discovery_of q)

by_name : (p : List ℕ) (len : ℕ) →
    discovery_framing_of p len ≡ reading Err (start_checks p len) (after Err (with_name (discovery_part p len)) (source_name_of (name_field p)))
unfolding discovery_framing_of source_name_of discovery_of
by_name p len =
    let q = discovery_part p len in
    let n = zero_at (name_field p) in
    after_first Err (with_name q) (start_checks p len) (source_name_checks (name_field p)) (discovery_checks q) n (Ok (layer_named n q))
    (sym (after_all Err (with_page n) (discovery_checks q) (page_of q (length_of q))))

pub returns-then-p-end : goal.returns-then-p-end
unfolding discovery_framing_of
returns-then-p-end c = stop 0 _ _ _ (omega arith) c.refuse.ensures

pub returns-then-length-lt-E131_UNIVERSE_DISCOVERY_FRAMING_LAYER_MIN_LENGTH : goal.returns-then-length-lt-E131_UNIVERSE_DISCOVERY_FRAMING_LAYER_MIN_LENGTH
unfolding discovery_framing_of
returns-then-length-lt-E131_UNIVERSE_DISCOVERY_FRAMING_LAYER_MIN_LENGTH c = stop 1 _ _ _ (omega arith) c.refuse-then-length-lt-E131_UNIVERSE_DISCOVERY_FRAMING_LAYER_MIN_LENGTH.ensures

pub returns-in-Err : goal.returns-in-Err
returns-in-Err c = let p = c.args.p.now in
    pass _ _ _ (omega arith)
    (handed_on (with_name (discovery_part p c.args.length)) (name_found p (sym c.in-Err.is ∙ c.parse_source_name_str.ensures)) refl)
    ∙ sym (by_name _ _)

pub returns-in-Err-parse : goal.returns-in-Err-parse
returns-in-Err-parse c = let p = c.args.p.now in
    pass _ _ _ (omega arith)
    (gone_on (with_name (discovery_part p c.args.length)) (name_found p (sym c.in-Ok.is ∙ c.parse_source_name_str.ensures))
    (handed_on (with_page c.in-Ok.len) (sym c.in-Err-parse.is ∙ c.parse.ensures) refl))
    ∙ sym (by_name _ _)

pub returns-in-Ok-parse : goal.returns-in-Ok-parse
returns-in-Ok-parse c = let p = c.args.p.now in
    pass _ _ _ (omega arith)
    (gone_on (with_name (discovery_part p c.args.length)) (name_found p (sym c.in-Ok.is ∙ c.parse_source_name_str.ensures))
    (gone_on (with_page c.in-Ok.len) (sym c.in-Ok-parse.is ∙ c.parse.ensures) refl))
    ∙ sym (by_name _ _)
