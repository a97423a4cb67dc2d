use mathlib.Core.Path.{refl, ◌∙◌}
use native.Mathlib.Omega.{arith}
use Rattle.refusal.specs.declared.Refusal.{Refusal}
use Rattle.refusal.specs.Check.{discovery, ◌=?◌, ◌or◌}
use Rattle.discovery.specs.Layer.{discovery_checks}
use Rattle.failed_check.proofs.Laws.{by_last, among}
use Rattle.failed_check.proofs.Layers.{Same, layered, in_layer}
use Rattle.failed_check.proofs.extended_framing.in_discovery.Goals as goal

pub returns-in-1 : goal.returns-in-1
returns-in-1 c = let refused : Refusal = c.args.refusal in
    let own : Same (discovery_checks c.args.q.now) (refused) (layered c.args.q.now) = in_layer c.args.q.now (refused) c.requires.0 c.requires.1 in
    (own).0 ∙ by_last 1 discovery (layered c.args.q.now) (refused) _ (own).1 (omega arith) c.requires.1 c.at.ensures

pub returns-in-3 : goal.returns-in-3
returns-in-3 c = let refused : Refusal = c.args.refusal in
    let own : Same (discovery_checks c.args.q.now) (refused) (layered c.args.q.now) = in_layer c.args.q.now (refused) c.requires.0 c.requires.1 in
    (own).0 ∙ by_last 3 discovery (layered c.args.q.now) (refused) _ (own).1 (omega arith) c.requires.1 c.at-in-3.ensures

pub returns-in-16 : goal.returns-in-16
returns-in-16 c = let refused : Refusal = c.args.refusal in
    let own : Same (discovery_checks c.args.q.now) (refused) (layered c.args.q.now) = in_layer c.args.q.now (refused) c.requires.0 c.requires.1 in
    (own).0 ∙ by_last 16 discovery (layered c.args.q.now) (refused) _ (own).1 (omega arith) c.requires.1 c.at-in-16.ensures

pub returns-in-4 : goal.returns-in-4
returns-in-4 c = let refused : Refusal = c.args.refusal in
    let own : Same (discovery_checks c.args.q.now) (refused) (layered c.args.q.now) = in_layer c.args.q.now (refused) c.requires.0 c.requires.1 in
    (own).0 ∙ by_last 4 discovery (layered c.args.q.now) (refused) _ (own).1 (omega arith) c.requires.1 c.at-in-4.ensures

pub returns-in-5 : goal.returns-in-5
returns-in-5 c = let refused : Refusal = c.args.refusal in
    let own : Same (discovery_checks c.args.q.now) (refused) (layered c.args.q.now) = in_layer c.args.q.now (refused) c.requires.0 c.requires.1 in
    (own).0 ∙ by_last 5 discovery (layered c.args.q.now) (refused) _ (own).1 (omega arith) c.requires.1 c.at-in-5.ensures

pub returns-in_default : goal.returns-in_default
returns-in_default c = let refused : Refusal = c.args.refusal in
    let own : Same (discovery_checks c.args.q.now) (refused) (layered c.args.q.now) = in_layer c.args.q.now (refused) c.requires.0 c.requires.1 in
    let gone = c.in_default.in_default-own.rest in
    let number =
    among
    (λ (r : Refusal). r.number =? 1 or r.number =? 3 or r.number =? 16 or r.number =? 4 or r.number =? 5 or r.number =? 11)
    (layered c.args.q.now) (refused) refl (own).1 in
    (own).0
    ∙ by_last 11 discovery (layered c.args.q.now) (refused) _ (own).1
    (number gone.0.0.0.0.1 gone.0.0.0.1 gone.0.0.1 gone.0.1 gone.1) c.requires.1 c.at-in_default.ensures
