use native.Mathlib.Omega.{arith}
use Rattle.refusal.specs.Check.{framing}
use Rattle.failed_check.proofs.Laws.{by_last, by_test}
use Rattle.failed_check.proofs.Layers.{synchronized, discovered, in_extended}
use Rattle.failed_check.proofs.extended_framing.too_long.Goals as goal

pub returns-then-whole-layer_length : goal.returns-then-whole-layer_length
returns-then-whole-layer_length c = let p = c.args.p.now in
    in_extended c.args.whole p c.args.refusal c.requires.0 _ c.requires.2
    (λ v e. by_test 14 framing (synchronized c.args.whole p) c.args.refusal _ e c.requires.1 c.requires.2 0 (omega arith) c.at.ensures)
    (λ v e. by_test 14 framing (discovered c.args.whole p) c.args.refusal _ e c.requires.1 c.requires.2 0 (omega arith) c.at.ensures)

pub returns : goal.returns
returns c = let p = c.args.p.now in
    in_extended c.args.whole p c.args.refusal c.requires.0 _ c.requires.2
    (λ v e. by_last 14 framing (synchronized c.args.whole p) c.args.refusal _ e c.requires.1 c.requires.2 (omega arith, c.at-2.ensures))
    (λ v e. by_last 14 framing (discovered c.args.whole p) c.args.refusal _ e c.requires.1 c.requires.2 (omega arith, c.at-2.ensures))
