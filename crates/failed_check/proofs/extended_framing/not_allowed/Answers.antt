use native.Mathlib.Omega.{arith}
use Rattle.refusal.specs.Check.{framing}
use Rattle.failed_check.proofs.Laws.{by_last}
use Rattle.failed_check.proofs.Layers.{synchronized, discovered, in_extended}
use Rattle.failed_check.proofs.extended_framing.not_allowed.Goals as goal

pub returns-then-u32_at-eq-VECTOR_E131_EXTENDED_SYNCHRONIZATION : goal.returns-then-u32_at-eq-VECTOR_E131_EXTENDED_SYNCHRONIZATION
returns-then-u32_at-eq-VECTOR_E131_EXTENDED_SYNCHRONIZATION c = let p = c.args.p.now in
    in_extended c.args.whole p c.args.refusal c.requires.0 _ c.requires.2
    (λ v e. by_last 5 framing (synchronized c.args.whole p) c.args.refusal _ e c.requires.1 c.requires.2 c.at.ensures)
    (λ v e. absurd (v (omega arith)))

pub returns : goal.returns
returns c = let p = c.args.p.now in
    in_extended c.args.whole p c.args.refusal c.requires.0 _ c.requires.2
    (λ v e. absurd (omega arith))
    (λ v e. by_last 5 framing (discovered c.args.whole p) c.args.refusal _ e c.requires.1 c.requires.2 c.at-2.ensures)
