use Rattle.std.specs.Prelude.{ℕ, List, ◌≡◌, Ok, Err}
use mathlib.Core.Path.{refl, sym, ◌∙◌}
use Rattle.refusal.specs.Check.{dmp}
use Rattle.refusal.proofs.Laws.{handed_on, gone_on}
use Rattle.pdu.specs.Head.{info_of}
use Rattle.pdu.specs.declared.VectorLength.TheVariants.{One}
use Rattle.pdu.proofs.Head.{after_head, head_body, head_first}
use Rattle.dmp.specs.Layer.{dmp_of, body_of, body_checks, count_of}
use Rattle.dmp.proofs.parse.Goals as goal

by-head : (p : List ℕ) → dmp_of p ≡ after_head (body_of p) (info_of One dmp p)
unfolding dmp_of body_of
by-head p = head_first One dmp p (body_checks p) (λ len vec. Ok (count_of p))

pub returns-in_err-info : goal.returns-in_err-info
returns-in_err-info c = handed_on (head_body (body_of _)) c.in_err-info.ensures c.from_residual.ensures.1 ∙ sym (by-head _)

pub returns : goal.returns
returns c = gone_on (head_body (body_of _)) c.in_ok-info.ensures c.parse_body.ensures ∙ sym (by-head _)
