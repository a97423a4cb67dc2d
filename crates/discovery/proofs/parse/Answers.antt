use Rattle.std.specs.Prelude.{ℕ, List, ◌≡◌, Ok, Err}
use mathlib.Core.Path.{sym, ◌∙◌}
use Rattle.refusal.specs.Check.{discovery}
use Rattle.refusal.proofs.Laws.{handed_on, gone_on}
use Rattle.pdu.specs.Head.{info_of}
use Rattle.pdu.specs.declared.VectorLength.TheVariants.{Four}
use Rattle.pdu.proofs.Head.{after_head, head_body, head_first}
use Rattle.discovery.specs.Layer.{discovery_of, body_of, body_checks, layer_of}
use Rattle.discovery.proofs.parse.Goals as goal

by-head : (p : List ℕ) → discovery_of p ≡ after_head (body_of p) (info_of Four discovery p)
unfolding discovery_of body_of
by-head p = head_first Four discovery p (body_checks p) (λ len vec. Ok (layer_of p len))

pub returns-in_err-info : goal.returns-in_err-info
returns-in_err-info c = handed_on (head_body (body_of _)) c.in_err-info.ensures c.from_residual.ensures.1 ∙ sym (by-head _)

pub returns : goal.returns
returns c = gone_on (head_body (body_of _)) c.in_ok-info.ensures c.parse_body.ensures ∙ sym (by-head _)
