use Rattle.std.specs.Prelude.{ℕ, List, ◌≡◌, Ok}
use mathlib.Core.Path.{sym, ◌∙◌}
use Rattle.refusal.specs.Check.{framing}
use Rattle.refusal.proofs.Laws.{handed_on, gone_on}
use Rattle.pdu.specs.Head.{info_of}
use Rattle.pdu.specs.declared.VectorLength.TheVariants.{Four}
use Rattle.pdu.proofs.Head.{after_head, head_body, head_first}
use Rattle.extended.specs.Extended.{extended_of, body_of, body_checks, layer_of}
use Rattle.extended.proofs.parse.Goals as goal

by-head : (whole : ℕ) (p : List ℕ) → extended_of whole p ≡ after_head (body_of whole p) (info_of Four framing p)
unfolding extended_of body_of
by-head whole p = head_first Four framing p (body_checks whole p) (λ len vec. Ok (layer_of p len vec))

pub returns-in_err-info : goal.returns-in_err-info
returns-in_err-info c = handed_on (head_body (body_of _ _)) c.in_err-info.ensures c.from_residual.ensures.1 ∙ sym (by-head _ _)

pub returns : goal.returns
returns c = gone_on (head_body (body_of _ _)) c.in_ok-info.ensures c.parse_body.ensures ∙ sym (by-head _ _)
