use Rattle.std.proofs.Common.{sym, ap, ◌∙◌, arith}
use Rattle.text.specs.Digits.{decimal}
use Rattle.text.proofs.Decimals.{decimal_printed}
use Rattle.text.proofs.Puts.{put_as}
use Rattle.text.proofs.Text.put_decimal.Goals as goal

pub returns : goal.returns
returns c = put_as c.put.ensures (sym (c.as_bytes.ensures.value ∙ c.format.ensures.text ∙ decimal_printed _ (omega arith) ∙ ap decimal (omega arith)))
