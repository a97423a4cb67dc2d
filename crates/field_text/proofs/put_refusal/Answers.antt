use Rattle.text.proofs.Puts.{put_then, put_last}
use Rattle.field_text.specs.Texts.{refusal_text}
use Rattle.field_text.proofs.put_refusal.Goals as goal

pub returns : goal.returns
unfolding refusal_text
returns c = put_then c.put_field.ensures (put_then c.put_field-2.ensures (put_last c.put_field-3.ensures))
