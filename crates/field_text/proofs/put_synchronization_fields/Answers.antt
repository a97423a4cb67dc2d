use Rattle.text.proofs.Puts.{put_then, put_last}
use Rattle.field_text.specs.Texts.{synchronization_text}
use Rattle.field_text.proofs.put_synchronization_fields.Goals as goal

pub returns : goal.returns
unfolding synchronization_text
returns c = put_then c.put_field.ensures (put_last c.put_field-2.ensures)
