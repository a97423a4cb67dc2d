use Rattle.text.proofs.Puts.{put_then, put_last}
use Rattle.field_text.specs.Texts.{data_fields_text}
use Rattle.field_text.proofs.put_data_fields.Goals as goal

pub returns : goal.returns
unfolding data_fields_text
returns c =
    put_then c.put_field.ensures
    (put_then c.put_field-2.ensures
    (put_then c.put_field-3.ensures (put_then c.put_flags.ensures (put_last c.put_field-4.ensures))))
