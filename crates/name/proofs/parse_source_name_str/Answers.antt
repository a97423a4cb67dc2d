use mathlib.Core.Path.{ap, ◌∙◌}
use native.Mathlib.Nat.{sub-zero}
use Rattle.wire.proofs.Laws.{take_least}
use Rattle.name.specs.Name.{source_name_of}
use Rattle.name.proofs.parse_source_name_str.Goals as goal

pub returns : goal.returns
returns c = let s = c.args.field.now in
    c.name_in.ensures ∙ ap source_name_of (rw (sub-zero, c.least.ensures) (take_least s 64))
