use mathlib.Core.Path.{◌∙◌}
use Rattle.name.proofs.Laws.{bytes_field}
use Rattle.name.proofs.pack_source_name.Goals as goal

pub returns : goal.returns
returns c = let n = c.args.name.now in
    c.copy-2.ensures ∙ rw (c.copy.ensures, bytes_field n)
