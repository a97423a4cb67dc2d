use Rattle.std.proofs.Common.{refl, ◌∙◌}
use Rattle.follow_rules.specs.Table.{cleared}
use Rattle.follow.specs.Following.{following}
use Rattle.follow.proofs.Held.{none_held}
use Rattle.follow.proofs.run.Goals as goal

pub returns : goal.returns
returns g c = c.run_program.ensures (following (cleared 1024)) (cleared 1024, refl, none_held (cleared 1024) ∙ rw (c.free.ensures, c.zero.ensures))
