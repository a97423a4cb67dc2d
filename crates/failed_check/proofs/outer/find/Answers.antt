use mathlib.Core.Path.{refl}
use native.Mathlib.Omega.{arith}
use Rattle.refusal.specs.declared.Refusal.{Refusal}
use Rattle.refusal.specs.Check.{preamble, root, ◌=?◌, ◌or◌}
use Rattle.pdu.specs.declared.Edition.{Edition}
use Rattle.failed_check.specs.Tell.{outer_checks}
use Rattle.failed_check.proofs.Laws.{among_in}
use Rattle.failed_check.proofs.outer.find.Goals as goal

pub in_root-requires : goal.in_root-requires
in_root-requires c = let place =
    among_in (λ (edition : Edition). outer_checks edition c.args.d.now) c.args.refusal c.args.edition
    (λ (r : Refusal). r.place =? preamble or r.place =? root) refl refl c.requires in
    (c.requires, place (omega arith))
