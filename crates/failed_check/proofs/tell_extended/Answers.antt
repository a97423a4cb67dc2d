use Rattle.std.specs.Prelude.{ℕ, List, ◌≡◌, Ok, Err, None}
use mathlib.Core.Path.{sym, ◌∙◌}
use Rattle.refusal.specs.declared.Refusal.{Refusal}
use Rattle.refusal.proofs.Laws.{read_as}
use Rattle.pdu.specs.Head.{length_of, vector_of}
use Rattle.pdu.specs.declared.VectorLength.TheVariants.{Four}
use Rattle.extended.specs.Extended.{extended_checks, extended_of, layer_of}
use Rattle.extended.specs.declared.Extended.{Extended}
use Rattle.failed_check.specs.Tell.{told_by, Refuses}
use Rattle.failed_check.proofs.Laws.{refused_by, all_readable}
use Rattle.failed_check.proofs.tell_extended.Goals as goal

refuses : (whole : ℕ) (p : List ℕ) (r : Refusal) → extended_of whole p ≡ Err r → Refuses (extended_checks whole p) r
unfolding extended_of
refuses whole p r e = refused_by (extended_checks whole p) (layer_of p (length_of p) (vector_of Four p)) r e

readable : (whole : ℕ) (p : List ℕ) (x : Extended) → extended_of whole p ≡ Ok x → None ≡ told_by (extended_checks whole p)
unfolding extended_of
readable whole p x e =
    sym (all_readable (extended_checks whole p) (read_as (extended_checks whole p) (layer_of p (length_of p) (vector_of Four p)) x e).0)

pub find-check-requires : goal.find-check-requires
find-check-requires c = refuses _ _ _ (sym c.parse.ensures ∙ c.in-Err.is)

pub returns-in-Ok : goal.returns-in-Ok
returns-in-Ok c = readable _ _ _ (sym c.parse.ensures ∙ c.in-Ok.is)

pub returns-in-Err : goal.returns-in-Err
returns-in-Err c = sym c.find-check.ensures
