use Rattle.std.specs.Prelude.{ℕ, List, ◌≡◌, Ok, Err, None}
use mathlib.Core.Path.{sym, ◌∙◌}
use Rattle.refusal.specs.declared.Refusal.{Refusal}
use Rattle.refusal.proofs.Laws.{read_as}
use Rattle.pdu.specs.Head.{length_of}
use Rattle.pdu.specs.declared.Edition.{Edition}
use Rattle.framing.specs.Data.{data_checks, data_of, layer_of}
use Rattle.framing.specs.declared.DataFraming.{DataFraming}
use Rattle.failed_check.specs.Tell.{told_by, Refuses}
use Rattle.failed_check.proofs.Laws.{refused_by, all_readable}
use Rattle.failed_check.proofs.tell_data.Goals as goal

refuses : (edition : Edition) (p : List ℕ) (r : Refusal) → data_of edition p ≡ Err r → Refuses (data_checks edition p) r
unfolding data_of
refuses edition p r e = refused_by (data_checks edition p) (layer_of p (length_of p)) r e

readable : (edition : Edition) (p : List ℕ) (l : DataFraming) → data_of edition p ≡ Ok l → None ≡ told_by (data_checks edition p)
unfolding data_of
readable edition p l e = sym (all_readable (data_checks edition p) (read_as (data_checks edition p) (layer_of p (length_of p)) l e).0)

pub find-check-requires : goal.find-check-requires
find-check-requires c = refuses _ _ _ (sym c.parse.ensures ∙ c.in-Err.is)

pub returns-in-Ok : goal.returns-in-Ok
returns-in-Ok c = readable _ _ _ (sym c.parse.ensures ∙ c.in-Ok.is)

pub returns-in-Err : goal.returns-in-Err
returns-in-Err c = sym c.find-check.ensures
