use Rattle.std.specs.Prelude.{ℕ, List, ◌≡◌, Ok, Err}
use mathlib.Core.Path.{sym, ◌∙◌}
use native.Mathlib.Omega.{arith}
use Rattle.refusal.specs.Check.{reading, checked_of}
use Rattle.refusal.proofs.Laws.{stop, stop_value, pass, after_check, check_first, handed_on, gone_on}
use Rattle.pdu.specs.declared.Edition.{Edition}
use Rattle.framing.specs.Data.{priority_checks, sync_address_checks, rest_checks, layer_named, after_name, after_sync_address}
use Rattle.framing.proofs.parse_fields.Goals as goal

by_address : (edition : Edition) (name : ℕ) (p : List ℕ) (len : ℕ) →
    after_name edition name p len
    ≡ reading Err (priority_checks p) (after_check Err (after_sync_address name p len) (checked_of (sync_address_checks edition p)))
unfolding after_name after_sync_address
by_address edition name p len =
    check_first Err (priority_checks p) (sync_address_checks edition p) (rest_checks p len) (Ok (layer_named name p len))

pub returns-then-p-lt-SYNC_ADDR_INDEX : goal.returns-then-p-lt-SYNC_ADDR_INDEX
unfolding after_name
returns-then-p-lt-SYNC_ADDR_INDEX c = stop 0 _ _ _ (omega arith) c.refuse.ensures

pub returns-then-priority-gt-E131_MAX_PRIORITY : goal.returns-then-priority-gt-E131_MAX_PRIORITY
unfolding after_name
returns-then-priority-gt-E131_MAX_PRIORITY c = stop_value 1 _ _ _ (omega arith) c.refuse-then-priority-gt-E131_MAX_PRIORITY.ensures c.byte_at-priority.ensures

pub returns-in_err-check_synchronization_address : goal.returns-in_err-check_synchronization_address
returns-in_err-check_synchronization_address c = let a = c.args in
    pass _ _ _ (omega arith)
    (handed_on (λ t. after_sync_address a.name a.p.now a.length) c.in_err-check_synchronization_address.ensures c.from_residual.ensures.1)
    ∙ sym (by_address _ _ _ _)

pub returns : goal.returns
returns c = let a = c.args in
    pass _ _ _ (omega arith)
    (gone_on (λ t. after_sync_address a.name a.p.now a.length) c.in_ok-check_synchronization_address.ensures c.parse_rest.ensures)
    ∙ sym (by_address _ _ _ _)
