use Prim.Native.Nat.{ℕ}
use mathlib.Core.Path.{◌≡◌}
use mathlib.Core.List.{List}
use native.Mathlib.Omega.{arith}
use Rattle.refusal.specs.declared.Refusal.{Refusal}
use Rattle.refusal.specs.declared.Identity.{Identity}
use Rattle.refusal.specs.Check.{Check, framing}
use Rattle.refusal.proofs.Laws.{Stops}
use Rattle.framing.specs.Data.{data_checks}
use Rattle.pdu.specs.declared.Edition.{Edition}
use Rattle.pdu.specs.declared.Edition.TheVariants.{E2018, E2009}
use Rattle.failed_check.specs.Tell.{missed_behind_priority, Refuses, Names}
use Rattle.failed_check.proofs.Laws.{only, by_test, by_last_in, by_test_in}
use Rattle.failed_check.proofs.data_framing.missing.Goals as goal

-- behind the priority the editions look at different fields
behind-it : (edition : Edition) (p : List ℕ) (r : Refusal) (x : Identity) → Refuses (data_checks edition p) r → r.number ≡ 13 → r.place ≡ framing →
    Stops 2 (only 13 framing (data_checks E2018 p)) → Stops 2 (only 13 framing (data_checks E2009 p)) → x ≡ missed_behind_priority edition →
    Names (data_checks edition p) r x
behind-it E2018 p r x e f g now old is = by_test 13 framing (data_checks E2018 p) r x e f g 2 now is
behind-it E2009 p r x e f g now old is = by_test 13 framing (data_checks E2009 p) r x e f g 2 old is

pub returns-then-p-lt-PRIORITY_INDEX : goal.returns-then-p-lt-PRIORITY_INDEX
returns-then-p-lt-PRIORITY_INDEX c = let checks : Edition → List Check = λ edition. data_checks edition c.args.p.now in
    let refused : Refusal = c.args.refusal in
    by_test_in (checks) (refused) c.args.edition 13 framing _ 0 0 c.requires.0 c.requires.1 c.requires.2 (omega arith) c.at.ensures (omega arith)
    c.at.ensures

pub returns-then-p-lt-SYNC_ADDR_INDEX : goal.returns-then-p-lt-SYNC_ADDR_INDEX
returns-then-p-lt-SYNC_ADDR_INDEX c = let checks : Edition → List Check = λ edition. data_checks edition c.args.p.now in
    let refused : Refusal = c.args.refusal in
    by_test_in (checks) (refused) c.args.edition 13 framing _ 1 1 c.requires.0 c.requires.1 c.requires.2 (omega arith) c.at-then-p-lt-SYNC_ADDR_INDEX.ensures (omega arith)
    c.at-then-p-lt-SYNC_ADDR_INDEX.ensures

pub returns-then-p-lt-SEQ_NUM_INDEX : goal.returns-then-p-lt-SEQ_NUM_INDEX
returns-then-p-lt-SEQ_NUM_INDEX c = let refused : Refusal = c.args.refusal in
    behind-it c.args.edition c.args.p.now (refused) _ c.requires.0 c.requires.1 c.requires.2 (omega arith) (omega arith) c.behind_priority.ensures

pub returns-then-p-lt-OPTIONS_FIELD_INDEX : goal.returns-then-p-lt-OPTIONS_FIELD_INDEX
returns-then-p-lt-OPTIONS_FIELD_INDEX c = let checks : Edition → List Check = λ edition. data_checks edition c.args.p.now in
    let refused : Refusal = c.args.refusal in
    by_test_in (checks) (refused) c.args.edition 13 framing _ 3 2 c.requires.0 c.requires.1 c.requires.2 (omega arith) c.at-then-p-lt-OPTIONS_FIELD_INDEX.ensures (omega arith)
    c.at-then-p-lt-OPTIONS_FIELD_INDEX.ensures

pub returns-then-p-lt-UNIVERSE_INDEX : goal.returns-then-p-lt-UNIVERSE_INDEX
returns-then-p-lt-UNIVERSE_INDEX c = let checks : Edition → List Check = λ edition. data_checks edition c.args.p.now in
    let refused : Refusal = c.args.refusal in
    by_test_in (checks) (refused) c.args.edition 13 framing _ 4 3 c.requires.0 c.requires.1 c.requires.2 (omega arith) c.at-then-p-lt-UNIVERSE_INDEX.ensures (omega arith)
    c.at-then-p-lt-UNIVERSE_INDEX.ensures

pub returns-then-p-lt-DATA_FRAMING_LENGTH : goal.returns-then-p-lt-DATA_FRAMING_LENGTH
returns-then-p-lt-DATA_FRAMING_LENGTH c = let checks : Edition → List Check = λ edition. data_checks edition c.args.p.now in
    let refused : Refusal = c.args.refusal in
    by_test_in (checks) (refused) c.args.edition 13 framing _ 5 4 c.requires.0 c.requires.1 c.requires.2 (omega arith) c.at-then-p-lt-DATA_FRAMING_LENGTH.ensures (omega arith)
    c.at-then-p-lt-DATA_FRAMING_LENGTH.ensures

pub returns : goal.returns
returns c = let checks : Edition → List Check = λ edition. data_checks edition c.args.p.now in
    let refused : Refusal = c.args.refusal in
    by_last_in (checks) (refused) c.args.edition 13 framing _ c.requires.0 c.requires.1 c.requires.2
    (omega arith, (omega arith, (omega arith, (omega arith, (omega arith, (omega arith, c.at-2.ensures))))))
    (omega arith, (omega arith, (omega arith, (omega arith, (omega arith, c.at-2.ensures)))))
