use mathlib.Core.Path.{refl}
use mathlib.Core.List.{List}
use native.Mathlib.Omega.{arith}
use Rattle.refusal.specs.declared.Refusal.{Refusal}
use Rattle.refusal.specs.Check.{Check, framing, ◌=?◌, ◌≠?◌, ◌or◌}
use Rattle.framing.specs.Data.{data_checks}
use Rattle.pdu.specs.declared.Edition.{Edition}
use Rattle.failed_check.proofs.Laws.{by_last_in, among_in}
use Rattle.failed_check.proofs.data_framing.in_framing.Goals as goal

pub missing-requires : goal.missing-requires
missing-requires c = let checks : Edition → List Check = λ edition. data_checks edition c.args.p.now in
    let refused : Refusal = c.args.refusal in
    let number =
    among_in (checks) (refused) c.args.edition
    (λ (r : Refusal). r.place ≠? framing or r.number =? 1 or r.number =? 3 or r.number =? 14 or r.number =? 4 or r.number =? 6 or r.number =? 7 or r.number =? 8 or r.number =? 9 or r.number =? 10 or r.number =? 13) refl refl
    c.requires.0 c.requires.1 in
    let gone = c.in_default.in_default-own.rest in
    (c.requires.0, number gone.0.0.0.0.0.0.0.0.1 gone.0.0.0.0.0.0.0.1 gone.0.0.0.0.0.0.1 gone.0.0.0.0.0.1 gone.0.0.0.0.1 gone.0.0.0.1 gone.0.0.1 gone.0.1 gone.1, c.requires.1)

pub returns-in-1 : goal.returns-in-1
returns-in-1 c = let checks : Edition → List Check = λ edition. data_checks edition c.args.p.now in
    let refused : Refusal = c.args.refusal in
    by_last_in (checks) (refused) c.args.edition 1 framing _ c.requires.0 (omega arith) c.requires.1 c.at.ensures c.at.ensures

pub returns-in-3 : goal.returns-in-3
returns-in-3 c = let checks : Edition → List Check = λ edition. data_checks edition c.args.p.now in
    let refused : Refusal = c.args.refusal in
    by_last_in (checks) (refused) c.args.edition 3 framing _ c.requires.0 (omega arith) c.requires.1 c.at-in-3.ensures c.at-in-3.ensures

pub returns-in-14 : goal.returns-in-14
returns-in-14 c = let checks : Edition → List Check = λ edition. data_checks edition c.args.p.now in
    let refused : Refusal = c.args.refusal in
    by_last_in (checks) (refused) c.args.edition 14 framing _ c.requires.0 (omega arith) c.requires.1 c.at-in-14.ensures c.at-in-14.ensures

pub returns-in-4 : goal.returns-in-4
returns-in-4 c = let checks : Edition → List Check = λ edition. data_checks edition c.args.p.now in
    let refused : Refusal = c.args.refusal in
    by_last_in (checks) (refused) c.args.edition 4 framing _ c.requires.0 (omega arith) c.requires.1 c.at-in-4.ensures c.at-in-4.ensures

pub returns-in-6 : goal.returns-in-6
returns-in-6 c = let checks : Edition → List Check = λ edition. data_checks edition c.args.p.now in
    let refused : Refusal = c.args.refusal in
    by_last_in (checks) (refused) c.args.edition 6 framing _ c.requires.0 (omega arith) c.requires.1 c.at-in-6.ensures c.at-in-6.ensures

pub returns-in-7 : goal.returns-in-7
returns-in-7 c = let checks : Edition → List Check = λ edition. data_checks edition c.args.p.now in
    let refused : Refusal = c.args.refusal in
    by_last_in (checks) (refused) c.args.edition 7 framing _ c.requires.0 (omega arith) c.requires.1 c.at-in-7.ensures c.at-in-7.ensures

pub returns-in-8 : goal.returns-in-8
returns-in-8 c = let checks : Edition → List Check = λ edition. data_checks edition c.args.p.now in
    let refused : Refusal = c.args.refusal in
    by_last_in (checks) (refused) c.args.edition 8 framing _ c.requires.0 (omega arith) c.requires.1 c.at-in-8.ensures c.at-in-8.ensures

pub returns-in-9 : goal.returns-in-9
returns-in-9 c = let checks : Edition → List Check = λ edition. data_checks edition c.args.p.now in
    let refused : Refusal = c.args.refusal in
    by_last_in (checks) (refused) c.args.edition 9 framing _ c.requires.0 (omega arith) c.requires.1 c.at-in-9.ensures tt

pub returns-in-10 : goal.returns-in-10
returns-in-10 c = let checks : Edition → List Check = λ edition. data_checks edition c.args.p.now in
    let refused : Refusal = c.args.refusal in
    by_last_in (checks) (refused) c.args.edition 10 framing _ c.requires.0 (omega arith) c.requires.1 c.at-in-10.ensures c.at-in-10.ensures
