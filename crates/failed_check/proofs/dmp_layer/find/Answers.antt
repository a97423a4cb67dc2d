use mathlib.Core.Path.{◌≡◌, refl}
use native.Mathlib.Omega.{arith}
use Rattle.refusal.specs.declared.Refusal.{Refusal}
use Rattle.refusal.specs.Check.{dmp, ◌=?◌, ◌or◌}
use Rattle.dmp.specs.Layer.{dmp_checks}
use Rattle.failed_check.proofs.Laws.{by_last, among}
use Rattle.failed_check.proofs.dmp_layer.find.Goals as goal

pub missing-requires : goal.missing-requires
missing-requires c = let at-dmp : c.args.refusal.place ≡ dmp = among (λ (r : Refusal). r.place =? dmp) (dmp_checks c.args.q.now) c.args.refusal refl c.requires in
    (c.requires, omega arith, at-dmp)

-- what is left when the match is through: none of its seven numbers, each taken from the match, since they are too many cases for one search
pub not_allowed-requires : goal.not_allowed-requires
not_allowed-requires c = let at-dmp : c.args.refusal.place ≡ dmp = among (λ (r : Refusal). r.place =? dmp) (dmp_checks c.args.q.now) c.args.refusal refl c.requires in
    let gone = c.in_default.in_default-own.rest in
    let number =
    among (λ (r : Refusal). r.number =? 1 or r.number =? 3 or r.number =? 14 or r.number =? 4 or r.number =? 13 or r.number =? 15 or r.number =? 17 or r.number =? 2) (dmp_checks c.args.q.now) c.args.refusal refl
    c.requires in
    (c.requires, number gone.0.0.0.0.0.0.1 gone.0.0.0.0.0.1 gone.0.0.0.0.1 gone.0.0.0.1 gone.0.0.1 gone.0.1 gone.1, at-dmp)

pub returns-in-1 : goal.returns-in-1
returns-in-1 c = let at-dmp : c.args.refusal.place ≡ dmp = among (λ (r : Refusal). r.place =? dmp) (dmp_checks c.args.q.now) c.args.refusal refl c.requires in
    by_last 1 dmp (dmp_checks c.args.q.now) c.args.refusal _ c.requires (omega arith) (at-dmp) c.at.ensures

pub returns-in-3 : goal.returns-in-3
returns-in-3 c = let at-dmp : c.args.refusal.place ≡ dmp = among (λ (r : Refusal). r.place =? dmp) (dmp_checks c.args.q.now) c.args.refusal refl c.requires in
    by_last 3 dmp (dmp_checks c.args.q.now) c.args.refusal _ c.requires (omega arith) (at-dmp) c.at-in-3.ensures

pub returns-in-14 : goal.returns-in-14
returns-in-14 c = let at-dmp : c.args.refusal.place ≡ dmp = among (λ (r : Refusal). r.place =? dmp) (dmp_checks c.args.q.now) c.args.refusal refl c.requires in
    by_last 14 dmp (dmp_checks c.args.q.now) c.args.refusal _ c.requires (omega arith) (at-dmp) c.at-in-14.ensures

pub returns-in-4 : goal.returns-in-4
returns-in-4 c = let at-dmp : c.args.refusal.place ≡ dmp = among (λ (r : Refusal). r.place =? dmp) (dmp_checks c.args.q.now) c.args.refusal refl c.requires in
    by_last 4 dmp (dmp_checks c.args.q.now) c.args.refusal _ c.requires (omega arith) (at-dmp) c.at-in-4.ensures

pub returns-in-15 : goal.returns-in-15
returns-in-15 c = let at-dmp : c.args.refusal.place ≡ dmp = among (λ (r : Refusal). r.place =? dmp) (dmp_checks c.args.q.now) c.args.refusal refl c.requires in
    by_last 15 dmp (dmp_checks c.args.q.now) c.args.refusal _ c.requires (omega arith) (at-dmp) c.at-in-15.ensures

pub returns-in-17 : goal.returns-in-17
returns-in-17 c = let at-dmp : c.args.refusal.place ≡ dmp = among (λ (r : Refusal). r.place =? dmp) (dmp_checks c.args.q.now) c.args.refusal refl c.requires in
    by_last 17 dmp (dmp_checks c.args.q.now) c.args.refusal _ c.requires (omega arith) (at-dmp) c.at-in-17.ensures
