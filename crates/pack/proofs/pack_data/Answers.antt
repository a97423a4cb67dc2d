use Rattle.std.proofs.Common.{◌≡◌, length, refl, rules, sym, ◌∙◌}
use Rattle.pack.specs.Writing.{data_bytes}
use Rattle.pack.proofs.Writing.{write_refused, write_passed, data_long}
use Rattle.pack.proofs.pack_data.Goals as goal

pub returns-in-Err : goal.returns-in-Err
returns-in-Err c = record { answer = write_refused _ _ (sym c.in-Err.is ∙ c.check_data.ensures) refl; bytes = refl }

pub returns-in-Ok : goal.returns-in-Ok
returns-in-Ok c = let a = c.args in
    let sixteen : length a.cid ≡ 16 = search rules in
    let both = write_passed _ _ a.buf.now _ (data_bytes a.cid a.fields a.name.now a.values.now) (sym c.in-Ok.is ∙ c.check_data.ensures)
    (data_long a.cid (sixteen) a.fields a.name.now a.values.now) c.put_data.ensures in
    record { answer = both.0; bytes = both.1 }
