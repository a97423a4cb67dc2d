use Rattle.std.proofs.Common.{◌≡◌, length, refl, rules, sym, ◌∙◌}
use Rattle.pack.specs.Writing.{discovery_bytes}
use Rattle.pack.proofs.Writing.{write_refused, write_passed, discovery_long}
use Rattle.pack.proofs.pack_discovery.Goals as goal

pub returns-in-Err : goal.returns-in-Err
returns-in-Err c = record { answer = write_refused _ _ (sym c.in-Err.is ∙ c.check_discovery.ensures) refl; bytes = refl }

pub returns-in-Ok : goal.returns-in-Ok
returns-in-Ok c = let a = c.args in
    let sixteen : length a.cid ≡ 16 = search rules in
    let both = write_passed _ _ a.buf.now _ (discovery_bytes a.cid a.fields a.name.now a.universes.now) (sym c.in-Ok.is ∙ c.check_discovery.ensures)
    (discovery_long a.cid (sixteen) a.fields a.name.now a.universes.now) c.put_discovery.ensures in
    record { answer = both.0; bytes = both.1 }
