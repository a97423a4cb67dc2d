use mathlib.Core.Path.{sym}
use native.Mathlib.Omega.{arith}
use Rattle.wire.proofs.Laws.{sets_past, lent_rest}
use Rattle.discovery.specs.Universes.{universe_bytes}
use Rattle.discovery.proofs.put_universes.Goals as goal

pub returns-then-buf-at : goal.returns-then-buf-at
returns-then-buf-at c = let a = c.args in
    sym (sets_past (universe_bytes a.universes.now) a.buf.now a.at (omega arith))

pub returns : goal.returns
returns c = let a = c.args in
    lent_rest (universe_bytes a.universes.now) a.buf.now a.at c.put_run.ensures
