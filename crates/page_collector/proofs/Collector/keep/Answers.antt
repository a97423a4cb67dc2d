use Rattle.std.proofs.Common.{Some, ◌≡◌, ℕ, ◌*◌, ◌/◌, length, set, sym, ap, ◌∙◌}
use Rattle.wire.proofs.Laws.{lent_rest}
use Rattle.discovery.specs.Universes.{all_universes}
use Rattle.discovery.proofs.Laws.{universes_length}
use Rattle.page_collector.specs.Collect.{collector_of, counts_for}
use Rattle.page_collector.specs.declared.Collector.{Collector}
use Rattle.page_collector.proofs.Collector.keep.Goals as goal

-- a collector with a page of n universes
abbrev kept : Collector → ℕ → ℕ → Collector
kept c page n = collector_of c.cid c.last_page (set c.counts page (Some n))

pub returns-clause-collector : goal.returns-clause-collector
returns-clause-collector c = let a = c.args in
    let n = length a.universes.now / 2 in
    let count : length (all_universes a.universes.now) ≡ n = universes_length n a.universes.now in
    ap (λ (x : Collector). kept x a.fields.page n) c.expect.ensures
    ∙ ap (kept (collector_of a.self.now.cid a.fields.last_page (counts_for a.self.now a.fields.last_page)) a.fields.page) (sym count)

pub returns-clause-memory : goal.returns-clause-memory
returns-clause-memory c = lent_rest (all_universes c.args.universes.now) c.args.memory.now (512 * c.args.fields.page) c.copy_universes.ensures
