use Rattle.std.proofs.Common.{refl}
use Rattle.page_collector.specs.Collect.{no_counts}
use Rattle.page_collector.proofs.Collector.new.Goals as goal

pub returns : goal.returns
unfolding no_counts
returns c = refl
