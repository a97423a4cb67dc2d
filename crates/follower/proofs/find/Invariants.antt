-- The entries looked at so far gave `spot`, and from there the walk goes where it goes from the start.
use Rattle.std.proofs.Common.{◌≡◌, drop}
use Rattle.follow_rules.specs.Table.{spot_of}
use Rattle.follower.proofs.Scanned.{scan_from}
use Rattle.follower.proofs.find.Given as goal

abbrev pub invariant-loop-at : goal.invariant-loop-at
invariant-loop-at l = scan_from l.at (drop l.at l.table) l.heard.cid l.heard.kind l.spot ≡ spot_of l.table l.heard.cid l.heard.kind
