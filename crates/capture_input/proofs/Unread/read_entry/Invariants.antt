use Rattle.std.proofs.Common.{◌≤◌, ◌-◌, ◌≡◌, length, take, Err}
use Rattle.capture.specs.declared.Ending.TheVariants.{Bad}
use Rattle.capture_input.specs.Entries.{More, Enough}
use Rattle.capture_input.proofs.Unread.read_entry.Given as goal

abbrev pub invariant-loop-block : goal.invariant-loop-block
invariant-loop-block g l = (l.len ≤ length l.block) × (length l.block ≡ length l.fn.block) × More (take l.fn.len l.fn.block) (take l.len l.block) l.initial.heard l.heard × Enough l.heard.said (Err Bad)

abbrev pub decreases-loop-block : goal.decreases-loop-block
decreases-loop-block g l = length l.fn.block - l.len
