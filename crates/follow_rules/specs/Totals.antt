-- The follower's totals, and the next ones after a data packet.
use Rattle.std.specs.Prelude.{ℕ, ◌+◌}
use Rattle.refusal.specs.Check.{Test, ◌=?◌, ◌or◌}
use Rattle.follow_rules.specs.declared.Totals.{Totals}

abbrev pub zero_totals : Totals
zero_totals = record { accepted = 0; discarded = 0; room_refused = 0 }

-- the largest number that a total can be
abbrev pub largest : ℕ
largest = 0xffff_ffff_ffff_ffff

-- any total at its largest number
abbrev pub full : Totals → Test
full n = (n.accepted =? largest) or (n.discarded =? largest) or (n.room_refused =? largest)

-- one more accepted, discarded, refused for want of room
abbrev pub accept_of : Totals → Totals
accept_of n = record { accepted = n.accepted + 1; discarded = n.discarded; room_refused = n.room_refused }

abbrev pub discard_of : Totals → Totals
discard_of n = record { accepted = n.accepted; discarded = n.discarded + 1; room_refused = n.room_refused }

abbrev pub refuse_of : Totals → Totals
refuse_of n = record { accepted = n.accepted; discarded = n.discarded; room_refused = n.room_refused + 1 }

abbrev pub sum_of : Totals → ℕ
sum_of n = n.accepted + n.discarded + n.room_refused
