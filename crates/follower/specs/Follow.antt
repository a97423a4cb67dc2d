-- What a datagram does to a table of sources and to the totals, and what it is answered.
use Rattle.std.specs.Prelude.{ℕ, List, Option, Some, None, set}
use Rattle.framing.specs.declared.DataFields.{DataFields}
use Rattle.packet.specs.Packet.{reading_of}
use Rattle.packet.specs.declared.Packet.{Packet}
use Rattle.packet.specs.declared.Packet.TheVariants as packet
use Rattle.follow_rules.specs.declared.Entry.{Entry}
use Rattle.follow_rules.specs.declared.Sent.{Sent}
use Rattle.follow_rules.specs.declared.Kind.{Kind}
use Rattle.follow_rules.specs.declared.Kind.TheVariants as kind
use Rattle.follow_rules.specs.declared.Heard.{Heard}
use Rattle.follow_rules.specs.declared.Totals.{Totals}
use Rattle.follow_rules.specs.declared.Followed.{Followed}
use Rattle.follow_rules.specs.declared.Stored.{Stored}
use Rattle.follow_rules.specs.declared.Decision.{Decision}
use Rattle.follow_rules.specs.Table.{spot_of}
use Rattle.follow_rules.specs.Rules.{decision_of}

-- what is heard of a datagram, by its reading
abbrev pub sent_in : DataFields → Sent
sent_in f = record {
  universe = f.universe;
  sequence_number = f.sequence_number;
  stream_terminated = f.stream_terminated;
}

abbrev pub kind_in : Packet → Kind
kind_in (packet.Data x) = kind.Data (sent_in x.fields)
kind_in (packet.Synchronization x) = kind.Other
kind_in (packet.Discovery x) = kind.Other
kind_in (packet.Refused r) = kind.Unreadable r

unfoldable pub heard_of : List ℕ → Heard
heard_of d = record { cid = (reading_of d).cid; kind = kind_in (reading_of d).packet }

-- the table once a decision is carried out
abbrev pub with_stored : List Entry → Option Stored → List Entry
with_stored t None = t
with_stored t (Some s) = set t s.at s.entry

abbrev pub carried_out : List Entry → Decision → List Entry
carried_out t d = with_stored t d.stored

-- the table afterwards, and what is given back
pub record After : Type 0 where
  pub table : List Entry
  pub followed : Followed

abbrev pub after : List Entry → Followed → After
after t r = record { table = t; followed = r }

abbrev pub decided : List Entry → Totals → Heard → Decision
decided t n h = decision_of n h.cid h.kind (spot_of t h.cid h.kind)

unfoldable pub follow_heard : List Entry → Totals → Heard → After
follow_heard t n h = after (carried_out t (decided t n h)) (decided t n h).followed

unfoldable pub follow_of : List Entry → Totals → List ℕ → After
follow_of t n d = follow_heard t n (heard_of d)
