-- Document 01's examples at the edges, (a) to (k), in one statement, by computation. Assumes nothing.
use mathlib.Core.Path.{◌≡◌, refl}
use mathlib.Core.List.{map}
use Rattle.wire.specs.Fields.{u16_at, u32_at}
use Rattle.refusal.specs.Check.{choose, reading, checked_of}
use Rattle.universe.specs.Universe.{multicast_of}
use Rattle.name.specs.Name.{zero_at}
use Rattle.name.specs.Utf8.{whole_chars, reach, lead_of, trailed}
use Rattle.packet.specs.Packet.{packet_of, reading_of}
use Rattle.pack.specs.Writing.{packed_of}
use Rattle.demands.specs.Examples.{Example, answer, S, buffer, examples}

-- the definitions give each example its answer
pub edges : map (λ (e : Example). answer e.question) examples ≡ map (λ (e : Example). e.expected) examples
unfolding answer S buffer examples reading_of packet_of packed_of reading choose checked_of multicast_of u16_at u32_at zero_at whole_chars reach lead_of trailed
edges = refl
