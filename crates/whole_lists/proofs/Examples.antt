-- The pages of specs/Examples, fed in turn, by running the definitions. Assumes nothing.
use Rattle.std.proofs.Common.{◌≡◌, [], ◌∷◌, map, take, refl}
use Rattle.wire.specs.Fields.{part_of, u16_at, u32_at}
use Rattle.refusal.specs.Check.{reading, choose, checked_of}
use Rattle.cid.specs.Same.{same_cid}
use Rattle.name.specs.Name.{zero_at, name_bytes}
use Rattle.name.specs.Utf8.{whole_chars, reach, lead_of, trailed}
use Rattle.discovery.specs.Universes.{universes, universe_bytes}
use Rattle.discovery.specs.Layer as layer
use Rattle.extended.specs.Bytes.{synchronization_framing_bytes, discovery_framing_bytes}
use Rattle.packet.specs.Packet.{packet_of, reading_of}
use Rattle.pack.specs.Writing.{discovery_bytes, synchronization_bytes}
use Rattle.page_collector.specs.Pages.{join_all}
use Rattle.page_collector.specs.Memory.{pages_in}
use Rattle.page_collector.specs.Collect.{no_counts, counts_for, take_in, collect_of}
use Rattle.whole_lists.specs.Captures.{held_after_all, answers_of}
use Rattle.whole_lists.specs.Examples.{Step, steps, begun}

-- each is answered as it says
pub answered : answers_of begun (map (λ (s : Step). s.datagram) steps) ≡ map (λ (s : Step). s.answer) steps
unfolding answers_of collect_of take_in join_all pages_in no_counts counts_for same_cid steps universes universe_bytes layer.discovery_bytes name_bytes synchronization_framing_bytes discovery_framing_bytes discovery_bytes synchronization_bytes reading_of packet_of reading choose checked_of part_of u16_at u32_at zero_at whole_chars reach lead_of trailed
answered = refl

-- and what is in the list in the end
pub listed : take 5 (held_after_all begun (map (λ (s : Step). s.datagram) steps)).list ≡ 1 ∷ 5 ∷ 6 ∷ 9 ∷ 9 ∷ []
unfolding held_after_all collect_of take_in join_all pages_in no_counts counts_for same_cid steps universes universe_bytes layer.discovery_bytes name_bytes synchronization_framing_bytes discovery_framing_bytes discovery_bytes synchronization_bytes reading_of packet_of reading choose checked_of part_of u16_at u32_at zero_at whole_chars reach lead_of trailed
listed = refl
