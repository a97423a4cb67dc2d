-- Captures and tables run through the definitions, by computation. Assumes nothing.
use Rattle.std.proofs.Common.{ℕ, ◌≡◌, refl, List, [], ◌∷◌, map, true, replicate}
use Rattle.refusal.specs.Check.{choose, reading, checked_of, refusal, nowhere}
use Rattle.wire.specs.Fields.{u16_at, u32_at}
use Rattle.name.specs.Name.{zero_at}
use Rattle.name.specs.Utf8.{whole_chars, reach, lead_of, trailed}
use Rattle.packet.specs.Packet.{packet_of, reading_of}
use Rattle.sequence.specs.Sequence.{late_of}
use Rattle.follow_rules.specs.declared.Totals.{Totals}
use Rattle.follow_rules.specs.declared.Answer.TheVariants.{Accepted, Discarded, Refused}
use Rattle.follow_rules.specs.Totals.{zero_totals, largest}
use Rattle.cid.specs.Same.{same_cid}
use Rattle.follow_rules.specs.Table.{cleared, first, spot_of}
use Rattle.follower.specs.Follow.{heard_of, follow_heard, follow_of}
use Rattle.follower.specs.Captures.{begun, answer_to, held_after_all, answers_of, Source, from, packets_of, picked, answers_to}
use Rattle.follower.specs.Examples.{packet, synchronization, plain, preview, entry, foreign, Step, steps, Left, lefts}
use Rattle.follower.proofs.Alone.{isolated}

abbrev capture : List (List ℕ)
capture = map (λ (s : Step). s.datagram) steps

-- each answer, and what is held at the end
pub followed : answers_of (begun 2) capture ≡ map (λ (s : Step). s.answer) steps
unfolding answers_of follow_of follow_heard heard_of spot_of first same_cid late_of packet synchronization steps reading_of packet_of reading choose checked_of u16_at u32_at zero_at whole_chars reach lead_of trailed
followed = refl

pub held : held_after_all (begun 2) capture
    ≡ record { table = entry 0xbb 1 7 true ∷ entry 0xaa 2 0 true ∷ []; totals = record { accepted = 9; discarded = 5; room_refused = 3 } }
unfolding held_after_all follow_of follow_heard heard_of spot_of first same_cid late_of packet synchronization steps reading_of packet_of reading choose checked_of u16_at u32_at zero_at whole_chars reach lead_of trailed
held = refl

-- a table that was not cleared: the first match counts, what a free entry holds does not, and the first free entry is taken
pub in_foreign : map (λ (l : Left). (follow_of foreign zero_totals l.datagram).table) lefts ≡ map (λ (l : Left). l.table) lefts
unfolding follow_of follow_heard heard_of spot_of first same_cid late_of packet lefts reading_of packet_of reading choose checked_of u16_at u32_at zero_at whole_chars reach lead_of trailed
in_foreign = refl

-- 40 where any total is at its largest, also for a source for which there would be no room
pub at_largest :
    map (λ (n : Totals). answer_to (record { table = cleared 0; totals = n }) (packet 0xaa 1 1 plain))
    (record { accepted = largest; discarded = 0; room_refused = 0 }
    ∷ record { accepted = 0; discarded = largest; room_refused = 0 }
    ∷ record { accepted = 0; discarded = 0; room_refused = largest }
    ∷ zero_totals
    ∷ [])
    ≡ Refused (refusal 40 nowhere 0)
    ∷ Refused (refusal 40 nowhere 0)
    ∷ Refused (refusal 40 nowhere 0)
    ∷ Refused (refusal 41 nowhere 0)
    ∷ []
unfolding follow_of follow_heard heard_of spot_of first same_cid late_of packet reading_of packet_of reading choose checked_of u16_at u32_at zero_at whole_chars reach lead_of trailed
at_largest = refl

-- Isolation has captures to speak of: a source among others, and the same packets by themselves.
abbrev source : Source
source = record { cid = replicate 16 0xaa; universe = 2 }

abbrev by_itself : List (List ℕ)
by_itself = packet 0xaa 2 255 plain ∷ packet 0xaa 2 250 plain ∷ packet 0xaa 2 0 preview ∷ []

pub among_others : answers_to source (begun 2) capture ≡ answers_to source (begun 1) by_itself
unfolding answers_of picked packets_of from follow_of follow_heard heard_of spot_of first same_cid late_of packet synchronization steps reading_of packet_of reading choose checked_of u16_at u32_at zero_at whole_chars reach lead_of trailed
among_others = isolated source 2 1 capture by_itself refl tt tt

pub its_answers : answers_to source (begun 1) by_itself ≡ Accepted ∷ Discarded ∷ Accepted ∷ []
unfolding answers_of picked from follow_of follow_heard heard_of spot_of first same_cid late_of packet reading_of packet_of reading choose checked_of u16_at u32_at zero_at whole_chars reach lead_of trailed
its_answers = refl
