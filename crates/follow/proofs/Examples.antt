-- The whole text of a capture, by computation: a data packet, the same again, a synchronization packet, an empty entry. Assumes nothing.
use Rattle.std.proofs.Common.{ℕ, ◌≡◌, refl, List, [], ◌∷◌}
use Rattle.refusal.specs.Check.{choose, reading, checked_of}
use Rattle.wire.specs.Fields.{join, u16_at, u32_at}
use Rattle.name.specs.Name.{zero_at}
use Rattle.name.specs.Utf8.{whole_chars, reach, lead_of, trailed}
use Rattle.packet.specs.Packet.{packet_of, reading_of}
use Rattle.sequence.specs.Sequence.{late_of}
use Rattle.cid.specs.Same.{same_cid}
use Rattle.follow_rules.specs.Table.{cleared, first, spot_of}
use Rattle.follower.specs.Follow.{heard_of, follow_heard, follow_of}
use Rattle.follower.specs.Captures.{held_after_all}
use Rattle.follower.specs.Examples.{packet, synchronization, plain}
use Rattle.text.specs.Digits.{ascii, decimal, last_digits}
use Rattle.field_text.specs.Texts.{refusal_text}
use Rattle.line.specs.Lines.{refused_line, last_line}
use Rattle.capture.specs.Entry.{front_of}
use Rattle.capture.specs.Length.{length_of}
use Rattle.turns.specs.Run.{text_of, lines_from}
use Rattle.follow.specs.Lines.{totals_line}
use Rattle.follow.specs.Following.{following}

-- each entry behind its length
abbrev capture : List ℕ
capture = join ((126 ∷ []) ∷ packet 0xaa 1 7 plain ∷ (126 ∷ []) ∷ packet 0xaa 1 7 plain ∷ (49 ∷ []) ∷ synchronization ∷ (0 ∷ []) ∷ [])

-- in a table of one entry
pub told : text_of (following (cleared 1)) capture ≡ ascii "1 accepted\n2 discarded\n3 other\n4 refused 1 place 1 value 0\ntotals accepted 1 discarded 1 room-refused 0\nend 4\n"
unfolding lines_from front_of length_of held_after_all follow_of follow_heard heard_of spot_of first same_cid late_of packet synchronization reading_of packet_of reading choose checked_of u16_at u32_at zero_at whole_chars reach lead_of trailed decimal last_digits refusal_text refused_line last_line totals_line
told = refl
