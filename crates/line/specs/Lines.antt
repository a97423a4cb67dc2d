-- The lines of document 01.
use Rattle.std.specs.Prelude.{ℕ, ◌/◌, List, [], ◌∷◌}
use Rattle.wire.specs.Fields.{join}
use Rattle.refusal.specs.declared.Refusal.{Refusal}
use Rattle.packet.specs.declared.DataRecord.{DataRecord}
use Rattle.framing.specs.declared.DataFields.{DataFields}
use Rattle.packet.specs.declared.SynchronizationRecord.{SynchronizationRecord}
use Rattle.packet.specs.declared.DiscoveryRecord.{DiscoveryRecord}
use Rattle.packet.specs.declared.Packet.{Packet}
use Rattle.packet.specs.declared.Packet.TheVariants.{Data, Synchronization, Discovery, Refused}
use Rattle.packet.specs.declared.Reading.{Reading}
use Rattle.parts.specs.Parts.{shown_at, name_span}
use Rattle.text.specs.Digits.{ascii, decimal, hex}
use Rattle.field_text.specs.Texts.{data_fields_text, synchronization_text, page_text, refusal_text}
use Rattle.capture.specs.declared.Ending.{Ending}
use Rattle.capture.specs.declared.Ending.TheVariants.{End, Cut, Bad}

-- `N data name H prio P sync A seq S flags F univ U values K`
unfoldable pub data_line : ℕ → List ℕ → DataRecord DataFields → List ℕ
data_line n name x =
    join
    (decimal n
    ∷ ascii " data name "
    ∷ hex name
    ∷ data_fields_text x.fields
    ∷ ascii " values "
    ∷ decimal x.values.len
    ∷ ascii "\n"
    ∷ [])

-- `N sync seq S addr A`
unfoldable pub synchronization_line : ℕ → SynchronizationRecord → List ℕ
synchronization_line n x = join (decimal n ∷ ascii " sync" ∷ synchronization_text x.fields ∷ ascii "\n" ∷ [])

-- `N disc name H page P last L count K`
unfoldable pub discovery_line : ℕ → List ℕ → DiscoveryRecord → List ℕ
discovery_line n name x =
    join
    (decimal n
    ∷ ascii " disc name "
    ∷ hex name
    ∷ page_text x.fields
    ∷ ascii " count "
    ∷ decimal (x.universes.len / 2)
    ∷ ascii "\n"
    ∷ [])

-- `N refused R place Q value V`
unfoldable pub refused_line : ℕ → Refusal → List ℕ
refused_line n r = join (decimal n ∷ refusal_text r ∷ ascii "\n" ∷ [])

abbrev pub packet_line : ℕ → List ℕ → Packet → List ℕ
packet_line n name (Data x) = data_line n name x
packet_line n name (Synchronization x) = synchronization_line n x
packet_line n name (Discovery x) = discovery_line n name x
packet_line n name (Refused r) = refused_line n r

-- the line of entry n: a datagram and its reading
abbrev pub line_of : ℕ → List ℕ → Reading Packet → List ℕ
line_of n d r = packet_line n (shown_at d (name_span r.packet)) r.packet

-- `end N`, `cut N`, `bad N`
abbrev pub last_word : Ending → List ℕ
last_word End = ascii "end "
last_word Cut = ascii "cut "
last_word Bad = ascii "bad "

unfoldable pub last_line : Ending → ℕ → List ℕ
last_line e n = join (last_word e ∷ decimal n ∷ ascii "\n" ∷ [])
