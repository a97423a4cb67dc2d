-- The lines that answer requests.
use Rattle.std.specs.Prelude.{ℕ, List, [], ◌∷◌, Result, Ok, Err}
use Rattle.refusal.specs.declared.Refusal.{Refusal}
use Rattle.wire.specs.Fields.{join}
use Rattle.packet.specs.declared.DataRecord.{DataRecord}
use Rattle.framing.specs.declared.DataFields.{DataFields}
use Rattle.packet.specs.declared.SynchronizationRecord.{SynchronizationRecord}
use Rattle.packet.specs.declared.Reading.{Reading}
use Rattle.packet.specs.declared.Packet.{Packet}
use Rattle.parts.specs.Parts.{shown_at, name_span, values_span}
use Rattle.universe.specs.declared.Ipv4Address.{Ipv4Address}
use Rattle.text.specs.Digits.{ascii, decimal, hex}
use Rattle.field_text.specs.Texts.{data_fields_text, synchronization_text}
use Rattle.line.specs.Lines.{refused_line}

-- `N data cid C name H prio P sync A seq S flags F univ U values V`
unfoldable pub data_answer : ℕ → List ℕ → Reading Packet → DataRecord DataFields → List ℕ
data_answer n d r x =
    join
    (decimal n
    ∷ ascii " data cid "
    ∷ hex r.cid
    ∷ ascii " name "
    ∷ hex (shown_at d (name_span r.packet))
    ∷ data_fields_text x.fields
    ∷ ascii " values "
    ∷ hex (shown_at d (values_span r.packet))
    ∷ ascii "\n"
    ∷ [])

-- `N sync cid C seq S addr A`
unfoldable pub synchronization_answer : ℕ → Reading Packet → SynchronizationRecord → List ℕ
synchronization_answer n r x = join (decimal n ∷ ascii " sync cid " ∷ hex r.cid ∷ synchronization_text x.fields ∷ ascii "\n" ∷ [])

-- `address a.b.c.d`
unfoldable pub dotted : Ipv4Address → List ℕ
dotted a =
    join
    (ascii " address "
    ∷ decimal a.highest
    ∷ ascii "."
    ∷ decimal a.second
    ∷ ascii "."
    ∷ decimal a.third
    ∷ ascii "."
    ∷ decimal a.lowest
    ∷ [])

-- `N address a.b.c.d port P`
unfoldable pub address_line : ℕ → Ipv4Address → List ℕ
address_line n a = join (decimal n ∷ dotted a ∷ ascii " port " ∷ decimal a.port ∷ ascii "\n" ∷ [])

abbrev pub address_answer : ℕ → Result Ipv4Address Refusal → List ℕ
address_answer n (Ok a) = address_line n a
address_answer n (Err r) = refused_line n r
