-- The fields in the lines of document 01.
use Rattle.std.specs.Prelude.{ℕ, Bool, true, false, List, [], ◌∷◌, ◌++◌}
use Rattle.wire.specs.Fields.{join}
use Rattle.refusal.specs.declared.Refusal.{Refusal}
use Rattle.framing.specs.declared.DataFields.{DataFields}
use Rattle.extended.specs.declared.synchronization.SynchronizationFields.{SynchronizationFields}
use Rattle.discovery.specs.declared.DiscoveryFields.{DiscoveryFields}
use Rattle.text.specs.Digits.{ascii, decimal}

-- three digits: preview, terminated, force
abbrev pub flag_digit : Bool → ℕ
flag_digit true = 0x31
flag_digit false = 0x30

abbrev pub flags : DataFields → List ℕ
flags f = flag_digit f.preview_data ∷ flag_digit f.stream_terminated ∷ flag_digit f.force_synchronization ∷ []

abbrev pub flags_text : DataFields → List ℕ
flags_text f = ascii " flags " ++ flags f

-- `prio P sync A seq S flags F univ U`
unfoldable pub data_fields_text : DataFields → List ℕ
data_fields_text f =
    join
    (ascii " prio "
    ∷ decimal f.priority
    ∷ ascii " sync "
    ∷ decimal f.synchronization_address
    ∷ ascii " seq "
    ∷ decimal f.sequence_number
    ∷ ascii " flags "
    ∷ flags f
    ∷ ascii " univ "
    ∷ decimal f.universe
    ∷ [])

-- `seq S addr A`
unfoldable pub synchronization_text : SynchronizationFields → List ℕ
synchronization_text f = join (ascii " seq " ∷ decimal f.sequence_number ∷ ascii " addr " ∷ decimal f.synchronization_address ∷ [])

-- `page P last L`
unfoldable pub page_text : DiscoveryFields → List ℕ
page_text f = join (ascii " page " ∷ decimal f.page ∷ ascii " last " ∷ decimal f.last_page ∷ [])

-- `refused R place Q value V`
unfoldable pub refusal_text : Refusal → List ℕ
refusal_text r =
    join
    (ascii " refused " ∷ decimal r.number ∷ ascii " place " ∷ decimal r.place ∷ ascii " value " ∷ decimal r.value ∷ [])
