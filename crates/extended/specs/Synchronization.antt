-- The framing layer of a synchronization packet, after its start. Offsets count from the layer's first byte, in its part p; len is its length.
use Rattle.std.specs.Prelude.{ℕ, List, [], ◌∷◌, length, Result, Ok, Err}
use Rattle.wire.specs.Fields.{byte_at, u16_at}
use Rattle.refusal.specs.Check.{Check, check, refusal, framing, fits, ◌≤?◌, ◌=?◌, ◌and◌, reading}
use Rattle.refusal.specs.declared.Refusal.{Refusal}
use Rattle.refusal.specs.declared.Reason.TheVariants as why
use Rattle.refusal.specs.declared.AddressIn.TheVariants as address-in
use Rattle.refusal.specs.declared.LengthIn.TheVariants as length-in
use Rattle.extended.specs.declared.synchronization.SynchronizationFields.{SynchronizationFields}

-- 14 if its length exceeds its own part; 5 unless length 11; 9 unless 1..63999
abbrev pub synchronization_checks : List ℕ → ℕ → List Check
synchronization_checks p len =
    fits len framing (length p)
    ∷ check (len =? 11) (refusal 5 framing len) (why.Length length-in.Synchronization) 0
    ∷ check (1 ≤? u16_at p 7 and u16_at p 7 ≤? 63999) (refusal 9 framing (u16_at p 7)) (why.SyncAddress address-in.Synchronization) 7
    ∷ []

abbrev pub fields_of : List ℕ → SynchronizationFields
fields_of p = record { sequence_number = byte_at p 6; synchronization_address = u16_at p 7 }

unfoldable pub synchronization_of : List ℕ → ℕ → Result SynchronizationFields Refusal
synchronization_of p len = reading Err (synchronization_checks p len) (Ok (fields_of p))
