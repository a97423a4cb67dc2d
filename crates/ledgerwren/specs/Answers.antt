-- What the three writers answer for a buffer of so many bytes.
use Rattle.std.specs.Prelude.{ℕ, List, Result}
use Rattle.pack.specs.Writing.{data_length, synchronization_length, discovery_length, data_write_checks, synchronization_write_checks, discovery_write_checks, packed_of}
use Rattle.refusal.specs.declared.Refusal.{Refusal}

abbrev pub data_answer : ℕ → List ℕ → List ℕ → Result ℕ Refusal
data_answer room name values = packed_of (data_write_checks room name values) (data_length values)

abbrev pub synchronization_answer : ℕ → Result ℕ Refusal
synchronization_answer room = packed_of (synchronization_write_checks room) synchronization_length

abbrev pub discovery_answer : ℕ → List ℕ → List ℕ → Result ℕ Refusal
discovery_answer room name us = packed_of (discovery_write_checks room name us) (discovery_length us)
