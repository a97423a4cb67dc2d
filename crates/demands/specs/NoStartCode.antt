-- Request 07's exception to demand 2: where there are no values the crate reads and writes, and ours refuses. Within document 01's domain the crate's
-- checks are ours without 17 at reading and without 27 at writing; compare/run holds that to the crate.
use Rattle.std.specs.Prelude.{ℕ, ◌≡◌, List, [], ◌∷◌, ◌⊎◌, eqb, length, Result, Ok, Err}
use Rattle.refusal.specs.declared.Refusal.{Refusal}
use Rattle.refusal.specs.Check.{CheckOf, pick, reading, refusal, nowhere, dmp}
use Rattle.packet.specs.Packet.{framing_part, packet_checks, record_of, packet_of}
use Rattle.packet.specs.declared.DataRecord.{DataRecord}
use Rattle.framing.specs.declared.DataFields.{DataFields}
use Rattle.packet.specs.declared.Packet.{Packet}
use Rattle.packet.specs.declared.Packet.TheVariants as packet
use Rattle.edition2009.specs.Packet.{packet_checks2009, data_record2009, packet2009_of}
use Rattle.edition2009.specs.declared.DataFields2009.{DataFields2009}
use Rattle.edition2009.specs.declared.Packet2009.{Packet2009}
use Rattle.edition2009.specs.declared.Packet2009.TheVariants as old
use Rattle.pack.specs.Writing.{data_write_checks, data_length, packed_of}

-- a list of checks without those of one number
abbrev pub without : {I : Type 0} → ℕ → List (CheckOf I) → List (CheckOf I)
without n [] = []
without n (c ∷ cs) = pick (eqb c.otherwise.number n) (without n cs) (c ∷ without n cs)

-- the answer of each list without the new check: the present reader's, the 2009 reader's, the writer's
unfoldable pub packet_without17 : List ℕ → Packet
packet_without17 d = reading packet.Refused (without 17 (packet_checks d)) (record_of d)

unfoldable pub packet2009_without17 : List ℕ → Packet2009
packet2009_without17 d = reading old.Refused (without 17 (packet_checks2009 d)) (old.Data (data_record2009 (framing_part d)))

unfoldable pub packed_without27 : ℕ → List ℕ → List ℕ → Result ℕ Refusal
packed_without27 room name values = packed_of (without 27 (data_write_checks room name values)) (data_length values)

-- Reading: the same answer; or without 17 a data packet with no values is read, and 17 is told.
abbrev pub ReadsBut17 : List ℕ → Type 0
ReadsBut17 d =
    (packet_of d ≡ packet_without17 d)
    ⊎ ((packet_of d ≡ packet.Refused (refusal 17 dmp 0)) × ((x : DataRecord DataFields) × (packet_without17 d ≡ packet.Data x) × (x.values.len ≡ 0)))

abbrev pub Reads2009But17 : List ℕ → Type 0
Reads2009But17 d =
    (packet2009_of d ≡ packet2009_without17 d)
    ⊎ ((packet2009_of d ≡ old.Refused (refusal 17 dmp 0)) × ((x : DataRecord DataFields2009) × (packet2009_without17 d ≡ old.Data x) × (x.values.len ≡ 0)))

-- Writing: the same answer; or no values are lent, without 27 the answer is the length of a packet with none, and 27 is told.
abbrev pub WritesBut27 : ℕ → List ℕ → List ℕ → Type 0
WritesBut27 room name values =
    let ours = packed_of (data_write_checks room name values) (data_length values) in
    (ours ≡ packed_without27 room name values)
    ⊎ ((ours ≡ Err (refusal 27 nowhere 0)) × (packed_without27 room name values ≡ Ok 125) × (length values ≡ 0))
