-- What is told of a datagram: readable, or the first of its reader's checks that fails, by the reason and the byte of that check's own line.
use Rattle.std.specs.Prelude.{ℕ, ◌≡◌, List, [], ◌∷◌, ◌++◌, Option, None, Some, Err}
use Rattle.refusal.specs.declared.Refusal.{Refusal}
use Rattle.refusal.specs.declared.Identity.{Identity}
use Rattle.refusal.specs.declared.Reason.{Reason}
use Rattle.refusal.specs.declared.Reason.TheVariants as why
use Rattle.refusal.specs.declared.Field.TheVariants as field_of
use Rattle.refusal.specs.declared.VectorIn.TheVariants as vector-in
use Rattle.refusal.specs.Check.{Check, ◌=?◌, choose, pick, outcome, checked_of}
use Rattle.pdu.specs.declared.Edition.{Edition}
use Rattle.pdu.specs.declared.Edition.TheVariants.{E2018, E2009}
use Rattle.framing.specs.Data.{data_checks}
use Rattle.extended.specs.Extended.{extended_checks}
use Rattle.root.specs.Root.{preamble_checks, root_checks, root_part}
use Rattle.packet.specs.Packet.{packet_checks}
use Rattle.edition2009.specs.Packet.{packet_checks2009}
use Rattle.failed_check.specs.declared.Fault.{Fault}

-- a reason, and the byte of the datagram that is told with it
abbrev pub identity : Reason → ℕ → Identity
identity reason byte = record { reason = reason; byte = byte }

-- what the reader answers, and which check it is
abbrev pub fault : Refusal → Identity → Fault
fault r which = record { refusal = r; check = which }

-- of a list of checks the first that fails is told
unfoldable pub told_by : List Check → Option Fault
told_by [] = None
told_by (c ∷ cs) = pick (outcome c.test) (told_by cs) (Some (fault c.otherwise c.identity))

-- the list of all checks of each reader, in document 01's order: the lists that define reading
abbrev pub checks_of : Edition → List ℕ → List Check
checks_of E2018 d = packet_checks d
checks_of E2009 d = packet_checks2009 d

unfoldable pub told_of : Edition → List ℕ → Option Fault
told_of edition d = told_by (checks_of edition d)

-- the checks of the framing layer that edition and root vector name, in its part p; `whole` is the length of root's whole part
abbrev pub framed_checks : Edition → ℕ → ℕ → List ℕ → List Check
framed_checks E2018 vec whole p = choose (vec =? 4) (data_checks E2018 p) (extended_checks whole p)
framed_checks E2009 vec whole p = data_checks E2009 p

-- how the check of the root vector is told
abbrev pub vector_identity : Edition → Identity
vector_identity E2018 = identity (why.Vector vector-in.Root) 18
vector_identity E2009 = identity (why.Vector vector-in.Root2009) 18

-- and that of the field behind the priority, where it is not there
abbrev pub missed_behind_priority : Edition → Identity
missed_behind_priority E2018 = identity (why.Missing field_of.SyncAddress) 38
missed_behind_priority E2009 = identity (why.Missing field_of.SequenceNumber) 38

-- the checks of preamble and root layer
abbrev pub outer_checks : Edition → List ℕ → List Check
outer_checks edition d = preamble_checks d ++ root_checks edition (root_part d)

-- a list of checks refuses with r; and of its checks this one is told with it
abbrev pub Refuses : List Check → Refusal → Type 0
Refuses cs r = checked_of cs ≡ Err r

abbrev pub Names : List Check → Refusal → Identity → Type 0
Names cs r which = told_by cs ≡ Some (fault r which)
