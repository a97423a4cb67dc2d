-- The framing layer under root vector 8, in its part p; `whole` is the length of root's whole part.
use Rattle.std.specs.Prelude.{ℕ, List, [], ◌∷◌, ◌++◌, Result, Ok, Err}
use Rattle.refusal.specs.Check.{Check, check, refusal, framing, ◌≤?◌, ◌=?◌, ◌or◌, choose, reading}
use Rattle.refusal.specs.declared.Refusal.{Refusal}
use Rattle.refusal.specs.declared.Reason.TheVariants as why
use Rattle.refusal.specs.declared.Room.TheVariants as room_in
use Rattle.refusal.specs.declared.VectorIn.TheVariants as vector-in
use Rattle.name.specs.Name.{zero_at}
use Rattle.pdu.specs.Head.{head_checks, length_of, vector_of}
use Rattle.pdu.specs.declared.VectorLength.TheVariants.{Four}
use Rattle.name.specs.Name.{name_field}
use Rattle.extended.specs.Synchronization.{synchronization_checks, fields_of as synchronizationFields}
use Rattle.extended.specs.UniverseDiscovery.{discovery_framing_checks, discovery_part, layer_named}
use Rattle.extended.specs.declared.Extended.{Extended}
use Rattle.extended.specs.declared.Extended.TheVariants.{Synchronization, Discovery}

-- 14 if its length exceeds root's whole part; 4 if the vector is neither 1 nor 2
abbrev pub kind_checks : ℕ → ℕ → ℕ → List Check
kind_checks whole len vec =
    check (len ≤? whole) (refusal 14 framing len) (why.Beyond room_in.Root) 0
    ∷ check (vec =? 1 or vec =? 2) (refusal 4 framing vec) (why.Vector vector-in.Extended) 2
    ∷ []

-- and then the layer that the vector names
abbrev pub body_checks : ℕ → List ℕ → ℕ → ℕ → List Check
body_checks whole p len vec = kind_checks whole len vec ++ choose (vec =? 1) (synchronization_checks p len) (discovery_framing_checks p len)

abbrev pub extended_checks : ℕ → List ℕ → List Check
extended_checks whole p = head_checks Four framing p ++ body_checks whole p (length_of p) (vector_of Four p)

abbrev pub layer_of : List ℕ → ℕ → ℕ → Extended
layer_of p len vec = choose (vec =? 1) (Synchronization (synchronizationFields p)) (Discovery (layer_named (zero_at (name_field p)) (discovery_part p len)))

unfoldable pub extended_of : ℕ → List ℕ → Result Extended Refusal
extended_of whole p = reading Err (extended_checks whole p) (Ok (layer_of p (length_of p) (vector_of Four p)))

-- the answer after the start
unfoldable pub body_of : ℕ → List ℕ → ℕ → ℕ → Result Extended Refusal
body_of whole p len vec = reading Err (body_checks whole p len vec) (Ok (layer_of p len vec))
