-- The universe discovery layer. Offsets count from the layer's first byte, in its part p.
use Rattle.std.specs.Prelude.{ℕ, ◌+◌, ◌-◌, ◌*◌, ◌/◌, List, [], ◌∷◌, ◌++◌, length, drop, Result, Ok, Err}
use Rattle.wire.specs.Fields.{byte_at, be32, join}
use Rattle.refusal.specs.Check.{Check, check, refusal, discovery, ◌≤?◌, ◌=?◌, ◌and◌, reading}
use Rattle.refusal.specs.declared.Refusal.{Refusal}
use Rattle.refusal.specs.declared.Reason.TheVariants as why
use Rattle.refusal.specs.declared.LengthIn.TheVariants as length-in
use Rattle.refusal.specs.declared.VectorIn.TheVariants as vector-in
use Rattle.pdu.specs.Head.{head_checks, length_of, vector_of, flags_and_length}
use Rattle.pdu.specs.declared.VectorLength.TheVariants.{Four}
use Rattle.discovery.specs.Universes.{list_checks, universe_bytes}
use Rattle.discovery.specs.declared.DiscoveryLayer.{DiscoveryLayer}
use Rattle.discovery.specs.declared.DiscoveryFields.{DiscoveryFields}

-- the universes stand from byte 8 on, as many as the length says; an odd last byte is ignored
abbrev pub list_part : List ℕ → List ℕ
list_part p = drop 8 p

abbrev pub count_in : ℕ → ℕ
count_in len = (len - 8) / 2

abbrev pub fields_of : List ℕ → DiscoveryFields
fields_of p = record { page = byte_at p 6; last_page = byte_at p 7 }

-- 16 unless its length equals its part; 4; 5 unless 8..1032; 11; then the universe list
abbrev pub own_checks : List ℕ → ℕ → ℕ → List Check
own_checks p len vec =
    check (len =? length p) (refusal 16 discovery len) why.LengthDiffers 0
    ∷ check (vec =? 1) (refusal 4 discovery vec) (why.Vector vector-in.Discovery) 2
    ∷ check (8 ≤? len and len ≤? 1032) (refusal 5 discovery len) (why.Length length-in.Discovery) 0
    ∷ check (byte_at p 6 ≤? byte_at p 7) (refusal 11 discovery 0) why.Page 6
    ∷ []

abbrev pub body_checks : List ℕ → ℕ → ℕ → List Check
body_checks p len vec = own_checks p len vec ++ list_checks (list_part p) (count_in len)

abbrev pub discovery_checks : List ℕ → List Check
discovery_checks p = head_checks Four discovery p ++ body_checks p (length_of p) (vector_of Four p)

abbrev pub layer_of : List ℕ → ℕ → DiscoveryLayer
layer_of p len = record { fields = fields_of p; count = count_in len }

unfoldable pub body_of : List ℕ → ℕ → ℕ → Result DiscoveryLayer Refusal
body_of p len vec = reading Err (body_checks p len vec) (Ok (layer_of p len))

unfoldable pub discovery_of : List ℕ → Result DiscoveryLayer Refusal
discovery_of p = reading Err (discovery_checks p) (Ok (layer_of p (length_of p)))

-- flags and length, vector, page, last page; then the universes
abbrev pub discovery_head : DiscoveryFields → ℕ → List ℕ
discovery_head f count = join (flags_and_length (8 + 2 * count) ∷ be32 1 ∷ (f.page ∷ []) ∷ (f.last_page ∷ []) ∷ [])

unfoldable pub discovery_bytes : DiscoveryFields → List ℕ → List ℕ
discovery_bytes f us = discovery_head f (length us) ++ universe_bytes us
