-- The framing layer of a universe discovery packet, after its start. Offsets count from the layer's first byte, in its part p; len is its length.
use Rattle.std.specs.Prelude.{ℕ, ◌-◌, List, [], ◌∷◌, ◌++◌, length, take, drop, Result, Ok, Err}
use Rattle.refusal.specs.Check.{Check, check, refusal, framing, fits, ◌≤?◌, reading}
use Rattle.refusal.specs.declared.Refusal.{Refusal}
use Rattle.refusal.specs.declared.Reason.TheVariants as why
use Rattle.refusal.specs.declared.LengthIn.TheVariants as length-in
use Rattle.name.specs.Name.{zero_at, source_name_checks}
use Rattle.pdu.specs.Head.{length_of}
use Rattle.discovery.specs.Layer.{discovery_checks, fields_of, count_in}
use Rattle.name.specs.Name.{name_field}
use Rattle.extended.specs.declared.universe_discovery.DiscoveryFraming.{DiscoveryFraming}

-- the discovery layer's part: byte 74 up to the framing length
abbrev pub discovery_part : List ℕ → ℕ → List ℕ
discovery_part p len = take (len - 74) (drop 74 p)

-- 14 if its length exceeds its own part; 5 if length below 82
abbrev pub start_checks : List ℕ → ℕ → List Check
start_checks p len = fits len framing (length p) ∷ check (82 ≤? len) (refusal 5 framing len) (why.Length length-in.DiscoveryFraming) 0 ∷ []

-- then the name, and then the discovery layer
abbrev pub discovery_framing_checks : List ℕ → ℕ → List Check
discovery_framing_checks p len = start_checks p len ++ (source_name_checks (name_field p) ++ discovery_checks (discovery_part p len))

abbrev pub layer_named : ℕ → List ℕ → DiscoveryFraming
layer_named name q = record { name = name; fields = fields_of q; universes = count_in (length_of q) }

unfoldable pub discovery_framing_of : List ℕ → ℕ → Result DiscoveryFraming Refusal
discovery_framing_of p len = reading Err (discovery_framing_checks p len) (Ok (layer_named (zero_at (name_field p)) (discovery_part p len)))
