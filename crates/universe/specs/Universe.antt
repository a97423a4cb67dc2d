-- Universes that are allowed, 1..63999 and 64214, and their multicast addresses: 239.255.high.low, port 5568.
use Rattle.std.specs.Prelude.{ℕ, ◌/◌, ◌%◌, List, [], ◌∷◌, Result, Ok, Err}
use Rattle.refusal.specs.Check.{Numbered, numbered, refusal, nowhere, ◌≤?◌, ◌=?◌, ◌and◌, ◌or◌, reading}
use Rattle.refusal.specs.declared.Refusal.{Refusal}
use Rattle.universe.specs.declared.Ipv4Address.{Ipv4Address}

abbrev pub universe_checks : ℕ → List Numbered
universe_checks u = numbered (u =? 64214 or 1 ≤? u and u ≤? 63999) (refusal 30 nowhere u) ∷ []

unfoldable pub multicast_of : ℕ → Result Ipv4Address Refusal
multicast_of u =
    reading Err (universe_checks u)
    (Ok (record { highest = 239; second = 255; third = u / 0x100; lowest = u % 0x100; port = 5568 }))
