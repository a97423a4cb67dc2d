-- A page's write refuses only as the table says. Assumes nothing.
use Rattle.std.proofs.Common.{◌≡◌, ℕ, List, get_or, Err, refl, arith}
use Rattle.refusal.specs.declared.Refusal.{Refusal}
use Rattle.refusal.specs.Check.{refusal, nowhere, ◌≠?◌, ◌and◌}
use Rattle.refusal.proofs.Tests.{Holds, clash, fact, bounded}
use Rattle.refusal.proofs.Laws.{Every, every_++, computed}
use Rattle.name.specs.Name.{written_name_checks}
use Rattle.name.proofs.Good.{every_written}
use Rattle.discovery.specs.Universes.{rises, order_checks}
use Rattle.discovery.proofs.Laws.{every_pairs}
use Rattle.pack.specs.Writing.{packed_of}
use Rattle.pack.specs.Table.{told, discovery_allowed}
use Rattle.pack.proofs.Table.{refused_with}
use Rattle.universe_pages.specs.Writing.{numbered_checks, page_write_checks, page_length}
use Rattle.universe_pages.specs.Table.{page_allowed}

abbrev Allowed : Refusal → Type 0
Allowed r = Holds (page_allowed r)

-- what may be told of a discovery packet, and is not 24
as_packet : (r : Refusal) → Holds (r.number ≠? 24 and discovery_allowed r) → Allowed r
as_packet r h = λ f. absurd (clash (r.number ≠? 24 and discovery_allowed r) h f)

pub page_refusals : (room : ℕ) (name us : List ℕ) (k : ℕ) (r : Refusal) →
    packed_of (page_write_checks room name us k) (page_length us k) ≡ Err r → Holds (page_allowed r)
page_refusals room name us k r e =
    let names : Every Allowed (written_name_checks name) =
    every_written Allowed name (fact (page_allowed (refusal 21 nowhere 0))) (fact (page_allowed (refusal 22 nowhere 0)))
    (λ n few g. as_packet (refusal 23 nowhere n) (λ q. omega arith, (omega arith, bounded (told 23 nowhere n) n 62 refl few))) in
    let numbered : Every Allowed (numbered_checks room name us k) =
    (λ f. fact (page_allowed (refusal 47 nowhere 0)), λ h. (λ f. fact (page_allowed (refusal 20 nowhere 0)), λ h. names)) in
    let order : Every Allowed (order_checks us) = every_pairs rises Allowed us (λ u i. computed page_allowed (rises u (get_or us i 0)) refl) in
    refused_with Allowed (page_write_checks room name us k) (page_length us k) r
    (every_++ Allowed (order_checks us) (numbered_checks room name us k) order (λ a. numbered)) e
