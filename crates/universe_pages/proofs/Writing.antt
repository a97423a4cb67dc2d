-- The checks of a written page, as the code goes through them; and a page is a discovery packet. Assumes nothing.
use Rattle.std.proofs.Common.{◌≡◌, ℕ, ◌≤◌, List, [], ◌∷◌, length, IsErrAnd, Ok, Err, sym, ap, ◌∙◌}
use Rattle.refusal.specs.declared.Refusal.{Refusal}
use Rattle.refusal.specs.Check.{reading, checked_of}
use Rattle.refusal.proofs.Tests.{Holds}
use Rattle.refusal.proofs.Laws.{reading_++, all_hold, after_check, check_first, handed_on, gone_on}
use Rattle.discovery.specs.Universes.{order_checks}
use Rattle.pack.specs.Writing.{count_check, discovery_write_checks, Packed, packed_of}
use Rattle.universe_pages.proofs.Rising.{rising, rising→order}
use Rattle.universe_pages.specs.Pages.{last_page_of, page_of}
use Rattle.universe_pages.specs.Writing.{number_check, room_and_name_checks, numbered_checks, page_write_checks, page_length}
use Rattle.universe_pages.proofs.Pages.{page_short, page_rising}

-- The whole list's order comes first: where it refuses, that is told, and else the other checks decide.
module _ (room : ℕ) (name us : List ℕ) (k len : ℕ) where
  by_order : packed_of (page_write_checks room name us k) len ≡ after_check Err (packed_of (numbered_checks room name us k) len) (checked_of (order_checks us))
  unfolding packed_of reading
  by_order = check_first Err [] (order_checks us) (numbered_checks room name us k) (Ok len)

  pub order_refused : {r : Refusal} {x : Packed} → Err r ≡ checked_of (order_checks us) → IsErrAnd x (λ (e : Refusal). e ≡ r) →
      x ≡ packed_of (page_write_checks room name us k) len
  order_refused e f = handed_on (λ t. packed_of (numbered_checks room name us k) len) e f ∙ sym by_order

  pub order_passed : {x : Packed} → Ok tt ≡ checked_of (order_checks us) → x ≡ packed_of (numbered_checks room name us k) len →
      x ≡ packed_of (page_write_checks room name us k) len
  order_passed e f = gone_on (λ t. packed_of (numbered_checks room name us k) len) e f ∙ sym by_order

-- A page of a list that rises is written as the discovery packet that it is, answer and all: of its own checks the room and the name decide.
pub page_packed : (room : ℕ) (name us : List ℕ) (k : ℕ) → k ≤ last_page_of us → Holds (rising us) →
    packed_of (discovery_write_checks room name (page_of us k)) (page_length us k) ≡ packed_of (numbered_checks room name us k) (page_length us k)
unfolding packed_of
page_packed room name us k h r =
    let page = page_of us k in
    let own = room_and_name_checks room name page in
    let more = count_check 512 (length page) ∷ order_checks page in
    let told = Ok (page_length us k) in
    reading_++ Err own more told
    ∙ ap (reading Err own) (all_hold Err more told (page_short us k, rising→order page (page_rising us k r)))
    ∙ sym (reading_++ Err (number_check us k ∷ []) own told ∙ all_hold Err (number_check us k ∷ []) (reading Err own told) (h, tt))
