-- Document 01's table, for reading: the places at which each number may be told, and the numbers that carry no value. A discovery layer is reached
-- only where its part has at least 8 bytes, so 1 is not told there. A name that is no UTF-8 has at most 63 bytes before its zero, and fewer of them
-- are good.
use Rattle.std.specs.Prelude.{ℕ}
use Rattle.refusal.specs.declared.Refusal.{Refusal}
use Rattle.refusal.specs.Check.{Test, ◌≤?◌, ◌=?◌, ◌≠?◌, ◌and◌, ◌or◌, preamble, root, framing, dmp, discovery, universe_list}

abbrev pub told : ℕ → ℕ → ℕ → Test
told number place value =
    number =? 1 and preamble ≤? place and place ≤? universe_list and place ≠? discovery and value =? 0
    or number =? 2 and (place =? preamble or place =? dmp) and value =? 0
    or number =? 3 and root ≤? place and place ≤? discovery
    or number =? 4 and root ≤? place and place ≤? discovery
    or number =? 5 and (place =? framing or place =? discovery)
    or number =? 6 and place =? framing and value =? 0
    or number =? 7 and place =? framing and value ≤? 62
    or number =? 8 and place =? framing
    or number =? 9 and place =? framing
    or number =? 10 and place =? framing
    or number =? 11 and place =? discovery and value =? 0
    or number =? 12 and place =? universe_list
    or number =? 13 and root ≤? place and place ≤? dmp and value =? 0
    or number =? 14 and root ≤? place and place ≤? dmp
    or number =? 15 and place =? dmp
    or number =? 16 and place =? discovery
    or number =? 17 and place =? dmp and value =? 0

abbrev pub allowed : Refusal → Test
allowed r = told r.number r.place r.value
