-- Document 01's table, for writing: the numbers that are told, from 20 on, all at place 0, and those that carry no value. A name that is no UTF-8
-- has at most 63 bytes, and fewer of them are good.
use Rattle.std.specs.Prelude.{ℕ}
use Rattle.refusal.specs.declared.Refusal.{Refusal}
use Rattle.refusal.specs.Check.{Test, ◌≤?◌, ◌=?◌, ◌and◌, ◌or◌, nowhere}

abbrev pub told : ℕ → ℕ → ℕ → Test
told number place value =
    number =? 20 and place =? nowhere and value =? 0
    or number =? 21 and place =? nowhere and value =? 0
    or number =? 22 and place =? nowhere and value =? 0
    or number =? 23 and place =? nowhere and value ≤? 62
    or number =? 24 and place =? nowhere and value =? 0
    or number =? 25 and place =? nowhere and value =? 0
    or number =? 26 and place =? nowhere and value =? 0
    or number =? 27 and place =? nowhere and value =? 0

abbrev pub allowed : Refusal → Test
allowed r = told r.number r.place r.value

-- data: 20 to 24, and 27; sync: 20; discovery: 20 to 26
abbrev pub data_allowed : Refusal → Test
data_allowed r = (r.number ≤? 24 or r.number =? 27) and allowed r

abbrev pub synchronization_allowed : Refusal → Test
synchronization_allowed r = r.number =? 20 and allowed r

abbrev pub discovery_allowed : Refusal → Test
discovery_allowed r = r.number ≤? 26 and allowed r
