-- What the collector may tell beside reading's own refusals.
use Rattle.refusal.specs.declared.Refusal.{Refusal}
use Rattle.refusal.specs.Check.{Test, ◌=?◌, ◌and◌, ◌or◌, nowhere}

abbrev pub collector_allowed : Refusal → Test
collector_allowed r =
    (r.number =? 31 or r.number =? 42 or r.number =? 43 or r.number =? 44) and r.place =? nowhere and r.value =? 0
