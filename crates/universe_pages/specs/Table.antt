-- What may be told of a page that is written: as of every discovery packet, without 24, for no page has more than 512; or 47.
use Rattle.refusal.specs.declared.Refusal.{Refusal}
use Rattle.refusal.specs.Check.{Test, ◌=?◌, ◌≠?◌, ◌and◌, ◌or◌, nowhere}
use Rattle.pack.specs.Table.{discovery_allowed}

abbrev pub page_allowed : Refusal → Test
page_allowed r = r.number ≠? 24 and discovery_allowed r or r.number =? 47 and r.place =? nowhere and r.value =? 0
