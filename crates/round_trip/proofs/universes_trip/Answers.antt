use Rattle.round_trip.proofs.Laws.{written, returned}
use Rattle.round_trip.proofs.universes_trip.Goals as goal

pub returns-in_err-pack_discovery-clause-returned : goal.returns-in_err-pack_discovery-clause-returned
returns-in_err-pack_discovery-clause-returned c = λ h k m. absurd (written _ _ _ _ _ _ c.in_err-pack_discovery.ensures.answer h k m)

pub returns-clause-returned : goal.returns-clause-returned
returns-clause-returned c =
    returned _ _ _ _ _ _ _ _ _ _ c.in_ok-pack_discovery.ensures.answer c.in_ok-pack_discovery.ensures.bytes c.copy_universes.ensures.answer c.copy_universes.ensures.filled
