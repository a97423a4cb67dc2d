-- Demand 1 for the calls that write and read again: two results that satisfy a call's contract are equal, and so are two of each buffer at exit.
-- Assumes nothing.
use Rattle.std.proofs.Common.{◌≡◌, ℕ, List, sym, ◌∙◌}
use Rattle.demands.proofs.Contracts.{SettledWith}
use Rattle.round_trip.proofs.data_trip.Reads as data-call
use Rattle.round_trip.proofs.synchronization_trip.Reads as synchronization-call
use Rattle.round_trip.proofs.discovery_trip.Reads as discovery-call
use Rattle.round_trip.proofs.universes_trip.Reads as universes-call
use Rattle.round_trip.proofs.of_2009.data_trip_2009.Reads as data-call-2009
use Rattle.round_trip.proofs.of_2009.synchronization_trip_2009.Reads as synchronization-call-2009
use Rattle.round_trip.proofs.of_2009.discovery_trip_2009.Reads as discovery-call-2009

pub data_trip : SettledWith data-call.Learnt (λ k e. e.0.now)
data_trip k a r s e f p q = let b = p.1.0 ∙ sym q.1.0 in (cc (p.0, q.0, b), b)

pub synchronization_trip : SettledWith synchronization-call.Learnt (λ k e. e.0.now)
synchronization_trip k a r s e f p q = let b = p.1.0 ∙ sym q.1.0 in (cc (p.0, q.0, b), b)

pub discovery_trip : SettledWith discovery-call.Learnt (λ k e. e.0.now)
discovery_trip k a r s e f p q = let b = p.1.0 ∙ sym q.1.0 in (cc (p.0, q.0, b), b)

pub universes_trip : SettledWith {B = λ k. List ℕ × List ℕ} universes-call.Learnt (λ k e. (e.0.now, e.1.1.1.1.1.0.now))
universes_trip k a r s e f p q =
    let b : e.0.now ≡ f.0.now = p.1.0 ∙ sym q.1.0 in
    let same : r ≡ s = cc (p.0, q.0, b) in
    let o : e.1.1.1.1.1.0.now ≡ f.1.1.1.1.1.0.now = cc (p.1.1.0, q.1.1.0, same, b) in
    (same, λ i. (b i, o i))

pub data_trip_2009 : SettledWith data-call-2009.Learnt (λ k e. e.0.now)
data_trip_2009 k a r s e f p q = let b = p.1.0 ∙ sym q.1.0 in (cc (p.0, q.0, b), b)

pub synchronization_trip_2009 : SettledWith synchronization-call-2009.Learnt (λ k e. e.0.now)
synchronization_trip_2009 k a r s e f p q = let b = p.1.0 ∙ sym q.1.0 in (cc (p.0, q.0, b), b)

pub discovery_trip_2009 : SettledWith discovery-call-2009.Learnt (λ k e. e.0.now)
discovery_trip_2009 k a r s e f p q = let b = p.1.0 ∙ sym q.1.0 in (cc (p.0, q.0, b), b)
