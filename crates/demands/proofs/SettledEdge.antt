-- Demand 1 for the calls that show a reading and that Rust and C link: two results that satisfy a call's contract are equal, and so are two
-- buffers at exit. Assumes nothing.
use mathlib.Core.Path.{sym, ◌∙◌}
use Rattle.parts.proofs as Parts
use Rattle.view.proofs as View
use Rattle.c_answers.proofs as CAnswers
use Rattle.ledgerwren.proofs as Ledgerwren
use Rattle.demands.proofs.Contracts.{Settled, settled, SettledAs, settled_as, SettledWith, settled_with}

-- parts
pub kind_of : Settled Parts.plain.kind_of.Reads.Learnt
kind_of = settled (λ k a r e p. p)

pub plain_of : Settled Parts.plain.plain_of.Reads.Learnt
plain_of = settled (λ k a r e p. p)

-- view
pub view : Settled View.view.Reads.Learnt
view k a r s e f p q = λ i. record { datagram = (p.0 ∙ sym q.0) i; name = (p.1 ∙ sym q.1) i; values = (p.2 ∙ sym q.2) i }

pub name : SettledAs View.name.Reads.Learnt (λ k r e. r.now)
name = settled_as (λ k a r e p. p)

pub values : SettledAs View.values.Reads.Learnt (λ k r e. r.now)
values = settled_as (λ k a r e p. p)

pub viewed_name : SettledAs View.viewed_name.Reads.Learnt (λ k r e. r.now)
viewed_name = settled_as (λ k a r e p. p)

pub viewed_values : SettledAs View.viewed_values.Reads.Learnt (λ k r e. r.now)
viewed_values = settled_as (λ k a r e p. p)

-- flat
pub flatten : Settled CAnswers.flatten.Reads.Learnt
flatten = settled (λ k a r e p. p)

pub flatten_2009 : Settled CAnswers.flatten_2009.Reads.Learnt
flatten_2009 = settled (λ k a r e p. p)

pub outcome_of : Settled CAnswers.outcome_of.Reads.Learnt
outcome_of = settled (λ k a r e p. p)

pub refusal_of : Settled CAnswers.refusal_of.Reads.Learnt
refusal_of = settled (λ k a r e p. p)

pub address_of : Settled CAnswers.address_of.Reads.Learnt
address_of = settled (λ k a r e p. p)

-- exports
pub ledgerwren1_parse : Settled Ledgerwren.ledgerwren1_parse.Reads.Learnt
ledgerwren1_parse = settled (λ k a r e p. p)

pub ledgerwren1_parse_2009 : Settled Ledgerwren.ledgerwren1_parse_2009.Reads.Learnt
ledgerwren1_parse_2009 = settled (λ k a r e p. p)

pub ledgerwren1_copy_universes : SettledWith Ledgerwren.ledgerwren1_copy_universes.Reads.Learnt (λ k e. e.1.0.now)
ledgerwren1_copy_universes = settled_with (λ k a r e p. p)

pub ledgerwren1_pack_data : SettledWith Ledgerwren.ledgerwren1_pack_data.Reads.Learnt (λ k e. e.0.now)
ledgerwren1_pack_data = settled_with (λ k a r e p. p)

pub ledgerwren1_pack_synchronization : SettledWith Ledgerwren.ledgerwren1_pack_synchronization.Reads.Learnt (λ k e. e.0.now)
ledgerwren1_pack_synchronization = settled_with (λ k a r e p. p)

pub ledgerwren1_pack_discovery : SettledWith Ledgerwren.ledgerwren1_pack_discovery.Reads.Learnt (λ k e. e.0.now)
ledgerwren1_pack_discovery = settled_with (λ k a r e p. p)

pub ledgerwren1_is_universe_in_range : Settled Ledgerwren.ledgerwren1_is_universe_in_range.Reads.Learnt
ledgerwren1_is_universe_in_range = settled (λ k a r e p. p)

pub ledgerwren1_universe_to_ipv4_multicast_addr : Settled Ledgerwren.ledgerwren1_universe_to_ipv4_multicast_addr.Reads.Learnt
ledgerwren1_universe_to_ipv4_multicast_addr = settled (λ k a r e p. p)
