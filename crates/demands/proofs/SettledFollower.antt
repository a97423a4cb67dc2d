-- Demand 1 for the calls that follow sequence numbers: two results that satisfy a call's contract are equal, and so are two tables at exit.
-- Assumes nothing.
use Rattle.sequence.proofs as Sequence
use Rattle.follow_rules.proofs as FollowRules
use Rattle.follower.proofs as Follower
use Rattle.follower.specs.Follow.{after}
use Rattle.demands.proofs.Contracts.{Settled, settled, SettledAs, settled_as}

-- sequence
pub difference : Settled Sequence.difference.Reads.Learnt
difference = settled (λ k a r e p. p)

pub late : Settled Sequence.late.Reads.Learnt
late = settled (λ k a r e p. p)

-- follow_rules
pub free : Settled FollowRules.Entry.free.Reads.Learnt
free = settled (λ k a r e p. p)

pub zero : Settled FollowRules.Totals.zero.Reads.Learnt
zero = settled (λ k a r e p. p)

pub full : Settled FollowRules.Totals.full.Reads.Learnt
full = settled (λ k a r e p. p)

pub unseen : Settled FollowRules.unseen.Reads.Learnt
unseen = settled (λ k a r e p. p)

pub seeks : Settled FollowRules.seeks.Reads.Learnt
seeks = settled (λ k a r e p. p)

pub look : Settled FollowRules.look.Reads.Learnt
look = settled (λ k a r e p. p)

pub decide : Settled FollowRules.decide.Reads.Learnt
decide = settled (λ k a r e p. p)

pub stores_within : Settled FollowRules.stores_within.Reads.Learnt
stores_within = settled (λ k a r e p. p)

-- follower
pub listen : Settled Follower.listen.Reads.Learnt
listen = settled (λ k a r e p. p)

pub follow_heard : SettledAs Follower.follow_heard.Reads.Learnt (λ k r e. after e.0.now r)
follow_heard = settled_as (λ k a r e p. p)

pub follow : SettledAs Follower.follow.Reads.Learnt (λ k r e. after e.0.now r)
follow = settled_as (λ k a r e p. p)
