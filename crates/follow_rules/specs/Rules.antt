-- What becomes of a datagram, by what is heard of it, the totals so far, and what the table has of its source. Rule by rule, as request 02 has them.
use Rattle.std.specs.Prelude.{ℕ, List, Option, Some, None, true, ltb}
use Rattle.refusal.specs.Check.{pick, choose, refusal, nowhere}
use Rattle.sequence.specs.Sequence.{late_of}
use Rattle.follow_rules.specs.declared.Entry.{Entry}
use Rattle.follow_rules.specs.declared.Sent.{Sent}
use Rattle.follow_rules.specs.declared.Kind.{Kind}
use Rattle.follow_rules.specs.declared.Kind.TheVariants as kind
use Rattle.follow_rules.specs.declared.Totals.{Totals}
use Rattle.follow_rules.specs.declared.Answer.{Answer}
use Rattle.follow_rules.specs.declared.Answer.TheVariants.{Accepted, Discarded, Refused, NotData, Unreadable}
use Rattle.follow_rules.specs.declared.Spot.{Spot}
use Rattle.follow_rules.specs.declared.Spot.TheVariants.{Ours, Free, Neither}
use Rattle.follow_rules.specs.declared.Stored.{Stored}
use Rattle.follow_rules.specs.declared.Decision.{Decision}
use Rattle.follow_rules.specs.Totals.{full, accept_of, discard_of, refuse_of}
use Rattle.follow_rules.specs.Table.{free_entry}

-- the table stays; an entry is stored
abbrev pub stay_of : Totals → Answer → Decision
stay_of n a = record { stored = None; followed = record { answer = a; totals = n } }

abbrev pub store_of : ℕ → Entry → Totals → Answer → Decision
store_of i e n a = record { stored = Some (record { at = i; entry = e }); followed = record { answer = a; totals = n } }

-- an accepted packet stores its number; with the terminated bit it leaves its entry free and zeroed
abbrev pub kept_of : List ℕ → Sent → Entry
kept_of cid s =
    pick s.stream_terminated free_entry (record { cid = cid; universe = s.universe; last = s.sequence_number; used = true })

abbrev pub accepted_at : ℕ → Totals → List ℕ → Sent → Decision
accepted_at i n cid s = store_of i (kept_of cid s) (accept_of n) Accepted

-- the first used entry of the source: late is discarded, else accepted; no such entry: the first free one takes the source; no free one: 41
abbrev pub counted_of : Totals → List ℕ → Sent → Spot → Decision
counted_of n cid s (Ours i last) = pick (late_of s.sequence_number last) (stay_of (discard_of n) Discarded) (accepted_at i n cid s)
counted_of n cid s (Free i) = accepted_at i n cid s
counted_of n cid s Neither = stay_of (refuse_of n) (Refused (refusal 41 nowhere 0))

-- any total at its largest number: 40, nothing moves
abbrev pub data_of : Totals → List ℕ → Sent → Spot → Decision
data_of n cid s p = choose (full n) (stay_of n (Refused (refusal 40 nowhere 0))) (counted_of n cid s p)

-- a refusal of reading, or another kind of packet: nothing moves
abbrev pub decision_of : Totals → List ℕ → Kind → Spot → Decision
decision_of n cid (kind.Unreadable r) p = stay_of n (Unreadable r)
decision_of n cid kind.Other p = stay_of n NotData
decision_of n cid (kind.Data s) p = data_of n cid s p

-- what is stored in a table of so many entries
abbrev pub stored_within : Option Stored → ℕ → Option Stored
stored_within None len = None
stored_within (Some s) len = pick (ltb s.at len) (Some s) None
