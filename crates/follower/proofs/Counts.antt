-- The totals: each is the number of its answers, and together they are the data packets read, those refused 40 left out, at every point of a
-- capture. Assumes nothing.
use Rattle.std.proofs.Common.{ℕ, zero, suc, ◌+◌, ◌≡◌, refl, ap, List, [], ◌∷◌, true, arith, take}
use Rattle.refusal.specs.Check.{pick}
use Rattle.refusal.proofs.Tests.{never}
use Rattle.packet.specs.Packet.{reading_of}
use Rattle.packet.specs.declared.Packet.{Packet}
use Rattle.packet.specs.declared.Packet.TheVariants as packet
use Rattle.follow_rules.specs.declared.Entry.{Entry}
use Rattle.follow_rules.specs.declared.Totals.{Totals}
use Rattle.follow_rules.specs.declared.Answer.{Answer}
use Rattle.follow_rules.specs.Totals.{zero_totals, sum_of}
use Rattle.follower.specs.Follow.{After, follow_of}
use Rattle.follower.specs.Captures.{Held, answer_to, next_of, held_after_all, answers_of, is_data_packet, is_other_packet, data_in, how_many, one_accepted, one_discarded, one_refused}
use Rattle.follower.proofs.Steps.{Case, unread, other, at_largest, discarded, accepted, taken_in, no_room, each_case}

-- what one datagram adds to each, and in all
record Adds (n : Totals) (p : Packet) (r : After) : Type 0 where
  accept : r.followed.totals.accepted ≡ n.accepted + one_accepted r.followed.answer
  discard : r.followed.totals.discarded ≡ n.discarded + one_discarded r.followed.answer
  refuse : r.followed.totals.room_refused ≡ n.room_refused + one_refused 41 r.followed.answer
  all : one_accepted r.followed.answer + one_discarded r.followed.answer + one_refused 41 r.followed.answer + one_refused 40 r.followed.answer ≡ pick (is_data_packet p) 1 0

other_adds : (p : Packet) → is_other_packet p ≡ true → ◌≡◌ {A = ℕ} 0 (pick (is_data_packet p) 1 0)
other_adds (packet.Data x) e = never e
other_adds (packet.Synchronization x) e = refl
other_adds (packet.Discovery x) e = refl
other_adds (packet.Refused r) e = refl

adds : (t : List Entry) (n : Totals) (d : List ℕ) → Adds n (reading_of d).packet (follow_of t n d)
adds t n d = by (follow_of t n d) (each_case t n d)
  where
    by : (r : After) → Case t n (reading_of d).cid (reading_of d).packet r → Adds n (reading_of d).packet r
    by _ (unread q e) = record { accept = omega arith; discard = omega arith; refuse = omega arith; all = rw e }
    by _ (other e) = record { accept = omega arith; discard = omega arith; refuse = omega arith; all = other_adds (reading_of d).packet e }
    by _ (at_largest x e k) = record { accept = omega arith; discard = omega arith; refuse = omega arith; all = rw e }
    by _ (discarded x e f i y a k) = record { accept = omega arith; discard = refl; refuse = omega arith; all = rw e }
    by _ (accepted x e f i y a k) = record { accept = refl; discard = omega arith; refuse = omega arith; all = rw e }
    by _ (taken_in x e f k i y a) = record { accept = refl; discard = omega arith; refuse = omega arith; all = rw e }
    by _ (no_room x e f k m) = record { accept = omega arith; discard = omega arith; refuse = refl; all = rw e }

-- over a capture, from any table and any totals
record Added (h : Held) (ds : List (List ℕ)) : Type 0 where
  accept : (held_after_all h ds).totals.accepted ≡ h.totals.accepted + how_many one_accepted (answers_of h ds)
  discard : (held_after_all h ds).totals.discarded ≡ h.totals.discarded + how_many one_discarded (answers_of h ds)
  refuse : (held_after_all h ds).totals.room_refused ≡ h.totals.room_refused + how_many (one_refused 41) (answers_of h ds)
  all : how_many one_accepted (answers_of h ds) + how_many one_discarded (answers_of h ds) + how_many (one_refused 41) (answers_of h ds) + how_many (one_refused 40) (answers_of h ds) ≡ data_in ds

added : (h : Held) (ds : List (List ℕ)) → Added h ds
unfolding held_after_all answers_of how_many data_in
added h [] = record { accept = omega arith; discard = omega arith; refuse = omega arith; all = refl }
added h (d ∷ ds) =
    let a = adds h.table h.totals d in
    let more = added (next_of h d) ds in
    record {
      accept = omega (arith, a.accept, more.accept);
      discard = omega (arith, a.discard, more.discard);
      refuse = omega (arith, a.refuse, more.refuse);
      all = omega (arith, a.all, more.all);
    }

-- the answers so far are those of the datagrams so far
front_answers : (h : Held) (k : ℕ) (ds : List (List ℕ)) → take k (answers_of h ds) ≡ answers_of h (take k ds)
unfolding answers_of
front_answers h zero ds = refl
front_answers h (suc k) [] = refl
front_answers h (suc k) (d ∷ ds) = ap (λ (l : List Answer). answer_to h d ∷ l) (front_answers (next_of h d) k ds)

-- From zero totals, after k datagrams of a capture. The totals sum to the data packets, those refused 40 left out.
pub sums : (t : List Entry) (ds : List (List ℕ)) (k : ℕ) →
    let h : Held = record { table = t; totals = zero_totals } in
    sum_of (held_after_all h (take k ds)).totals + how_many (one_refused 40) (take k (answers_of h ds)) ≡ data_in (take k ds)
sums t ds k =
    let h : Held = record { table = t; totals = zero_totals } in
    let a = added h (take k ds) in
    rw (front_answers h k ds) (omega (arith, a.accept, a.discard, a.refuse, a.all))

-- And each is the number of its answers.
pub each_total : (t : List Entry) (ds : List (List ℕ)) (k : ℕ) →
    let h : Held = record { table = t; totals = zero_totals } in
    let answers = take k (answers_of h ds) in
    (held_after_all h (take k ds)).totals ≡ record { accepted = how_many one_accepted answers; discarded = how_many one_discarded answers; room_refused = how_many (one_refused 41) answers }
each_total t ds k =
    let h : Held = record { table = t; totals = zero_totals } in
    let a = added h (take k ds) in
    let accept : (held_after_all h (take k ds)).totals.accepted ≡ how_many one_accepted (answers_of h (take k ds)) = omega (arith, a.accept) in
    let discard : (held_after_all h (take k ds)).totals.discarded ≡ how_many one_discarded (answers_of h (take k ds)) = omega (arith, a.discard) in
    let refuse : (held_after_all h (take k ds)).totals.room_refused ≡ how_many (one_refused 41) (answers_of h (take k ds)) = omega (arith, a.refuse) in
    rw (front_answers h k ds) (λ i. record { accepted = accept i; discarded = discard i; room_refused = refuse i })
