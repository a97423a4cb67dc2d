-- What is held before any datagram, and after one more; and what is told of that one. Assumes nothing.
use Rattle.std.proofs.Common.{ℕ, ◌+◌, ◌≡◌, refl, ap, sym, ◌∙◌, List, [], ◌∷◌, ◌++◌, length}
use Rattle.follow_rules.specs.declared.Entry.{Entry}
use Rattle.follow_rules.specs.declared.Followed.{Followed}
use Rattle.follow_rules.specs.Totals.{zero_totals}
use Rattle.follower.specs.Follow.{After, after, follow_of}
use Rattle.follower.specs.Captures.{Held, answer_to, next_of, held_after_all}
use Rattle.turns.specs.Turn.{Telling}
use Rattle.follow.specs.declared.Follower.{Follower}
use Rattle.follow.specs.Lines.{became_line}
use Rattle.follow.specs.Following.{held_by, follows}

pub none_held : (t : List Entry) → held_by t [] ≡ record { table = t; totals = zero_totals }
unfolding held_after_all
none_held t = refl

held_more : (h : Held) (past : List (List ℕ)) (d : List ℕ) → held_after_all h (past ++ (d ∷ [])) ≡ next_of (held_after_all h past) d
unfolding held_after_all
held_more h [] d = refl
held_more h (x ∷ past) d = held_more (next_of h x) past d

-- one datagram is followed: its line tells what became of it, and it is behind
module _ (T : Telling) (f f' : Follower) (past : List (List ℕ)) (d : List ℕ) (r : Followed) (held : follows T f past) (is : after f'.table r ≡ follow_of f.table f.totals d) (totals : f'.totals ≡ r.totals) where
  pub line_is : (n : ℕ) → length past + 1 ≡ n → T.line past d ≡ became_line n r.answer
  line_is n many =
      let answer : answer_to (held_by held.0 past) d ≡ r.answer = ap (λ (h : Held). answer_to h d) held.2 ∙ ap (λ (x : After). x.followed.answer) (sym is) in
      ap (λ (U : Telling). U.line past d) held.1 ∙ rw (many, answer)

  pub follows_more : follows T f' (past ++ (d ∷ []))
  follows_more =
      let next : next_of (held_by held.0 past) d ≡ record { table = f'.table; totals = r.totals } =
      ap (λ (h : Held). next_of h d) held.2 ∙ ap (λ (x : After). record { table = x.table; totals = x.followed.totals }) (sym is) in
      (held.0, held.1, held_more (record { table = held.0; totals = zero_totals }) past d ∙ next ∙ rw totals)
