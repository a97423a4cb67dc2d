use Rattle.std.proofs.Common.{refl, arith}
use Rattle.follow.specs.declared.Follower.{Follower}
use Rattle.follow.proofs.Held.{line_is, follows_more}
use Rattle.follow.proofs.FollowerTeller.put_line.Goals as goal

pub returns : goal.returns
returns c =
    let a = c.args in
    let r = c.follow-followed.result in
    let then : Follower = record { table = c.follow-followed.new.table; totals = r.totals } in
    λ T past held many.
    let line = line_is T a.self.now then past a.datagram.now r held c.follow-followed.ensures refl a.n many in (
      rw line c.put_became.ensures.put,
      λ short. rw line (omega (arith, c.put_became.ensures.answer_len_bound)),
      follows_more T a.self.now then past a.datagram.now r held c.follow-followed.ensures refl,
    )
