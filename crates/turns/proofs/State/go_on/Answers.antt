use Rattle.std.proofs.Common.{◌+◌, ◌≤◌, ◌<◌, refl, ap, ◌∙◌, length, arith}
use Rattle.refusal.proofs.Tests.{chosen, passed_over}
use Rattle.standard_io.specs.System.{counted}
use Rattle.standard_io.specs.declared.Wrote.{Wrote}
use Rattle.turns.proofs.State.go_on.Goals as goal
use Rattle.turns.proofs.State.go_on.Goals.{then-saturating_sub-ge-LINE_ROOM, else-saturating_sub-ge-LINE_ROOM}

pub returns : goal.returns
returns g c =
    let out = c.args.out.now in
    let total = c.args.self.now.wrote.total in
    elim c.if-saturating_sub-ge-LINE_ROOM.branch [
      | then-saturating_sub-ge-LINE_ROOM w ↦
          let fits : out.len + 40000 ≤ length out.bytes.now = omega arith in
          rw (w.self-is, w.out-is)
          (record {
            unread = refl;
            text = refl;
            place = chosen _ _ _ fits refl;
            handed = ap (λ (x : Wrote). x.total) w.kept-self.ensures ∙ ap (counted total) (chosen _ _ _ fits refl);
            kept = λ h. ap (λ (x : Wrote). x.all) w.kept-self.ensures;
            goes = rw w.self-is at c.took_all-self.ensures;
          })
      | else-saturating_sub-ge-LINE_ROOM w ↦
          let full : length out.bytes.now < out.len + 40000 = omega arith in
          rw (w.self-is, w.out-is, w.flush-self.ensures.empty)
          (record {
            unread = refl;
            text = refl;
            place = passed_over _ _ _ full refl;
            handed = w.flush-self.ensures.handed ∙ ap (counted total) (passed_over _ _ _ full refl);
            kept = λ h. absurd (omega arith);
            goes = rw w.self-is at c.took_all-self.ensures;
          })
    ]
