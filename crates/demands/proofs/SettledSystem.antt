-- Demand 1 for the calls that use the system: two results that satisfy a call's contract, and of which the system said the same, are equal, and so
-- are two buffers at exit. Assumes nothing.
use mathlib.Core.Path.{◌≡◌, sym, ap, ◌∙◌}
use mathlib.Core.List.{[]}
use denote.RattleType.{RattleType}
use denote.Param.Laws.{Laws}
use mir.Syntax.{Dict}
use Rattle.std.specs.declared.io.stdio.Input as Input
use Rattle.std.specs.declared.io.traits.BufRead as BufRead
use Rattle.std.specs.declared.io.traits.Read as Read
use Rattle.std.specs.declared.io.Print as Print
use Rattle.std.specs.declared.io.Eprint as Eprint
use Rattle.standard_io.proofs as StandardIo
use Rattle.standard_io.specs.System.{heard_after}
use Rattle.standard_io.specs.declared.Said.{Said}
use Rattle.standard_io.specs.declared.Heard.{Heard}
use Rattle.standard_io.specs.declared.Wrote.{Wrote}
use Rattle.capture_input.proofs as CaptureInput
use Rattle.capture_input.proofs.Once.{Same, took_once}
use Rattle.capture_input.specs.Entries.{unread_in}
use Rattle.turns.proofs as Turns
use Rattle.turns.proofs.Once.{ran_once}
use Rattle.turns.specs.Turn.{Telling, over}
use Rattle.turns.specs.Run.{beginning, SameSystem}
use Rattle.turns.specs.declared.Teller as Teller
use Rattle.demands.proofs.SettledText.{seen}
use Rattle.demands.proofs.Contracts.{Settled, settled, SettledIf}

-- standard_io
pub nothing_heard : Settled StandardIo.Heard.nothing.Reads.Learnt
nothing_heard = settled (λ k a r e p. p)

pub quiet : Settled StandardIo.Heard.quiet.Reads.Learnt
quiet = settled (λ k a r e p. p)

pub reached : Settled StandardIo.Heard.reached.Reads.Learnt
reached = settled (λ k a r e p. p)

pub failed : Settled StandardIo.Heard.failed.Reads.Learnt
failed = settled (λ k a r e p. p)

pub nothing_written : Settled StandardIo.Wrote.nothing.Reads.Learnt
nothing_written = settled (λ k a r e p. p)

pub kept : Settled StandardIo.Wrote.kept.Reads.Learnt
kept = settled (λ k a r e p. p)

pub took_all : Settled StandardIo.Wrote.took_all.Reads.Learnt
took_all = settled (λ k a r e p. p)

-- as much text was handed to the system, and it took all of both or not all of either
same_write : (v w : Wrote) → v.total ≡ w.total → v.all ≡ w.all → v ≡ w
same_write v w t b i = record { all = b i; total = t i }

-- capture_input
-- as many bytes were brought, and the system said the same
same_heard : (h g : Heard) → h.total ≡ g.total → h.said ≡ g.said → h ≡ g
same_heard h g t s i = record { said = s i; total = t i }

pub nothing_read : Settled CaptureInput.Unread.nothing.Reads.Learnt
nothing_read = settled (λ k a r e p. p)

-- turns
pub begin : Settled Turns.State.begin.Reads.Learnt
begin = settled (λ k a r e p. p)

-- The calls that read, for every runtime that they may be handed.
module _ (T1 T2 : RattleType) (L1 : Laws T1) (L2 : Laws T2) (G1 : Input.Ghosts T1.Denot T2.Denot) (d1 : Dict) (G2 : BufRead.Ghosts T2.Denot) (d2 : Dict)
    (G3 : Read.Ghosts T2.Denot) (d3 d4 : Dict) where
  -- which bytes stand in the block behind those that were there is the system's
  pub read_more : SettledIf (StandardIo.Heard.read_more.Reads.Learnt T1 T2 L1 L2 G1 d1 G2 d2 G3 d3 d4) (λ k a r s e f p q. r.said ≡ s.said) (λ k r s e f. r ≡ s)
  read_more k a r s e f p q same = p.1.1 ∙ ap (λ (x : Said). heard_after a.0 x a.1.1.1.0) same ∙ sym q.1.1

  -- the same bytes arrived, and the system said the same of the last read: the same is found, put into the entry's buffer and left unread
  pub next_entry : SettledIf (CaptureInput.Unread.next_entry.Reads.Learnt T1 T2 L1 L2 G1 d1 G2 d2 G3 d3 d4)
      (λ k a r s e f p q. (p.0 ≡ q.0) × (e.0.now.heard.said ≡ f.0.now.heard.said))
      (λ k r s e f.
      Same r s (unread_in e.1.1.0.now e.0.now) (unread_in f.1.1.0.now f.0.now) e.1.1.1.0.now f.1.1.1.0.now
      × (e.0.now.heard ≡ f.0.now.heard))
  next_entry k a r s e f p q given = (
    took_once _ _ f.0.now.heard.said r s _ _ _ _ (rw given.0 at p.1) q.1 (rw given.1 at p.3) q.3,
    same_heard e.0.now.heard f.0.now.heard (rw given.0 at p.4 ∙ sym q.4) given.1,
  )

  -- and nothing else of the state moves
  pub take_next : SettledIf (Turns.State.take.Reads.Learnt T1 T2 L1 L2 G1 d1 G2 d2 G3 d3 d4)
      (λ k a r s e f p q. (p.0.0 ≡ q.0.0) × (e.0.now.unread.heard.said ≡ f.0.now.unread.heard.said))
      (λ k r s e f.
      Same r s (unread_in e.1.1.0.now e.0.now.unread) (unread_in f.1.1.0.now f.0.now.unread) e.1.1.1.0.now f.1.1.1.0.now
      × (e.0.now.unread.heard ≡ f.0.now.unread.heard)
      × (e.0.now.wrote ≡ f.0.now.wrote)
      × (e.0.now.going ≡ f.0.now.going))
  take_next k a r s e f p q given = (
    took_once _ _ f.0.now.unread.heard.said r s _ _ _ _ (rw given.0 at p.0.1) q.0.1 (rw given.1 at p.0.3) q.0.3,
    same_heard e.0.now.unread.heard f.0.now.unread.heard (rw given.0 at p.0.4 ∙ sym q.0.4) given.1,
    p.1 ∙ sym q.1,
    p.2 ∙ sym q.2,
  )

-- The calls that write, likewise.
module _ (T : RattleType) (L : Laws T) (G1 : Print.Ghosts T.Denot) (d1 : Dict) (G2 : Eprint.Ghosts T.Denot) (d2 : Dict) where
  pub write : SettledIf (StandardIo.Wrote.write.Reads.Learnt T L G1 d1 G2 d2) (λ k a r s e f p q. r.all ≡ s.all) (λ k r s e f. r ≡ s)
  write k a r s e f p q same = same_write r s (p ∙ sym q) same

  -- what is answered is the state and the text, which are lent
  pub go_on : SettledIf (Turns.State.go_on.Reads.Learnt T L G1 d1 G2 d2) (λ k a r s e f p q. e.0.now.wrote.all ≡ f.0.now.wrote.all)
      (λ k r s e f. (e.0.now ≡ f.0.now) × (seen e.1.1.0.now ≡ seen f.1.1.0.now))
  go_on k a r s e f p q same =
      let wrote = same_write e.0.now.wrote f.0.now.wrote (p.handed ∙ sym q.handed) same in
      let text = p.text ∙ sym q.text in (
        λ i. record { unread = (p.unread ∙ sym q.unread) i; wrote = wrote i; going = (p.goes ∙ same ∙ sym q.goes) i },
        λ i. ((p.place ∙ sym q.place) i, (text i).now),
      )

  pub finish : SettledIf (Turns.State.finish.Reads.Learnt T L G1 d1 G2 d2) (λ k a r s e f p q. e.0.now.wrote.all ≡ f.0.now.wrote.all)
      (λ k r s e f. (e.0.now ≡ f.0.now) × (seen e.1.1.0.now ≡ seen f.1.1.0.now))
  finish k a r s e f p q same =
      let wrote = same_write e.0.now.wrote f.0.now.wrote (p.handed ∙ sym q.handed) same in
      (p.done ∙ ap (over _) wrote ∙ sym q.done, λ i. ((p.empty ∙ sym q.empty) i, (p.text ∙ sym q.text) i))

-- A whole program over a capture, for every runtime and every program that knows a telling. What the program itself remembers is left open.
module _ (P T1 T2 : RattleType) (L0 : Laws P) (L1 : Laws T1) (L2 : Laws T2) (G0 : Teller.Ghosts P.Denot) (d0 : Dict) (G1 : Input.Ghosts T1.Denot T2.Denot) (d1 : Dict)
    (G2 : BufRead.Ghosts T2.Denot) (d2 : Dict) (G3 : Read.Ghosts T2.Denot) (d3 : Dict) (G4 : Print.Ghosts T1.Denot) (d4 : Dict) (G5 : Eprint.Ghosts T1.Denot) (d5 d6 : Dict) where
  -- by something that the program tells by at its start, at each turn the same bytes arrived and the system said the same: both runs end in the
  -- same state, but for the place of what is unread, with the same bytes unread and the same text
  pub run_program : SettledIf (Turns.run_program.Reads.Learnt P T1 T2 L0 L1 L2 G0 d0 G1 d1 G2 d2 G3 d3 G4 d4 G5 d5 d6)
      (λ k a r s e f p q.
      let start = beginning a.1.1.0.now a.1.1.1.0.now in
      (T : Telling) × (known : G0.knows T a.1.0.now []) × SameSystem T [] [] start start (p T known).2.0 (q T known).2.0 (p T known).2.1 (q T known).2.1)
      (λ k r s e f.
      (unread_in e.1.1.0.now r.unread ≡ unread_in f.1.1.0.now s.unread)
      × (r.unread.heard ≡ s.unread.heard)
      × (r.wrote ≡ s.wrote)
      × (r.going ≡ s.going)
      × (seen e.1.1.1.0.now ≡ seen f.1.1.1.0.now))
  run_program k a r s e f p q (T, known, same) =
      let alike = ran_once T _ a.1.1.1.0.now _ _ _ _ _ _ (p T known) (q T known) same in
      (alike.unread, alike.heard, alike.wrote, alike.going, λ i. (alike.place i, alike.text i))

-- a line on standard error: nothing is answered
module _ (T : RattleType) (L : Laws T) (G : Eprint.Ghosts T.Denot) (d : Dict) where
  pub tell_failure : Settled (StandardIo.tell_failure.Reads.Learnt T L G d)
  tell_failure k a r s e f p q = λ i. r
