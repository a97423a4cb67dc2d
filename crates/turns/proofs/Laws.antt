-- A turn, from what the calls of it say. Assumes nothing.
use Rattle.std.proofs.Common.{ℕ, ◌+◌, ◌≤◌, ◌<◌, ◌≡◌, refl, sym, ap, ◌∙◌, List, [], ◌∷◌, ◌++◌, true, length, take, drop, length-append, length-drop, Result, Ok, Err, MutBor, arith}
use Rattle.std.proofs.Math.Seq.{length-take-le}
use Rattle.refusal.proofs.Tests.{never}
use Rattle.wire.specs.Fields.{part_of}
use Rattle.capture.specs.Entry.{front_of}
use Rattle.capture.specs.declared.Entry.{Entry}
use Rattle.capture.specs.declared.Ending.{Ending}
use Rattle.capture.proofs.Laws.{entry_within}
use Rattle.text.specs.Put.{Put}
use Rattle.text.specs.declared.Text.{Text}
use Rattle.text.proofs.Puts.{put_long, put_then}
use Rattle.line.specs.Lines.{last_line}
use Rattle.line.proofs.Fits.{last_fits}
use Rattle.standard_io.specs.System.{counted}
use Rattle.standard_io.specs.declared.Heard.{Heard}
use Rattle.standard_io.specs.declared.Wrote.{Wrote}
use Rattle.capture_input.specs.Entries.{unread_in, waits_at}
use Rattle.capture_input.specs.declared.Stop.{Stop}
use Rattle.capture_input.specs.declared.Stop.TheVariants.{Ended, Failed}
use Rattle.capture_input.specs.declared.Unread.{Unread}
use Rattle.capture_input.proofs.Laws.{put_part}
use Rattle.turns.specs.declared.State.{State}
use Rattle.turns.specs.Run.{grown}
use Rattle.turns.specs.Teller.{LineTold, EndTold, Leads, TurnTold}
use Rattle.turns.specs.Turn.{over, end_of, TakenFrom, WentOn, Finished, Telling, LinePut, LastPut}

line_put : (line : List ℕ) (before put after : Text) (state went : State) → length line ≤ 40000 → Put before put line →
    WentOn put after state went → LinePut line before after state.wrote went
line_put line before between after state went short put on =
    let long = put_long put in
    record {
      short = short;
      text = ap (λ (b : MutBor (List ℕ)). b.now) on.text ∙ put.written;
      place = on.place ∙ rw (long, put.place);
      handed = on.handed ∙ rw (long, put.place);
      kept = λ h. on.kept (rw (long, put.place) h);
      goes = on.goes;
    }

-- A turn that takes an entry d of m bytes and puts its text.
pub entry_leads : (T : Telling) (past : List (List ℕ)) (state found went : State) (next : Result ℕ Stop) (m : ℕ) (block block' entry entry' d : List ℕ) (before between after : Text) →
    length entry ≡ 8192 → TakenFrom block block' entry entry' state next found → next ≡ Ok m → d ≡ part_of entry' 0 m →
    Put before between (T.line past d) → (length d ≤ 8192 → length (T.line past d) ≤ 40000) → WentOn between after found went →
    Leads T past state block block' before after went (past ++ (d ∷ []))
entry_leads T past state found went next m block block' entry entry' d before between after room (t, wrote, going) e part put fits on =
    let took = rw e at t in
    let arrived = took.0 in
    let whole = unread_in block state.unread ++ arrived in
    let k = took.1.0 in
    let w = entry_within whole k m took.1.1 in
    let x = take m (drop k whole) in
    let size : length x ≡ m = length-take-le m (drop k whole) (omega (arith, w.inside, length-drop k whole)) in
    let same : d ≡ x = part ∙ ap (λ (l : List ℕ). part_of l 0 m) took.1.2 ∙ put_part entry x m size (omega (arith, w.small)) in
    let short : length (T.line past d) ≤ 40000 = fits (omega (arith, ap length same, size, w.small)) in
    let line : LinePut (T.line past d) before after state.wrote went =
    rw wrote at (line_put (T.line past d) before between after found went short put on) in
    let left : unread_in block' went.unread ≡ drop (k + m) whole = ap (unread_in block') on.unread ∙ took.1.3 in
    let total = ap (λ (u : Unread). u.heard.total) on.unread in
    let said = ap (λ (u : Unread). u.heard.said) on.unread in (
      (arrived, Ok m, (k, took.1.1, left, rw (← same) line), total ∙ took.4, λ h. ((took.5 h).0, said ∙ (took.5 h).1)),
      ap (grown past whole) took.1.1 ∙ ap (λ (y : List ℕ). past ++ (y ∷ [])) (sym same),
    )

-- what is put where no entry comes next: the last text, and none where a read failed
abbrev pub Last : Telling → List (List ℕ) → Stop → Text → Text → Wrote → State → Type 0
Last T past (Ended e) before after was went = LastPut (T.last past e) before after was went
Last T past Failed before after was went = LastPut [] before after was went

-- no entry is behind a turn that finds none
waiting_later : (past : List (List ℕ)) (s : List ℕ) (x : Result Entry Ending) → waits_at x ≡ true → grown past s x ≡ past
waiting_later past s (Ok x) h = never h
waiting_later past s (Err e) h = refl

-- A turn that finds no entry.
pub last_leads : (T : Telling) (past : List (List ℕ)) (state found went : State) (next : Result ℕ Stop) (stop : Stop) (block block' entry entry' : List ℕ) (before after : Text) →
    TakenFrom block block' entry entry' state next found → next ≡ Err stop → went.unread.heard ≡ found.unread.heard → Last T past stop before after state.wrote went →
    Leads T past state block block' before after went past
last_leads T past state found went next (Ended x) block block' entry entry' before after t e heard last =
    let took = rw e at t.0 in
    let said = ap (λ (h : Heard). h.said) heard in
    let whole = unread_in block state.unread ++ took.0 in (
      (took.0, Err (Ended x), (took.1.0, rw said took.3, last), ap (λ (h : Heard). h.total) heard ∙ took.4, λ h. ((took.5 h).0, said ∙ (took.5 h).1)),
      ap (grown past whole) took.1.0,
    )
last_leads T past state found went next Failed block block' entry entry' before after t e heard last =
    let took = rw e at t.0 in
    let said = ap (λ (h : Heard). h.said) heard in
    let whole = unread_in block state.unread ++ took.0 in (
      (took.0, Err Failed, (took.1.0, rw said took.3, last), ap (λ (h : Heard). h.total) heard ∙ took.4, λ h. ((took.5 h).0, said ∙ (took.5 h).1)),
      waiting_later past whole (front_of whole) took.1.0,
    )

-- the last line behind a text of the program's own
pub last_behind : (front : List ℕ) (n : ℕ) (e : Ending) (before between after : Text) (state went : State) → n < 0x1_0000_0000_0000_0000 →
    length front ≤ 30000 → Put before between front → Finished between after (Err (Ended e)) n state went →
    LastPut (front ++ last_line e n) before after state.wrote went
last_behind front n e before between after state went few short put done =
    let full = record after { len = end_of between (last_line e n) } in
    let line : Put between full (last_line e n) = record { written = done.text; place = refl; same_buffer = done.same_buffer } in
    let all = put_then put line in
    let heard : went.unread.heard ≡ state.unread.heard = ap (λ (x : State). x.unread.heard) done.done in
    record {
      short = omega (arith, short, last_fits e n few, length-append front (last_line e n));
      text = all.written;
      empty = done.empty;
      handed = done.handed ∙ ap (counted state.wrote.total) all.place;
      done = done.done ∙ ap (λ (h : Heard). over h went.wrote) (sym heard);
    }

-- A turn of a program, from what its calls say: it takes an entry, or finds how the capture ends, or a read failed.
module _ {M : Type 0} (knows : Telling → M → List (List ℕ) → Type 0) (n : ℕ) (state found went : State) (next : Result ℕ Stop) (block block' entry entry' : List ℕ) (taken : TakenFrom block block' entry entry' state next found) where
  pub entry_told : (m m' : M) (k : ℕ) (d : List ℕ) (before between after : Text) → length entry ≡ 8192 → next ≡ Ok k → d ≡ part_of entry' 0 k →
      LineTold knows m m' before between (n + 1) d → WentOn between after found went → TurnTold knows m m' n state went block block' before after
  entry_told m m' k d before between after room e part told on = λ T past is many.
      let line = told T past is (ap (λ (i : ℕ). i + 1) many) in
      (past ++ (d ∷ []), entry_leads T past state found went next k block block' entry entry' d before between after room taken e part line.0 line.1 on, line.2)

  pub end_told : (m : M) (stop : Stop) (x : Ending) (before between after : Text) → n < 0x1_0000_0000_0000_0000 → next ≡ Err stop → stop ≡ Ended x →
      EndTold knows m before between → Finished between after next n found went → TurnTold knows m m n state went block block' before after
  end_told m stop x before between after few found_none ends told finished = λ T past is many.
      let e : next ≡ Err (Ended x) = found_none ∙ ap Err ends in
      let (front, put, short, text) = told T past is in
      let done = rw e at finished in
      let last = last_behind front n x before between after found went few short put done in
      let heard : went.unread.heard ≡ found.unread.heard = ap (λ (y : State). y.unread.heard) done.done in
      (past, last_leads T past state found went next (Ended x) block block' entry entry' before after taken e heard (rw (text x, many, ← taken.1) last), is)

  pub failure_told : (m : M) (stop : Stop) (before after : Text) → next ≡ Err stop → stop ≡ Failed → Finished before after next n found went → TurnTold knows m m n state went block block' before after
  failure_told m stop before after found_none failed finished = λ T past is many.
      let e : next ≡ Err Failed = found_none ∙ ap Err failed in
      let done = rw e at finished in
      let heard : went.unread.heard ≡ found.unread.heard = ap (λ (y : State). y.unread.heard) done.done in
      let over_then : went ≡ over went.unread.heard went.wrote = done.done ∙ ap (λ (h : Heard). over h went.wrote) (sym heard) in
      let last : LastPut [] before after state.wrote went =
      record { short = omega arith; text = done.text; empty = done.empty; handed = rw taken.1 at done.handed; done = over_then } in
      (past, last_leads T past state found went next Failed block block' entry entry' before after taken e heard last, is)
