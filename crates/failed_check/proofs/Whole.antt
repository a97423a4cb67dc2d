-- What is told is the first check that fails, and the readers answer the same. Said of any list of checks, and then of each reader's. Assumes nothing.
use Prim.Native.Nat.{ℕ}
use mathlib.Core.Path.{◌≡◌, refl, sym, ap, ◌∙◌}
use mathlib.Core.List.{List, [], ◌∷◌, ◌++◌}
use mathlib.Core.Bool.{Bool, true, false}
use native.Mathlib.Omega.{arith}
use Rattle.refusal.specs.declared.Refusal.{Refusal}
use Rattle.refusal.specs.Check.{Check, outcome, pick, reading, ◌=?◌}
use Rattle.refusal.proofs.Tests.{Fails, decide, choice}
use Rattle.refusal.proofs.Laws.{All}
use Rattle.pdu.specs.Head.{vector_of}
use Rattle.pdu.specs.declared.VectorLength.TheVariants.{Four}
use Rattle.pdu.specs.declared.Edition.{Edition}
use Rattle.pdu.specs.declared.Edition.TheVariants.{E2018, E2009}
use Rattle.packet.specs.Packet.{root_vector, framing_part, packet_checks, record_of, data_record, extended_record, synchronization_record, discovery_record, packet_of, reading_of}
use Rattle.packet.specs.declared.Packet.{Packet}
use Rattle.packet.specs.declared.Packet.TheVariants as packet
use Rattle.packet.proofs.Whole.{read}
use Rattle.edition2009.specs.Packet.{packet_checks2009, data_record2009, packet2009_of, reading2009_of}
use Rattle.edition2009.specs.declared.Packet2009.{Packet2009}
use Rattle.edition2009.specs.declared.Packet2009.TheVariants as packet2009
use Rattle.edition2009.proofs.Editions.{read_2009}
use Rattle.failed_check.specs.Tell.{fault, told_by, checks_of, told_of}
use Rattle.failed_check.specs.declared.Fault.{Fault}
use Rattle.std.specs.Prelude.{Option}
use Rattle.std.specs.Prelude.{None, Some}
use Rattle.failed_check.proofs.Laws.{not_readable, skip_told, here_told, all_readable}

-- a list is cut at the check that is told: those before it hold, it fails, and what is told is what stands on its line
pub record FirstFailing (cs : List Check) (f : Fault) : Type 0 where
  pub before : List Check
  pub here : Check
  pub after : List Check
  pub cut : cs ≡ before ++ (here ∷ after)
  pub hold : All before
  pub fails : Fails here.test
  pub told : f ≡ fault here.otherwise here.identity

same_fault : (f g : Fault) → Some f ≡ Some g → f ≡ g
same_fault f g e = cc

-- Of any list.
pub first_failing : (cs : List Check) (f : Fault) → told_by cs ≡ Some f → FirstFailing cs f
unfolding told_by
first_failing [] f e = absurd (not_readable f e)
first_failing (c ∷ cs) f e =
    decide c.test
    (λ h.
    let rest = first_failing cs f (sym (skip_told c cs h) ∙ e) in
    record {
      before = c ∷ rest.before;
      here = rest.here;
      after = rest.after;
      cut = ap (λ (l : List Check). c ∷ l) rest.cut;
      hold = (h, rest.hold);
      fails = rest.fails;
      told = rest.told;
    })
    (λ h.
    record {
      before = [];
      here = c;
      after = cs;
      cut = refl;
      hold = tt;
      fails = h;
      told = same_fault f (fault c.otherwise c.identity) (sym e ∙ here_told c cs h);
    })

cut_told : (before : List Check) (here : Check) (after : List Check) → All before → Fails here.test →
    told_by (before ++ (here ∷ after)) ≡ Some (fault here.otherwise here.identity)
cut_told [] c after hold fails = here_told c after fails
cut_told (b ∷ bs) c after hold fails = skip_told b (bs ++ (c ∷ after)) hold.0 ∙ cut_told bs c after hold.1 fails

pub failing_first : (cs : List Check) (f : Fault) → FirstFailing cs f → told_by cs ≡ Some f
failing_first cs f x =
    ap told_by x.cut ∙ cut_told x.before x.here x.after x.hold x.fails ∙ ap Some (sym x.told)

pub readable_all : (cs : List Check) → told_by cs ≡ None → All cs
unfolding told_by
readable_all [] e = tt
readable_all (c ∷ cs) e =
    decide c.test (λ h. (h, readable_all cs (sym (skip_told c cs h) ∙ e)))
    (λ h. absurd (not_readable _ (sym e ∙ here_told c cs h)))

-- what a reader answers, by what is told: the record, or the refusal
abbrev pub answer : {A : Type 0} → (Refusal → A) → A → Option Fault → A
answer refused next None = next
answer refused next (Some f) = refused f.refusal

pub answers : {A : Type 0} (refused : Refusal → A) (cs : List Check) (next : A) → reading refused cs next ≡ answer refused next (told_by cs)
unfolding reading told_by
answers refused [] next = refl
answers {A} refused (c ∷ cs) next = by (outcome c.test) (answers refused cs next)
  where
    by : (o : Bool) → reading refused cs next ≡ answer refused next (told_by cs) →
        pick o (reading refused cs next) (refused c.otherwise) ≡ answer refused next (pick o (told_by cs) (Some (fault c.otherwise c.identity)))
    by true e = e
    by false e = refl

-- Of both readers. The told check fails, and every check before it in the reader's list holds; and only such a one is told.
module _ (edition : Edition) (d : List ℕ) where
  pub told_fails : (f : Fault) → told_of edition d ≡ Some f → FirstFailing (checks_of edition d) f
  unfolding told_of
  told_fails f e = first_failing (checks_of edition d) f e

  pub failing_told : (f : Fault) → FirstFailing (checks_of edition d) f → told_of edition d ≡ Some f
  unfolding told_of
  failing_told f x = failing_first (checks_of edition d) f x

  pub readable_holds : told_of edition d ≡ None → All (checks_of edition d)
  unfolding told_of
  readable_holds e = readable_all (checks_of edition d) e

  pub holding_readable : All (checks_of edition d) → told_of edition d ≡ None
  unfolding told_of
  holding_readable h = all_readable (checks_of edition d) h

-- The present reader answers the told refusal, number, place and value, where one is told, and else the record.
pub present_answers : (d : List ℕ) → (reading_of d).packet ≡ answer packet.Refused (record_of d) (told_of E2018 d)
unfolding packet_of told_of
present_answers d = read d ∙ answers packet.Refused (packet_checks d) (record_of d)

-- So does the 2009 reader.
pub answers_2009 : (d : List ℕ) → (reading2009_of d).packet ≡ answer packet2009.Refused (packet2009.Data (data_record2009 (framing_part d))) (told_of E2009 d)
unfolding packet2009_of told_of
answers_2009 d = read_2009 d ∙ answers packet2009.Refused (packet_checks2009 d) (packet2009.Data (data_record2009 (framing_part d)))

-- A record is no refusal, so a datagram is told to be readable where the reader reads it, and nowhere else.
abbrev Reads : Packet → Type 0
Reads p = (r : Refusal) → p ≡ packet.Refused r → ⊥

a_record : (d : List ℕ) → Reads (record_of d)
a_record d =
    let p = framing_part d in
    choice Reads (root_vector d =? 4) (packet.Data (data_record p)) (extended_record p)
    (λ h r e. let z : ◌≡◌ {A = ℕ} 0 1 = cc in omega arith)
    (λ f. choice Reads (vector_of Four p =? 1) (packet.Synchronization (synchronization_record p)) (packet.Discovery (discovery_record p))
    (λ h r e. let z : ◌≡◌ {A = ℕ} 0 1 = cc in omega arith)
    (λ h r e. let z : ◌≡◌ {A = ℕ} 0 1 = cc in omega arith))

same_told : {A : Type 0} (refused : Refusal → A) (next : A) (t : Option Fault) → ((f : Fault) → refused f.refusal ≡ answer refused next t → ⊥) → t ≡ None
same_told refused next None none = refl
same_told refused next (Some f) none = absurd (none f refl)

pub readable_read : (d : List ℕ) → told_of E2018 d ≡ None → Reads (reading_of d).packet
readable_read d e r x = a_record d r (sym (ap (answer packet.Refused (record_of d)) e) ∙ sym (present_answers d) ∙ x)

pub read_readable : (d : List ℕ) → Reads (reading_of d).packet → told_of E2018 d ≡ None
read_readable d reads =
    same_told packet.Refused (record_of d) (told_of E2018 d) (λ f e. reads f.refusal (present_answers d ∙ sym e))

abbrev Reads2009 : Packet2009 → Type 0
Reads2009 p = (r : Refusal) → p ≡ packet2009.Refused r → ⊥

pub readable_read_2009 : (d : List ℕ) → told_of E2009 d ≡ None → Reads2009 (reading2009_of d).packet
readable_read_2009 d e r x =
    let next = packet2009.Data (data_record2009 (framing_part d)) in
    let same : next ≡ packet2009.Refused r = sym (ap (answer packet2009.Refused next) e) ∙ sym (answers_2009 d) ∙ x in
    let z : ◌≡◌ {A = ℕ} 0 1 = cc in omega arith

pub read_readable_2009 : (d : List ℕ) → Reads2009 (reading2009_of d).packet → told_of E2009 d ≡ None
read_readable_2009 d reads =
    same_told packet2009.Refused (packet2009.Data (data_record2009 (framing_part d))) (told_of E2009 d) (λ f e. reads f.refusal (answers_2009 d ∙ sym e))
