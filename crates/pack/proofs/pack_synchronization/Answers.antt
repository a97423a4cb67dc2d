use Rattle.std.proofs.Common.{◌≡◌, ◌≤◌, length, refl, ap, Err, ◌∙◌, arith, rules}
use Rattle.refusal.proofs.Laws.{stop, pass}
use Rattle.wire.proofs.Laws.{sets_front}
use Rattle.pack.specs.Writing.{synchronization_bytes, packed_of}
use Rattle.pack.proofs.Writing.{synchronization_long}
use Rattle.pack.proofs.pack_synchronization.Goals as goal

pub returns-then-buf-lt-SYNCHRONIZATION_LENGTH : goal.returns-then-buf-lt-SYNCHRONIZATION_LENGTH
unfolding packed_of
returns-then-buf-lt-SYNCHRONIZATION_LENGTH c = record { answer = stop 0 _ _ _ (omega arith) (ap Err c.new.ensures); bytes = cc }

pub returns : goal.returns
unfolding packed_of
returns c = let a = c.args in
    let l = a.buf.now in
    let m : length a.cid ≡ 16 = search rules in
    let h : 49 ≤ length l = omega arith in
    record { answer = pass _ _ _ (omega arith) refl; bytes = c.put_synchronization.ensures ∙ sets_front (synchronization_bytes a.cid a.fields) l 49 (synchronization_long a.cid m a.fields) h }
