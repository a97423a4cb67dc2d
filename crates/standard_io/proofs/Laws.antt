-- What an answer of the system says, and counts that go on. Assumes nothing.
use Rattle.std.proofs.Common.{◌≡◌, ℕ, ◌+◌, ◌<◌, ◌≤◌, Result, Ok, Err, List, length, refl, arith}
use Rattle.std.specs.Io.{ReadsAtMost}
use Rattle.refusal.specs.Check.{◌=?◌}
use Rattle.refusal.proofs.Tests.{chosen, passed_over, choice}
use Rattle.standard_io.specs.System.{counted, said_of, reached_by, Arrived}
use Rattle.standard_io.specs.declared.Said.{Said}
use Rattle.standard_io.specs.declared.Said.TheVariants.{Nothing, Bytes, End, Error}

-- a count goes on
pub counted_on : (a x y : ℕ) → counted (counted a x) y ≡ counted a (x + y)
counted_on a x y = omega arith

-- what a read says that moved no bytes, or some
pub ended_read : {E : Type 0} (answer : Result ℕ E) (count n : ℕ) → answer ≡ Ok count → count ≡ 0 → End ≡ said_of answer n
ended_read answer count n is none = rw is (chosen (count =? 0) End (Bytes (n + count)) none refl)

pub bytes_read : {E : Type 0} (answer : Result ℕ E) (count n : ℕ) → answer ≡ Ok count → (count ≡ 0 → ⊥) → Bytes (n + count) ≡ said_of answer n
bytes_read answer count n is some = rw is (passed_over (count =? 0) End (Bytes (n + count)) some refl)

-- bytes that lie in the block, behind its first n, or the end where it had room
pub arrived : {E : Type 0} (answer : Result ℕ E) (n room : ℕ) (buf : List ℕ) → ReadsAtMost answer buf → n + length buf ≤ room → n < room → Arrived n room (said_of answer n)
arrived (Ok count) n room buf h fits g =
    choice (Arrived n room) (count =? 0) End (Bytes (n + count)) (λ e. g) (λ e. (omega arith, omega arith))
arrived (Err e) n room buf h fits g = tt

-- a read brings no fewer bytes than were there
pub no_fewer : (said : Said) (n room : ℕ) → Arrived n room said → n ≤ reached_by said n
no_fewer Nothing n room h = absurd h
no_fewer (Bytes m) n room h = omega arith
no_fewer End n room h = omega arith
no_fewer Error n room h = omega arith
