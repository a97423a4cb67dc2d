-- What an accepted root layer says. Assumes nothing.
use Rattle.std.specs.Prelude.{ℕ, ◌+◌, ◌≤◌, Ok, Err}
use mathlib.Core.Path.{◌≡◌, ap}
use mathlib.Core.List.{List, ◌++◌}
use native.Mathlib.Omega.{arith}
use lib.ListN.{length, length-drop}
use Rattle.refusal.specs.Check.{root}
use Rattle.refusal.proofs.Laws.{All, read_as, all_front, all_back}
use Rattle.pdu.specs.Head.{head_checks, length_of, vector_of}
use Rattle.pdu.specs.declared.VectorLength.TheVariants.{Four}
use Rattle.pdu.specs.declared.Edition.{Edition}
use Rattle.root.specs.declared.RootLayer.{RootLayer}
use Rattle.root.specs.Root.{preamble_checks, root_part, vector_checks, length_checks, cid_checks, body_checks, root_checks, found_in, root_of}

-- the root layer lies in the datagram, and holds its CID
abbrev pub Within : List ℕ → ℕ → Type 0
Within d n = (16 ≤ length d) × (22 ≤ n) × (16 + n ≤ length d)

pub within : (edition : Edition) (d : List ℕ) → All (preamble_checks d ++ root_checks edition (root_part d)) → Within d (length_of (root_part d))
within edition d h =
    let p = root_part d in
    let len = length_of p in
    let vectors = vector_checks edition (vector_of Four p) in
    let pre = all_front (preamble_checks d) (root_checks edition p) h in
    let body = all_back (head_checks Four root p) (body_checks edition p len (vector_of Four p)) (all_back (preamble_checks d) (root_checks edition p) h) in
    let fits = all_front (length_checks p len) (vectors ++ cid_checks len) body in
    let cid = all_back vectors (cid_checks len) (all_back (length_checks p len) (vectors ++ cid_checks len) body) in
    omega (arith, length-drop 16 d)

pub root_within : (edition : Edition) (d : List ℕ) (l : RootLayer) → root_of edition d ≡ Ok l → Within d l.end
unfolding root_of
root_within edition d l e =
    let p = root_part d in
    let f = read_as (preamble_checks d ++ root_checks edition p) (found_in p) l e in
    let same : length_of p ≡ l.end = ap (λ (x : RootLayer). x.end) f.1 in
    omega (arith, same, within edition d f.0)
