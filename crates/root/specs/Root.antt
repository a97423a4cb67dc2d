-- The preamble and the root layer, in both editions.
use Rattle.std.specs.Prelude.{ℕ, List, [], ◌∷◌, ◌++◌, length, drop, Result, Ok, Err}
use Rattle.wire.specs.Fields.{u16_at, u32_at}
use Rattle.refusal.specs.Check.{Check, check, refusal, preamble, root, fits, ◌≤?◌, ◌=?◌, ◌and◌, ◌or◌, reading}
use Rattle.refusal.specs.declared.Refusal.{Refusal}
use Rattle.refusal.specs.declared.Reason.TheVariants as why
use Rattle.refusal.specs.declared.Field.TheVariants as field_of
use Rattle.refusal.specs.declared.Start.TheVariants as start_in
use Rattle.refusal.specs.declared.Value.TheVariants as value_in
use Rattle.refusal.specs.declared.VectorIn.TheVariants as vector-in
use Rattle.pdu.specs.Head.{head_checks, length_of, vector_of}
use Rattle.pdu.specs.declared.VectorLength.TheVariants.{Four}
use Rattle.pdu.specs.declared.Edition.{Edition}
use Rattle.pdu.specs.declared.Edition.TheVariants.{E2018, E2009}
use Rattle.root.specs.declared.RootLayer.{RootLayer}

-- 1 if below 16 bytes; 2 for preamble size, postamble, identifier in turn. The identifier is 41 53 43 2d 45 31 2e 31 37 00 00 00.
abbrev pub preamble_checks : List ℕ → List Check
preamble_checks d =
    check (16 ≤? length d) (refusal 1 preamble 0) (why.TooShort start_in.Preamble) 0
    ∷ check (u16_at d 0 =? 0x0010) (refusal 2 preamble 0) (why.NotAllowed value_in.PreambleSize) 0
    ∷ check (u16_at d 2 =? 0) (refusal 2 preamble 0) (why.NotAllowed value_in.PostambleSize) 2
    ∷ check (u32_at d 4 =? 0x4153432d and u32_at d 8 =? 0x45312e31 and u32_at d 12 =? 0x37000000) (refusal 2 preamble 0) (why.NotAllowed value_in.Identifier) 4
    ∷ []

-- the root layer's part is all from byte 16
abbrev pub root_part : List ℕ → List ℕ
root_part d = drop 16 d

-- 4: the vector is 4 for data or 8 for extended; the 2009 edition refuses 8
abbrev pub vector_checks : Edition → ℕ → List Check
vector_checks E2018 vec = check (vec =? 4 or vec =? 8) (refusal 4 root vec) (why.Vector vector-in.Root) 2 ∷ []
vector_checks E2009 vec = check (vec =? 4) (refusal 4 root vec) (why.Vector vector-in.Root2009) 2 ∷ []

-- 14 if its length exceeds its part; 4; 13 if its length is below 22
abbrev pub length_checks : List ℕ → ℕ → List Check
length_checks p len = fits len root (length p) ∷ []

abbrev pub cid_checks : ℕ → List Check
cid_checks len = check (22 ≤? len) (refusal 13 root 0) (why.Missing field_of.Cid) 0 ∷ []

abbrev pub body_checks : Edition → List ℕ → ℕ → ℕ → List Check
body_checks edition p len vec = length_checks p len ++ (vector_checks edition vec ++ cid_checks len)

abbrev pub root_checks : Edition → List ℕ → List Check
root_checks edition p = head_checks Four root p ++ body_checks edition p (length_of p) (vector_of Four p)

abbrev pub found_in : List ℕ → RootLayer
found_in p = record { vector = vector_of Four p; end = length_of p }

unfoldable pub root_of : Edition → List ℕ → Result RootLayer Refusal
root_of edition d = reading Err (preamble_checks d ++ root_checks edition (root_part d)) (Ok (found_in (root_part d)))

-- the answer from a place of the list on: after the preamble, after the layer's start
unfoldable pub layer_of : Edition → List ℕ → Result RootLayer Refusal
layer_of edition p = reading Err (root_checks edition p) (Ok (found_in p))

unfoldable pub body_of : Edition → List ℕ → ℕ → ℕ → Result RootLayer Refusal
body_of edition p len vec = reading Err (body_checks edition p len vec) (Ok (record { vector = vec; end = len }))
