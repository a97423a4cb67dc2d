-- No two checks have the same words. Assumes nothing.
use Rattle.std.proofs.Common.{ℕ, ◌≡◌, refl, sym, ap, ◌∙◌, Bool, true, false, List, [], ◌∷◌, ◌++◌, eqb}
use Rattle.refusal.specs.Check.{pick}
use Rattle.refusal.specs.declared.Reason.{Reason}
use Rattle.refusal.specs.declared.Reason.TheVariants as why
use Rattle.refusal.specs.declared.Start.TheVariants as start_in
use Rattle.refusal.specs.declared.Value.TheVariants as value_in
use Rattle.refusal.specs.declared.VectorIn.TheVariants as vector-in
use Rattle.refusal.specs.declared.LengthIn.TheVariants as length-in
use Rattle.refusal.specs.declared.AddressIn.TheVariants as address-in
use Rattle.refusal.specs.declared.Field.TheVariants as field_of
use Rattle.refusal.specs.declared.Room.TheVariants as room_in
use Rattle.wrong_words.specs.Words.{wrong_words}
use Rattle.wanted_words.specs.Words.{start_words, value_words, vector_words, length_words, address_words, field_words, room_words, wanted_words}

-- the words of a check: what is wrong, and what was wanted
abbrev pub words : Reason → List ℕ
words r = wrong_words r ++ wanted_words r

abbrev same : List ℕ → List ℕ → Bool
same [] [] = true
same [] (y ∷ ys) = false
same (x ∷ xs) [] = false
same (x ∷ xs) (y ∷ ys) = pick (eqb x y) (same xs ys) false

-- the first of some reasons that has these words
reason_of : List Reason → List ℕ → Reason
reason_of [] text = why.Flags
reason_of (r ∷ rs) text = pick (same text (words r)) r (reason_of rs text)

every_reason : List Reason
every_reason =
    (why.TooShort start_in.Preamble)
    ∷ (why.TooShort start_in.Layer)
    ∷ (why.TooShort start_in.Universes)
    ∷ (why.NotAllowed value_in.PreambleSize)
    ∷ (why.NotAllowed value_in.PostambleSize)
    ∷ (why.NotAllowed value_in.Identifier)
    ∷ (why.NotAllowed value_in.AddressType)
    ∷ (why.NotAllowed value_in.FirstAddress)
    ∷ (why.NotAllowed value_in.Increment)
    ∷ (why.NotAllowed value_in.Count)
    ∷ why.Flags
    ∷ (why.Vector vector-in.Root)
    ∷ (why.Vector vector-in.Root2009)
    ∷ (why.Vector vector-in.Data)
    ∷ (why.Vector vector-in.Extended)
    ∷ (why.Vector vector-in.Dmp)
    ∷ (why.Vector vector-in.Discovery)
    ∷ (why.Length length-in.Synchronization)
    ∷ (why.Length length-in.DiscoveryFraming)
    ∷ (why.Length length-in.Discovery)
    ∷ why.NameNotEnded
    ∷ why.NameNotUtf8
    ∷ why.Priority
    ∷ (why.SyncAddress address-in.Data)
    ∷ (why.SyncAddress address-in.Synchronization)
    ∷ why.Universe
    ∷ why.Page
    ∷ why.Order
    ∷ (why.Missing field_of.Cid)
    ∷ (why.Missing field_of.Name)
    ∷ (why.Missing field_of.Priority)
    ∷ (why.Missing field_of.SyncAddress)
    ∷ (why.Missing field_of.SequenceNumber)
    ∷ (why.Missing field_of.Options)
    ∷ (why.Missing field_of.Universe)
    ∷ (why.Missing field_of.DmpLayer)
    ∷ (why.Missing field_of.AddressType)
    ∷ (why.Missing field_of.FirstAddress)
    ∷ (why.Missing field_of.Increment)
    ∷ (why.Missing field_of.Count)
    ∷ (why.Beyond room_in.Part)
    ∷ (why.Beyond room_in.Root)
    ∷ why.CountDiffers
    ∷ why.LengthDiffers
    ∷ why.NoStartCode
    ∷ []

-- a check is found by its words
found_again : (r : Reason) → reason_of every_reason (words r) ≡ r
unfolding reason_of every_reason wrong_words wanted_words start_words value_words vector_words length_words address_words field_words room_words
found_again (why.TooShort start_in.Preamble) = refl
found_again (why.TooShort start_in.Layer) = refl
found_again (why.TooShort start_in.Universes) = refl
found_again (why.NotAllowed value_in.PreambleSize) = refl
found_again (why.NotAllowed value_in.PostambleSize) = refl
found_again (why.NotAllowed value_in.Identifier) = refl
found_again (why.NotAllowed value_in.AddressType) = refl
found_again (why.NotAllowed value_in.FirstAddress) = refl
found_again (why.NotAllowed value_in.Increment) = refl
found_again (why.NotAllowed value_in.Count) = refl
found_again why.Flags = refl
found_again (why.Vector vector-in.Root) = refl
found_again (why.Vector vector-in.Root2009) = refl
found_again (why.Vector vector-in.Data) = refl
found_again (why.Vector vector-in.Extended) = refl
found_again (why.Vector vector-in.Dmp) = refl
found_again (why.Vector vector-in.Discovery) = refl
found_again (why.Length length-in.Synchronization) = refl
found_again (why.Length length-in.DiscoveryFraming) = refl
found_again (why.Length length-in.Discovery) = refl
found_again why.NameNotEnded = refl
found_again why.NameNotUtf8 = refl
found_again why.Priority = refl
found_again (why.SyncAddress address-in.Data) = refl
found_again (why.SyncAddress address-in.Synchronization) = refl
found_again why.Universe = refl
found_again why.Page = refl
found_again why.Order = refl
found_again (why.Missing field_of.Cid) = refl
found_again (why.Missing field_of.Name) = refl
found_again (why.Missing field_of.Priority) = refl
found_again (why.Missing field_of.SyncAddress) = refl
found_again (why.Missing field_of.SequenceNumber) = refl
found_again (why.Missing field_of.Options) = refl
found_again (why.Missing field_of.Universe) = refl
found_again (why.Missing field_of.DmpLayer) = refl
found_again (why.Missing field_of.AddressType) = refl
found_again (why.Missing field_of.FirstAddress) = refl
found_again (why.Missing field_of.Increment) = refl
found_again (why.Missing field_of.Count) = refl
found_again (why.Beyond room_in.Part) = refl
found_again (why.Beyond room_in.Root) = refl
found_again why.CountDiffers = refl
found_again why.LengthDiffers = refl
found_again why.NoStartCode = refl

pub words_apart : (r s : Reason) → words r ≡ words s → r ≡ s
words_apart r s e = sym (found_again r) ∙ ap (reason_of every_reason) e ∙ found_again s
