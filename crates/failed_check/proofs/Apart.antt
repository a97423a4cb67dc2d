-- No two checks of a reader's list are told alike. Assumes nothing.
use Prim.Native.Nat.{ℕ, ◌+◌, ◌<◌}
use mathlib.Core.Path.{◌≡◌, refl, ap}
use mathlib.Core.Bool.{Bool, true, false}
use mathlib.Core.List.{List, [], ◌∷◌, ◌++◌}
use native.Mathlib.Omega.{arith}
use lib.ListN.{length}
use Rattle.refusal.specs.Check.{Test, Check, check, refusal, outcome, pick, framing, discovery, universe_list, ◌≤?◌, ◌=?◌, ◌≠?◌, ◌or◌}
use Rattle.refusal.specs.declared.Identity.{Identity}
use Rattle.refusal.specs.declared.Reason.{Reason}
use Rattle.refusal.specs.declared.Reason.TheVariants as why
use Rattle.refusal.specs.declared.Start.{Start}
use Rattle.refusal.specs.declared.Start.TheVariants as start_in
use Rattle.refusal.specs.declared.Value.{Value}
use Rattle.refusal.specs.declared.Value.TheVariants as value_in
use Rattle.refusal.specs.declared.VectorIn.{VectorIn}
use Rattle.refusal.specs.declared.VectorIn.TheVariants as vector-in
use Rattle.refusal.specs.declared.LengthIn.{LengthIn}
use Rattle.refusal.specs.declared.LengthIn.TheVariants as length-in
use Rattle.refusal.specs.declared.AddressIn.{AddressIn}
use Rattle.refusal.specs.declared.AddressIn.TheVariants as address-in
use Rattle.refusal.specs.declared.Field.{Field}
use Rattle.refusal.specs.declared.Field.TheVariants as field_of
use Rattle.refusal.specs.declared.Room.{Room}
use Rattle.refusal.specs.declared.Room.TheVariants as room_in
use Rattle.refusal.proofs.Tests.{Holds, Fact, fact, choice, never}
use Rattle.name.specs.Name.{name_field, source_name_checks}
use Rattle.pdu.specs.Head.{head_checks, length_of, vector_of}
use Rattle.pdu.specs.declared.VectorLength.TheVariants.{Four}
use Rattle.pdu.specs.declared.Edition.{Edition}
use Rattle.pdu.specs.declared.Edition.TheVariants.{E2018, E2009}
use Rattle.discovery.specs.Layer as discoveryLayer
use Rattle.discovery.specs.Layer.{list_part, count_in}
use Rattle.discovery.specs.Universes.{universes, pairs, pairs_from, ascends, told_from, list_checks}
use Rattle.framing.specs.Data.{data_checks}
use Rattle.extended.specs.Synchronization.{synchronization_checks}
use Rattle.extended.specs.UniverseDiscovery as discoveryFraming
use Rattle.extended.specs.UniverseDiscovery.{discovery_part, discovery_framing_checks}
use Rattle.extended.specs.Extended.{kind_checks, extended_checks}
use Rattle.root.specs.Root.{root_part}
use Rattle.packet.specs.Packet.{root_vector, framing_part}
use Rattle.failed_check.specs.Tell.{checks_of, outer_checks}

-- none of a list is told as this one; no two of a list are
abbrev pub None : Check → List Check → Type 0
None c [] = Unit {0}
None c (e ∷ es) = (c.identity ≡ e.identity → ⊥) × None c es

abbrev pub NoTwo : List Check → Type 0
NoTwo [] = Unit {0}
NoTwo (c ∷ cs) = None c cs × NoTwo cs

-- A number for each reason, so that it is computed that two differ.
abbrev start_code : Start → ℕ
start_code start_in.Preamble = 0
start_code start_in.Layer = 1
start_code start_in.Universes = 2

abbrev value_code : Value → ℕ
value_code value_in.PreambleSize = 0
value_code value_in.PostambleSize = 1
value_code value_in.Identifier = 2
value_code value_in.AddressType = 3
value_code value_in.FirstAddress = 4
value_code value_in.Increment = 5
value_code value_in.Count = 6

abbrev vector_code : VectorIn → ℕ
vector_code vector-in.Root = 0
vector_code vector-in.Root2009 = 1
vector_code vector-in.Data = 2
vector_code vector-in.Extended = 3
vector_code vector-in.Dmp = 4
vector_code vector-in.Discovery = 5

abbrev length_code : LengthIn → ℕ
length_code length-in.Synchronization = 0
length_code length-in.DiscoveryFraming = 1
length_code length-in.Discovery = 2

abbrev address_code : AddressIn → ℕ
address_code address-in.Data = 0
address_code address-in.Synchronization = 1

abbrev field_code : Field → ℕ
field_code field_of.Cid = 0
field_code field_of.Name = 1
field_code field_of.Priority = 2
field_code field_of.SyncAddress = 3
field_code field_of.SequenceNumber = 4
field_code field_of.Options = 5
field_code field_of.Universe = 6
field_code field_of.DmpLayer = 7
field_code field_of.AddressType = 8
field_code field_of.FirstAddress = 9
field_code field_of.Increment = 10
field_code field_of.Count = 11

abbrev room_code : Room → ℕ
room_code room_in.Part = 0
room_code room_in.Root = 1

abbrev code : Reason → ℕ
code (why.TooShort x) = 100 + start_code x
code (why.NotAllowed x) = 200 + value_code x
code why.Flags = 300
code (why.Vector x) = 400 + vector_code x
code (why.Length x) = 500 + length_code x
code why.NameNotEnded = 600
code why.NameNotUtf8 = 700
code why.Priority = 800
code (why.SyncAddress x) = 900 + address_code x
code why.Universe = 1000
code why.Page = 1100
code why.Order = 1200
code (why.Missing x) = 1300 + field_code x
code (why.Beyond x) = 1400 + room_code x
code why.CountDiffers = 1500
code why.LengthDiffers = 1600
code why.NoStartCode = 1700

abbrev differs : Check → Check → Test
differs c e = code c.identity.reason ≠? code e.identity.reason or c.identity.byte ≠? e.identity.byte

differ : (c e : Check) → Holds (differs c e) → c.identity ≡ e.identity → ⊥
differ c e h same =
    h (ap (λ (x : Identity). code x.reason) same) (ap (λ (x : Identity). x.byte) same)

-- of lists that are known whole
abbrev none : Check → List Check → Bool
none c [] = true
none c (e ∷ es) = pick (outcome (differs c e)) (none c es) false

abbrev distinct : List Check → Bool
distinct [] = true
distinct (c ∷ cs) = pick (none c cs) (distinct cs) false

none_known : (c : Check) (cs : List Check) → none c cs ≡ true → None c cs
none_known c [] e = tt
none_known c (x ∷ xs) e = by (outcome (differs c x)) (fact (differs c x)) (none_known c xs) e
  where
    by : (o : Bool) → Fact o (differs c x) → (none c xs ≡ true → None c xs) → pick o (none c xs) false ≡ true → None c (x ∷ xs)
    by true h rest e = (differ c x h, rest e)
    by false f rest e = never e

computed : (cs : List Check) → distinct cs ≡ true → NoTwo cs
computed [] e = tt
computed (c ∷ cs) e = by (none c cs) refl (computed cs) e
  where
    by : (o : Bool) → none c cs ≡ o → (distinct cs ≡ true → NoTwo cs) → pick o (distinct cs) false ≡ true → NoTwo (c ∷ cs)
    by true n rest e = (none_known c cs n, rest e)
    by false n rest e = never e

-- The universes' checks have a reason that no other has, and each a byte of its own.
abbrev orderless : List Check → Bool
orderless [] = true
orderless (c ∷ cs) = pick (outcome (code c.identity.reason ≠? code why.Order)) (orderless cs) false

not_order : (c : Check) (i u : ℕ) (us : List ℕ) → (code c.identity.reason ≡ code why.Order → ⊥) → None c (told_from i (pairs_from ascends u us))
not_order c i u [] other = tt
not_order c i u (v ∷ us) other = (λ same. other (ap (λ (x : Identity). code x.reason) same), not_order c (i + 2) v us other)

later : (c : Check) (i u : ℕ) (us : List ℕ) → c.identity.byte < 120 + i → None c (told_from i (pairs_from ascends u us))
later c i u [] h = tt
later c i u (v ∷ us) h =
    (λ same. let e : c.identity.byte ≡ 120 + i = ap (λ (x : Identity). x.byte) same in omega (arith, e, h), later c (i + 2) v us (omega (arith, h)))

rising : (i u : ℕ) (us : List ℕ) → NoTwo (told_from i (pairs_from ascends u us))
rising i u [] = tt
rising i u (v ∷ us) = (later (check (u + 1 ≤? v) (refusal 12 universe_list v) why.Order i) (i + 2) v us (omega arith), rising (i + 2) v us)

with_order : (cs : List Check) (i u : ℕ) (us : List ℕ) → NoTwo cs → orderless cs ≡ true → NoTwo (cs ++ told_from i (pairs_from ascends u us))
with_order [] i u us n e = rising i u us
with_order (c ∷ cs) i u us n e =
    by (outcome (code c.identity.reason ≠? code why.Order)) (fact (code c.identity.reason ≠? code why.Order)) (with_order cs i u us n.1) e
  where
    both : (ds es : List Check) → None c ds → None c es → None c (ds ++ es)
    both [] es a b = b
    both (d ∷ ds) es a b = (a.0, both ds es a.1 b)

    by : (o : Bool) → Fact o (code c.identity.reason ≠? code why.Order) →
        (orderless cs ≡ true → NoTwo (cs ++ told_from i (pairs_from ascends u us))) → pick o (orderless cs) false ≡ true →
        NoTwo ((c ∷ cs) ++ told_from i (pairs_from ascends u us))
    by true h rest e = (both cs (told_from i (pairs_from ascends u us)) n.0 (not_order c i u us h), rest e)
    by false h rest e = never e

with_pairs : (cs : List Check) (us : List ℕ) → NoTwo cs → orderless cs ≡ true → NoTwo (cs ++ told_from 2 (pairs ascends us))
with_pairs cs [] n e = with_order cs 2 0 [] n e
with_pairs cs (u ∷ us) n e = with_order cs 2 u us n e

abbrev first : List Check → List Check
first [] = []
first (c ∷ cs) = c ∷ []

-- Of a datagram whose root vector is not 4: a synchronization packet's checks are known whole, a discovery packet's before the order.
module _ (d : List ℕ) where
  abbrev p : List ℕ
  p = framing_part d

  abbrev q : List ℕ
  q = discovery_part p (length_of p)

  -- what all of them have before them
  abbrev started : List Check → List Check
  started cs = outer_checks E2018 d ++ (head_checks Four framing p ++ (kind_checks (length (root_part d)) (length_of p) (vector_of Four p) ++ cs))

  abbrev before_order : List Check
  before_order =
      started
      (discoveryFraming.start_checks p (length_of p)
      ++ (source_name_checks (name_field p)
      ++ (head_checks Four discovery q
      ++ (discoveryLayer.own_checks q (length_of q) (vector_of Four q) ++ first (list_checks (list_part q) (count_in (length_of q)))))))

  extended : NoTwo (outer_checks E2018 d ++ extended_checks (length (root_part d)) p)
  extended =
      choice (λ (cs : List Check). NoTwo (started cs)) (vector_of Four p =? 1) (synchronization_checks p (length_of p)) (discovery_framing_checks p (length_of p))
      (λ h. computed (started (synchronization_checks p (length_of p))) refl)
      (λ h. with_pairs before_order (universes (count_in (length_of q)) (list_part q)) (computed before_order refl) refl)

-- Of every datagram, for both readers.
pub no_two_alike : (edition : Edition) (d : List ℕ) → NoTwo (checks_of edition d)
no_two_alike E2009 d = computed (checks_of E2009 d) refl
no_two_alike E2018 d =
    choice (λ (cs : List Check). NoTwo (outer_checks E2018 d ++ cs)) (root_vector d =? 4) (data_checks E2018 (framing_part d))
    (extended_checks (length (root_part d)) (framing_part d))
    (λ h. computed (outer_checks E2018 d ++ data_checks E2018 (framing_part d)) refl) (λ h. extended d)
