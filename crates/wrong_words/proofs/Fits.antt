-- How long the words can be. Assumes nothing.
use Rattle.std.proofs.Common.{ℕ, ◌≤◌, Bool, true, false, eqb, length, arith}
use Rattle.refusal.specs.Check.{pick}
use Rattle.refusal.specs.declared.Reason.{Reason}
use Rattle.refusal.specs.declared.Reason.TheVariants as why
use Rattle.text.specs.Digits.{ascii}
use Rattle.wrong_words.specs.Words.{layer_words, wrong_words}

pub wrong_fits : (r : Reason) → length (wrong_words r) ≤ 70
unfolding wrong_words
wrong_fits (why.TooShort x) = omega arith
wrong_fits (why.NotAllowed x) = omega arith
wrong_fits why.Flags = omega arith
wrong_fits (why.Vector x) = omega arith
wrong_fits (why.Length x) = omega arith
wrong_fits why.NameNotEnded = omega arith
wrong_fits why.NameNotUtf8 = omega arith
wrong_fits why.Priority = omega arith
wrong_fits (why.SyncAddress x) = omega arith
wrong_fits why.Universe = omega arith
wrong_fits why.Page = omega arith
wrong_fits why.Order = omega arith
wrong_fits (why.Missing x) = omega arith
wrong_fits (why.Beyond x) = omega arith
wrong_fits why.CountDiffers = omega arith
wrong_fits why.LengthDiffers = omega arith
wrong_fits why.NoStartCode = omega arith

pub layer_fits : (place : ℕ) → length (layer_words place) ≤ 15
unfolding layer_words
layer_fits place = by (eqb place 1) (eqb place 2) (eqb place 3) (eqb place 4) (eqb place 5)
  where
    by : (a b c d e : Bool) →
        length
        (pick a (ascii "preamble")
        (pick b (ascii "root layer")
        (pick c (ascii "framing layer") (pick d (ascii "DMP layer") (pick e (ascii "discovery layer") (ascii "universe list")))))) ≤ 15
    by true b c d e = omega arith
    by false true c d e = omega arith
    by false false true d e = omega arith
    by false false false true e = omega arith
    by false false false false true = omega arith
    by false false false false false = omega arith
