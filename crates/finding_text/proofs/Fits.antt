-- How long the texts can be. Assumes nothing.
use Rattle.std.proofs.Common.{ℕ, ◌+◌, ◌≤◌, ◌<◌, List, [], ◌++◌, arith, length, length-append}
use Rattle.text.specs.Digits.{ascii, decimal}
use Rattle.text.proofs.Decimals.{digits}
use Rattle.failed_check.specs.declared.Fault.{Fault}
use Rattle.wrong_words.proofs.Fits.{layer_fits, wrong_fits}
use Rattle.wanted_words.proofs.Fits.{wanted_fits}
use Rattle.finding_text.specs.Numbers.{shown_of, found, limit}
use Rattle.finding_text.specs.Findings.{number_text, where_text, wrong_text}

pub number_fits : (words : List ℕ) (n : ℕ) → n < 0x1_0000_0000_0000_0000 → length (words ++ decimal n) ≤ length words + 20
number_fits words n h = omega (arith, length-append words (decimal n), digits n h)

pub where_fits : (byte place : ℕ) → byte < 0x1_0000_0000_0000_0000 → length (where_text byte place) ≤ 64
unfolding where_text
where_fits byte place h = simp length-append (omega (arith, digits byte h, layer_fits place))

pub wrong_text_fits : (d : List ℕ) (f : Fault) →
    length (number_text [] (shown_of (limit f.check.reason) d f)) ≤ 20 →
    length (number_text (ascii ", found ") (shown_of (found f.check.reason) d f)) ≤ 28 →
    length (wrong_text d f) ≤ 180
unfolding wrong_text
wrong_text_fits d f a b = simp length-append (omega (arith, wrong_fits f.check.reason, wanted_fits f.check.reason, a, b))
