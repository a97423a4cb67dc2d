-- What is wrong with a datagram, in words for people who have not read document 01: where, and a sentence for each number of a refusal. The Rust crate
-- has the same.
use Rattle.std.specs.Prelude.{ℕ, List, eqb}
use Rattle.refusal.specs.Check.{pick, preamble, root, framing, dmp, discovery}
use Rattle.refusal.specs.declared.Reason.{Reason}
use Rattle.refusal.specs.declared.Reason.TheVariants as why
use Rattle.text.specs.Digits.{ascii}

-- where: the layer's name
unfoldable pub layer_words : ℕ → List ℕ
layer_words place =
    pick (eqb place preamble) (ascii "preamble")
    (pick (eqb place root) (ascii "root layer")
    (pick (eqb place framing) (ascii "framing layer")
    (pick (eqb place dmp) (ascii "DMP layer") (pick (eqb place discovery) (ascii "discovery layer") (ascii "universe list")))))

-- what is wrong: a sentence for each number
unfoldable pub wrong_words : Reason → List ℕ
wrong_words (why.TooShort s) = ascii "there are too few bytes left for its start"
wrong_words (why.NotAllowed v) = ascii "a field has a value that is not allowed"
wrong_words why.Flags = ascii "the flags are not 0x70"
wrong_words (why.Vector v) = ascii "the vector is none of the layer's"
wrong_words (why.Length l) = ascii "the length is not allowed"
wrong_words why.NameNotEnded = ascii "the name has no zero behind it"
wrong_words why.NameNotUtf8 = ascii "the name is not UTF-8"
wrong_words why.Priority = ascii "the priority is above 200"
wrong_words (why.SyncAddress a) = ascii "the synchronization address is out of range"
wrong_words why.Universe = ascii "the universe is out of range"
wrong_words why.Page = ascii "the page is above the last page"
wrong_words why.Order = ascii "the universes are not strictly ascending"
wrong_words (why.Missing f) = ascii "the layer is too short for its fields"
wrong_words (why.Beyond r) = ascii "the length is beyond the bytes that are left for the layer"
wrong_words why.CountDiffers = ascii "the count is not the one that the length says"
wrong_words why.LengthDiffers = ascii "the length is not the number of bytes that are left for the layer"
wrong_words why.NoStartCode = ascii "the count is 0, so there is no start code"
