-- Demand 1 for the calls that read captures and put text: two results that satisfy a call's contract are equal, and so are two buffers at
-- exit. Assumes nothing.
use Rattle.std.proofs.Common.{ℕ, List, sym, ◌∙◌}
use Rattle.text.specs.Put.{Put}
use Rattle.text.specs.declared.Text.{Text as TextSoFar}
use Rattle.capture.proofs as Capture
use Rattle.text.proofs as Text
use Rattle.field_text.proofs as FieldText
use Rattle.line.proofs as Line
use Rattle.wrong_words.proofs as WrongWords
use Rattle.wanted_words.proofs as WantedWords
use Rattle.finding_text.proofs as FindingText
use Rattle.name_pattern.proofs as NamePattern
use Rattle.demands.proofs.Contracts.{Settled, settled, SettledAs, settled_as, SettledWith}

-- where a text ends, and its whole buffer
abbrev pub seen : TextSoFar → ℕ × List ℕ
seen t = (t.len, t.bytes.now)

-- a call that puts a text and answers nothing
module _ {K : Type 0} {A E : K → Type 0} {L : (k : K) → A k → Unit {0} → E k → Type 0} where
  pub settled_put : {before : (k : K) → A k → TextSoFar} {after : (k : K) → E k → TextSoFar} {text : (k : K) → A k → List ℕ} →
      ((k : K) (a : A k) (r : Unit {0}) (e : E k) → L k a r e → Put (before k a) (after k e) (text k a)) → SettledWith L (λ k e. seen (after k e))
  settled_put puts k a r s e f p q =
      let x = puts k a r e p in
      let y = puts k a s f q in
      (λ i. tt, λ i. ((x.place ∙ sym y.place) i, (x.written ∙ sym y.written) i))

-- capture
pub parse_length : Settled Capture.parse_length.Reads.Learnt
parse_length = settled (λ k a r e p. p)

pub parse_entry : Settled Capture.parse_entry.Reads.Learnt
parse_entry = settled (λ k a r e p. p)

-- text
pub new : SettledAs Text.Text.new.Reads.Learnt (λ k r e. seen r)
new = settled_as (λ k a r e p i. (p.0 i, p.1.0 i))

pub written : SettledAs Text.Text.written.Reads.Learnt (λ k r e. r.now)
written = settled_as (λ k a r e p. p)

pub clear : SettledWith Text.Text.clear.Reads.Learnt (λ k e. seen e.0.now)
clear k a r s e f p q = (λ i. tt, λ i. seen ((p ∙ sym q) i))

pub put : SettledWith Text.Text.put.Reads.Learnt (λ k e. seen e.0.now)
put = settled_put (λ k a r e p. p)

pub put_decimal : SettledWith Text.Text.put_decimal.Reads.Learnt (λ k e. seen e.0.now)
put_decimal = settled_put (λ k a r e p. p)

pub put_field : SettledWith Text.Text.put_field.Reads.Learnt (λ k e. seen e.0.now)
put_field = settled_put (λ k a r e p. p)

pub put_hex : SettledWith Text.Text.put_hex.Reads.Learnt (λ k e. seen e.0.now)
put_hex = settled_put (λ k a r e p. p)

-- fields
pub put_data_fields : SettledWith FieldText.put_data_fields.Reads.Learnt (λ k e. seen e.0.now)
put_data_fields = settled_put (λ k a r e p. p)

pub put_synchronization_fields : SettledWith FieldText.put_synchronization_fields.Reads.Learnt (λ k e. seen e.0.now)
put_synchronization_fields = settled_put (λ k a r e p. p)

pub put_page : SettledWith FieldText.put_page.Reads.Learnt (λ k e. seen e.0.now)
put_page = settled_put (λ k a r e p. p)

pub put_named : SettledWith FieldText.put_named.Reads.Learnt (λ k e. seen e.0.now)
put_named = settled_put (λ k a r e p. p)

pub put_refusal : SettledWith FieldText.put_refusal.Reads.Learnt (λ k e. seen e.0.now)
put_refusal = settled_put (λ k a r e p. p)

-- line
pub put_refused : SettledWith Line.put_refused.Reads.Learnt (λ k e. seen e.0.now)
put_refused = settled_put (λ k a r e p. p)

pub put_line : SettledWith Line.put_line.Reads.Learnt (λ k e. seen e.0.now)
put_line = settled_put (λ k a r e p. p)

pub put_last_line : SettledWith Line.put_last_line.Reads.Learnt (λ k e. seen e.0.now)
put_last_line = settled_put (λ k a r e p. p)

-- what a reader finds
pub put_layer : SettledWith WrongWords.put_layer.Reads.Learnt (λ k e. seen e.0.now)
put_layer = settled_put (λ k a r e p. p)

pub put_wrong : SettledWith WrongWords.put_wrong.Reads.Learnt (λ k e. seen e.0.now)
put_wrong = settled_put (λ k a r e p. p)

pub put_wanted : SettledWith WantedWords.put_wanted.Reads.Learnt (λ k e. seen e.0.now)
put_wanted = settled_put (λ k a r e p. p)

pub put_finding : SettledWith FindingText.put_finding.Reads.Learnt (λ k e. seen e.0.now)
put_finding = settled_put (λ k a r e p. p.0)

-- which names a pattern picks
pub check_pattern : Settled NamePattern.check_pattern.Reads.Learnt
check_pattern = settled (λ k a r e p. p)

pub picks : Settled NamePattern.picks.Reads.Learnt
picks = settled (λ k a r e p. p)
