use Rattle.std.proofs.Common.{◌+◌, ◌*◌, ◌<◌, min, ◌≡◌, length, take, get_or, refl, ap, ◌∙◌, arith, take_all}
use Rattle.std.proofs.lemmas.Bool.{eqb-true, eqb-false}
use Rattle.std.proofs.Math.Seq.{length-sets}
use Rattle.std.proofs.lemmas.List.Edits.{sets}
use Rattle.text.specs.Digits.{hex_byte, hex_bytes, hex}
use Rattle.text.specs.declared.Text.{Text}
use Rattle.text.proofs.Hex.{hex_none, hex_some, hex_bytes_length, put_more}
use Rattle.text.proofs.Text.put_hex.Goals as goal

pub returns-then-is_empty : goal.returns-then-is_empty
returns-then-is_empty c = rw (hex_none c.args.s.now (eqb-true _ 0 cc)) c.put.ensures

pub loop-i-init : goal.loop-i-init
unfolding hex_bytes
loop-i-init c = refl

pub loop-i-preserved : goal.loop-i-preserved
loop-i-preserved c = let a = c.args in
    let now = c.loop-i.invariant in
    let place = c.saturating_add.result in
    let b = get_or a.s.now c.loop-i.i 0 in
    let put = c.put_hex_byte.ensures
    ∙ ap (λ (t : Text). sets t.bytes.now place (hex_byte b)) now
    ∙ put_more a.s.now a.self.now.bytes.now a.self.now.len c.loop-i.i place 0xffff_ffff_ffff_ffff (omega arith)
    (c.saturating_add.ensures ∙ ap (λ (t : Text). min (t.len + 2 * c.loop-i.i) 0xffff_ffff_ffff_ffff) now) (omega arith) in
    λ j. record {
      bytes = record { ref_ptr = (now j).bytes.ref_ptr; ghost_name = (now j).bytes.ghost_name; now = put j };
      len = (now j).len;
    }

pub returns : goal.returns
returns c = let a = c.args in
    let s = a.s.now in
    let now = c.loop-i.invariant in
    let some : 0 < length s = omega (arith, eqb-false (length s) 0 cc) in
    let all : take c.loop-i.i s ≡ s = take_all c.loop-i.i s (omega arith) in
    let long : length (hex s) ≡ 2 * length s = rw (hex_some s some) (hex_bytes_length s) in
    record {
      written = ap (λ (t : Text). t.bytes.now) now ∙ rw (all, hex_some s some) refl;
      place = c.place_behind-self.ensures
          ∙ ap (λ (t : Text). min (t.len + 2 * length s) (length t.bytes.now)) now
          ∙ rw (length-sets a.self.now.bytes.now a.self.now.len (hex_bytes (take c.loop-i.i s)), long) refl;
      same_buffer = ap (λ (t : Text). t.bytes.ghost_name) now;
    }
