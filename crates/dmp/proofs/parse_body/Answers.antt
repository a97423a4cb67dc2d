use Prim.Native.Nat.{ℕ}
use mathlib.Core.List.{List}
use mathlib.Core.Path.{◌≡◌, sym, ◌∙◌}
use native.Mathlib.Omega.{arith}
use Rattle.refusal.specs.Check.{reading}
use Rattle.refusal.proofs.Laws.{stop, pass, reading_++}
use Rattle.dmp.specs.Layer.{count_of, start_checks, count_checks, body_of, counted_of}
use Rattle.std.specs.Prelude.{Ok, Err}
use Rattle.dmp.proofs.parse_body.Goals as goal

by_count : (p : List ℕ) (len vec : ℕ) → body_of p len vec ≡ reading Err (start_checks p len vec) (counted_of p len)
unfolding body_of counted_of
by_count p len vec = reading_++ Err (start_checks p len vec) (count_checks p len) (Ok (count_of p))

pub returns-then-p-length : goal.returns-then-p-length
unfolding body_of
returns-then-p-length c = stop 0 _ _ _ (omega arith) c.refuse.ensures

pub returns-then-vector : goal.returns-then-vector
unfolding body_of
returns-then-vector c = stop 1 _ _ _ (omega arith) c.refuse-then-vector.ensures

pub returns-then-p-lt-FIRST_PROPERTY_FIELD_INDEX : goal.returns-then-p-lt-FIRST_PROPERTY_FIELD_INDEX
unfolding body_of
returns-then-p-lt-FIRST_PROPERTY_FIELD_INDEX c = stop 2 _ _ _ (omega arith) c.refuse-then-p-lt-FIRST_PROPERTY_FIELD_INDEX.ensures

pub returns-then-byte_at-ne-E131_DMP_LAYER_ADDRESS_DATA_FIELD : goal.returns-then-byte_at-ne-E131_DMP_LAYER_ADDRESS_DATA_FIELD
unfolding body_of
returns-then-byte_at-ne-E131_DMP_LAYER_ADDRESS_DATA_FIELD c = stop 3 _ _ _ (omega arith) c.refuse-then-byte_at-ne-E131_DMP_LAYER_ADDRESS_DATA_FIELD.ensures

pub returns-then-p-lt-ADDRESS_INCREMENT_FIELD_INDEX : goal.returns-then-p-lt-ADDRESS_INCREMENT_FIELD_INDEX
unfolding body_of
returns-then-p-lt-ADDRESS_INCREMENT_FIELD_INDEX c = stop 4 _ _ _ (omega arith) c.refuse-then-p-lt-ADDRESS_INCREMENT_FIELD_INDEX.ensures

pub returns-then-u16_at-ne-E131_DATA_PACKET_DMP_LAYER_FIRST_PROPERTY_FIELD : goal.returns-then-u16_at-ne-E131_DATA_PACKET_DMP_LAYER_FIRST_PROPERTY_FIELD
unfolding body_of
returns-then-u16_at-ne-E131_DATA_PACKET_DMP_LAYER_FIRST_PROPERTY_FIELD c = stop 5 _ _ _ (omega arith) c.refuse-then-u16_at-ne-E131_DATA_PACKET_DMP_LAYER_FIRST_PROPERTY_FIELD.ensures

pub returns-then-p-lt-PROPERTY_VALUE_COUNT_FIELD_INDEX : goal.returns-then-p-lt-PROPERTY_VALUE_COUNT_FIELD_INDEX
unfolding body_of
returns-then-p-lt-PROPERTY_VALUE_COUNT_FIELD_INDEX c = stop 6 _ _ _ (omega arith) c.refuse-then-p-lt-PROPERTY_VALUE_COUNT_FIELD_INDEX.ensures

pub returns-then-u16_at-ne-E131_DATA_PACKET_DMP_LAYER_ADDRESS_INCREMENT : goal.returns-then-u16_at-ne-E131_DATA_PACKET_DMP_LAYER_ADDRESS_INCREMENT
unfolding body_of
returns-then-u16_at-ne-E131_DATA_PACKET_DMP_LAYER_ADDRESS_INCREMENT c = stop 7 _ _ _ (omega arith) c.refuse-then-u16_at-ne-E131_DATA_PACKET_DMP_LAYER_ADDRESS_INCREMENT.ensures

pub returns : goal.returns
returns c = pass _ _ _ (omega arith) c.parse_count.ensures ∙ sym (by_count _ _ _)
