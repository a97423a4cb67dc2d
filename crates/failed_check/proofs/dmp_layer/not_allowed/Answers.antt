use native.Mathlib.Omega.{arith}
use Rattle.refusal.specs.Check.{dmp}
use Rattle.dmp.specs.Layer.{dmp_checks}
use Rattle.failed_check.proofs.Laws.{by_last, by_test}
use Rattle.failed_check.proofs.dmp_layer.not_allowed.Goals as goal

pub returns-then-byte_at-ne-E131_DMP_LAYER_ADDRESS_DATA_FIELD : goal.returns-then-byte_at-ne-E131_DMP_LAYER_ADDRESS_DATA_FIELD
returns-then-byte_at-ne-E131_DMP_LAYER_ADDRESS_DATA_FIELD c = by_test 2 dmp (dmp_checks c.args.q.now) c.args.refusal _ c.requires.0 c.requires.1 c.requires.2 0 (omega arith) c.at.ensures

pub returns-then-u16_at-ne-E131_DATA_PACKET_DMP_LAYER_FIRST_PROPERTY_FIELD : goal.returns-then-u16_at-ne-E131_DATA_PACKET_DMP_LAYER_FIRST_PROPERTY_FIELD
returns-then-u16_at-ne-E131_DATA_PACKET_DMP_LAYER_FIRST_PROPERTY_FIELD c = by_test 2 dmp (dmp_checks c.args.q.now) c.args.refusal _ c.requires.0 c.requires.1 c.requires.2 1 (omega arith) c.at-then-u16_at-ne-E131_DATA_PACKET_DMP_LAYER_FIRST_PROPERTY_FIELD.ensures

pub returns-then-u16_at-ne-E131_DATA_PACKET_DMP_LAYER_ADDRESS_INCREMENT : goal.returns-then-u16_at-ne-E131_DATA_PACKET_DMP_LAYER_ADDRESS_INCREMENT
returns-then-u16_at-ne-E131_DATA_PACKET_DMP_LAYER_ADDRESS_INCREMENT c = by_test 2 dmp (dmp_checks c.args.q.now) c.args.refusal _ c.requires.0 c.requires.1 c.requires.2 2 (omega arith) c.at-then-u16_at-ne-E131_DATA_PACKET_DMP_LAYER_ADDRESS_INCREMENT.ensures

pub returns : goal.returns
returns c =
    by_last 2 dmp (dmp_checks c.args.q.now) c.args.refusal _ c.requires.0 c.requires.1 c.requires.2
    (omega arith, (omega arith, (omega arith, c.at-2.ensures)))
