use Rattle.std.proofs.Common.{arith}
use Rattle.wfs_ends.proofs.Writing.{wrote_nothing}
use Rattle.reply_documents.proofs.Pairs.{wrote_pair, wrote_pairs}
use Rattle.reply_documents.specs.Features.{property_text}
use Rattle.reply_documents.proofs.feature.put_pairs.Goals as goal

pub loop-i-init : goal.loop-i-init
loop-i-init g c = wrote_nothing _

pub loop-i-preserved : goal.loop-i-preserved
loop-i-preserved g c =
    wrote_pair (property_text c.args.schema.now c.args.of_type.now c.args.number) c.args.properties.now c.args.values.now c.loop-i.i _ _ _ _ _ (omega arith) (omega arith) c.index-properties-i.is c.index-values-i.is c.loop-i.invariant c.put_property-failed.ensures

pub returns : goal.returns
returns g c =
    wrote_pairs (property_text c.args.schema.now c.args.of_type.now c.args.number) c.args.properties.now c.args.values.now c.loop-i.i _ _ (omega arith) c.loop-i.invariant
