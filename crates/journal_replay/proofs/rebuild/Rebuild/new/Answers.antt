use Rattle.journal_replay.proofs.Rebuilding.{none_rebuilt}
use Rattle.journal_replay.proofs.rebuild.Rebuild.new.Goals as goal

pub invariant_of-result : goal.invariant_of-result
invariant_of-result c = none_rebuilt c.in_ok-signature.field-0 c.args.schema.now c.in_ok-new.field-0 c.new-2.result c.in_ok-signature.ensures c.in_ok-new.ensures.schema c.in_ok-new.ensures.kept c.new-2.ensures
