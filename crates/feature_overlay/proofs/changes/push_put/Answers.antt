use Rattle.feature_overlay.proofs.Nearby.{each_put_once}
use Rattle.feature_overlay.proofs.changes.push_put.Goals as goal

pub returns-clause-once : goal.returns-clause-once
returns-clause-once c = each_put_once c.args.kind c.args.changes.now.entries c.into_iter-key-iterator.ensures.into_iter_gives.5
