use Rattle.std.proofs.Common.{arith}
use Rattle.grid_index.proofs.Marked.{marked_push}
use Rattle.grid_index.proofs.found.Found.add.Goals as goal

pub returns-in_ok-push-clause-marked : goal.returns-in_ok-push-clause-marked
returns-in_ok-push-clause-marked c = marked_push _ _ _ _ c.args.id c.requires (grind (arith, c.in_ok-insert.ensures.added, c.if-branch.true)) c.in_ok-insert.ensures.updates.0 c.in_ok-push.ensures.items
