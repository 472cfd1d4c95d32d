use Rattle.std.proofs.Common.{◌≡◌, take}
use Rattle.query_core.specs.Selecting.{held}
use Rattle.stored_queries.proofs.collecting.held.Given as goal

abbrev pub invariant-loop-id : goal.invariant-loop-id
invariant-loop-id g l = l.found.items ≡ held (g.V.FeatureView.features l.view) (take l.id-index l.ids)
