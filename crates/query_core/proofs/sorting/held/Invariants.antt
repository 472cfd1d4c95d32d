use Rattle.std.proofs.Common.{◌≡◌, map, take}
use Rattle.query_core.specs.Selecting.{held}
use Rattle.query_core.proofs.sorting.held.Given as goal

abbrev pub invariant-loop-id : goal.invariant-loop-id
invariant-loop-id g l = map (λ f. f.now) l.features.items ≡ held (g.V.FeatureView.features l.view) (take l.id-index l.ids)
