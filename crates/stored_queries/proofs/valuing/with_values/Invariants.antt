use Rattle.std.proofs.Common.{◌≡◌, map, filter, take}
use Rattle.query_core.specs.Selecting.{held}
use Rattle.wfs_model.specs.Read.{has_value}
use Rattle.stored_queries.proofs.valuing.with_values.Given as goal

abbrev pub invariant-loop-id : goal.invariant-loop-id
invariant-loop-id g l = map (λ f. f.now) l.found.items ≡ filter (has_value l.kind l.property) (held (g.V.FeatureView.features l.view) (take l.id-index l.ids))
