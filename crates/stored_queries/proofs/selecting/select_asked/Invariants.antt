use Rattle.std.proofs.Common.{◌≡◌, drop}
use Rattle.wfs_ends.specs.Read.{each}
use Rattle.wfs_model.specs.Expand.{expanded}
use Rattle.stored_queries.specs.Meant.{with_selected, asked_selected}
use Rattle.stored_queries.proofs.selecting.select_asked.Given as goal

abbrev pub invariant-loop-one : goal.invariant-loop-one
invariant-loop-one g l = each (λ ids one. with_selected (g.V.FeatureView.features l.view) ids (expanded l.schema l.stored one)) l.ids (drop l.one-index l.asked) ≡ asked_selected l.schema l.stored (g.V.FeatureView.features l.view) l.asked
