use Rattle.std.proofs.Common.{◌-◌, length}
use Rattle.query_core.proofs.Near.{asked_up_to, Asked}
use Rattle.query_core.proofs.nearing.near_of_all.Given as goal

abbrev pub invariant-loop-feature : goal.invariant-loop-feature
invariant-loop-feature g l = Asked (λ k. g.V.FeatureView.most_near l.view k l.area) (g.V.FeatureView.schema l.view) l.area (g.V.FeatureView.features l.view) l.ids.items l.after

abbrev pub decreases-loop-feature : goal.decreases-loop-feature
decreases-loop-feature g l = length (g.V.FeatureView.schema l.view).types - asked_up_to l.after
