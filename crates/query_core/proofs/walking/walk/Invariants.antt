use Rattle.std.proofs.Common.{length}
use Rattle.query_core.specs.Selecting.{is_of_type, is_selected}
use Rattle.query_core.proofs.Counts.{Counted}
use Rattle.query_core.proofs.Walks.{Walked, behind}
use Rattle.query_core.proofs.walking.walk.Given as goal

abbrev pub invariant-loop-feature : goal.invariant-loop-feature
invariant-loop-feature g l =
    Walked (λ f. f.now) (is_selected l.query) (g.V.FeatureView.features l.view) l.found.items l.after
    × Counted (is_of_type l.query.kind) (g.V.FeatureView.features l.view) l.after l.initial.steps l.steps

abbrev pub decreases-loop-feature : goal.decreases-loop-feature
decreases-loop-feature g l = length (behind l.after (g.V.FeatureView.features l.view))
