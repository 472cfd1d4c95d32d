use Rattle.std.proofs.Common.{length}
use Rattle.feature_overlay.specs.Changed.{kept_at}
use Rattle.feature_overlay.proofs.Firsts.{Walked, behind}
use Rattle.feature_overlay.proofs.walking.next_kept.Given as goal

abbrev pub invariant-loop-feature : goal.invariant-loop-feature
invariant-loop-feature g l = Walked l.fn.after l.passed (kept_at (g.V.FeatureView.features l.view) l.changes.entries)

abbrev pub decreases-loop-feature : goal.decreases-loop-feature
decreases-loop-feature g l = length (behind l.passed (g.V.FeatureView.features l.view))
