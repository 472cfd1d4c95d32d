use Rattle.feature_overlay.specs.Laid.{all_laid}
use Rattle.feature_versions.proofs.Holds.{refused_at, accepted_all}
use Rattle.feature_versions.proofs.accepting.are_parts.Goals as goal

pub returns : goal.returns
returns g c = λ kept is.
    accepted_all c.args.schema.now kept (g.V.FeatureView.features c.args.view.now) (all_laid (g.V.FeatureView.features c.loop-part.overlay.view.now) c.loop-part.overlay.changes.entries) c.args.parts.now c.loop-part.part-index is c.loop-part.invariant.rest c.loop-part-test.false

pub returns-then-not-branch : goal.returns-then-not-branch
returns-then-not-branch g c = λ kept is.
    refused_at c.args.schema.now kept (g.V.FeatureView.features c.args.view.now) (all_laid (g.V.FeatureView.features c.loop-part.overlay.view.now) c.loop-part.overlay.changes.entries) c.args.parts.now c.loop-part.part-index c.part-item.result c.in_ok-lay.field-0 is
    c.loop-part.invariant.rest c.loop-part-test.true c.part-item.is c.in_ok-lay.ensures.value c.if-not-branch.true
