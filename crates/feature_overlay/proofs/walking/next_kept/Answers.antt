use Rattle.std.proofs.Common.{sym, ◌∙◌}
use Rattle.feature_overlay.proofs.Firsts.{place_falls}
use Rattle.feature_overlay.proofs.Keeping.{kept_finds, kept_passes, kept_ends}
use Rattle.feature_overlay.proofs.walking.next_kept.Goals as goal

pub returns-then-not-has_changed-clause-value : goal.returns-then-not-has_changed-clause-value
returns-then-not-has_changed-clause-value g c =
    kept_finds (g.V.FeatureView.features c.args.view.now) c.args.changes.now.entries c.args.after c.loop-feature.passed c.in-Some.ensures.view.order c.loop-feature.invariant c.in-Some.feature.now c.in-Some.ensures.value (sym c.has_changed.ensures ∙ c.if-not-has_changed.true)

pub loop-feature-smaller : goal.loop-feature-smaller
loop-feature-smaller g c = rw c.id_of-passed.ensures (place_falls c.loop-feature.passed _ c.in-Some.feature.now c.in-Some.ensures.value)

pub loop-feature-preserved : goal.loop-feature-preserved
loop-feature-preserved g c =
    rw c.id_of-passed.ensures
    (kept_passes (g.V.FeatureView.features c.args.view.now) c.args.changes.now.entries c.args.after c.loop-feature.passed c.in-Some.ensures.view.order c.loop-feature.invariant c.in-Some.feature.now c.in-Some.ensures.value (sym c.has_changed.ensures ∙ c.if-not-has_changed.false))

pub returns-clause-value : goal.returns-clause-value
returns-clause-value g c = kept_ends (g.V.FeatureView.features c.args.view.now) c.args.changes.now.entries c.args.after c.loop-feature.passed c.in_default.ensures.view.order c.loop-feature.invariant c.in_default.ensures.value
