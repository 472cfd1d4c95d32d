use Rattle.std.proofs.Common.{sym, ◌∙◌, arith}
use Rattle.query_core.specs.Selecting.{is_of_type}
use Rattle.query_core.proofs.Begins.{walk_begins, walk_past}
use Rattle.query_core.proofs.Counts.{count_begins, count_goes_on}
use Rattle.query_core.proofs.Walks.{walk_takes, walk_passes, walk_ends, walk_falls}
use Rattle.query_core.proofs.walking.walk.Goals as goal

pub loop-feature-init : goal.loop-feature-init
loop-feature-init g c = (
  rw (c.new-found.ensures.items, c.start_of-after.ensures) (walk_begins c.args.query.now (g.V.FeatureView.features c.args.view.now)),
  count_begins (is_of_type c.args.query.now.kind) (g.V.FeatureView.features c.args.view.now) c.start_of-after.result c.args.steps.now,
)

pub returns-then-is_past-clause-value : goal.returns-then-is_past-clause-value
returns-then-is_past-clause-value g c =
    walk_past (λ f. f.now) c.args.query.now _ c.loop-feature.found.items c.loop-feature.after c.in-Some.feature.now c.in-Some.ensures.view.order c.in-Some.ensures.value (sym c.is_past.ensures ∙ c.if-is_past.true) c.loop-feature.invariant.0

pub loop-feature-smaller-then-not-branch : goal.loop-feature-smaller-then-not-branch
loop-feature-smaller-then-not-branch g c =
    rw c.place_behind-after.ensures (walk_falls _ c.loop-feature.after c.in-Some.feature.now c.in-Some.ensures.view.order c.in-Some.ensures.value)

pub loop-feature-preserved-then-not-branch : goal.loop-feature-preserved-then-not-branch
loop-feature-preserved-then-not-branch g c =
    rw c.place_behind-after.ensures (
      walk_passes (λ f. f.now) _ _ c.loop-feature.found.items c.loop-feature.after c.in-Some.feature.now c.in-Some.ensures.view.order c.in-Some.ensures.value (sym c.in_ok-is_selected.ensures.value ∙ c.if-not-branch.true) c.loop-feature.invariant.0,
      count_goes_on (is_of_type c.args.query.now.kind) (g.V.FeatureView.features c.args.view.now) c.loop-feature.after c.in-Some.feature.now c.args.steps.now c.loop-feature.steps c.is_selected.new.steps c.in-Some.ensures.view.order c.in-Some.ensures.value c.in_ok-is_selected.ensures.steps c.loop-feature.invariant.1,
    )

pub loop-feature-smaller : goal.loop-feature-smaller
loop-feature-smaller g c =
    rw c.place_behind-after.ensures (walk_falls _ c.loop-feature.after c.in-Some.feature.now c.in-Some.ensures.view.order c.in-Some.ensures.value)

pub loop-feature-preserved : goal.loop-feature-preserved
loop-feature-preserved g c =
    rw (c.place_behind-after.ensures, c.in_ok-push.ensures.items) (
      walk_takes (λ f. f.now) _ _ c.loop-feature.found.items c.loop-feature.after c.in-Some.feature c.in-Some.ensures.view.order c.in-Some.ensures.value (sym c.in_ok-is_selected.ensures.value ∙ c.if-not-branch.false) c.loop-feature.invariant.0,
      count_goes_on (is_of_type c.args.query.now.kind) (g.V.FeatureView.features c.args.view.now) c.loop-feature.after c.in-Some.feature.now c.args.steps.now c.loop-feature.steps c.is_selected.new.steps c.in-Some.ensures.view.order c.in-Some.ensures.value c.in_ok-is_selected.ensures.steps c.loop-feature.invariant.1,
    )

pub returns-clause-value : goal.returns-clause-value
returns-clause-value g c = walk_ends (λ f. f.now) _ _ c.loop-feature.found.items c.loop-feature.after c.in_default.ensures.value c.loop-feature.invariant.0

pub returns-in_err-is_selected-clause-steps : goal.returns-in_err-is_selected-clause-steps
returns-in_err-is_selected-clause-steps g c =
    omega (arith, count_goes_on (is_of_type c.args.query.now.kind) (g.V.FeatureView.features c.args.view.now) c.loop-feature.after c.in-Some.feature.now c.args.steps.now c.loop-feature.steps c.is_selected.new.steps c.in-Some.ensures.view.order c.in-Some.ensures.value c.is_selected.ensures.steps c.loop-feature.invariant.1)

pub returns-in_err-push-clause-steps : goal.returns-in_err-push-clause-steps
returns-in_err-push-clause-steps g c =
    omega (arith, count_goes_on (is_of_type c.args.query.now.kind) (g.V.FeatureView.features c.args.view.now) c.loop-feature.after c.in-Some.feature.now c.args.steps.now c.loop-feature.steps c.is_selected.new.steps c.in-Some.ensures.view.order c.in-Some.ensures.value c.is_selected.ensures.steps c.loop-feature.invariant.1)
