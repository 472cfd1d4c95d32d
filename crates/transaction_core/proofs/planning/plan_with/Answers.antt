use Rattle.std.proofs.Common.{All, Ok, length, subst, refl, sym, ap, ◌∙◌}
use Rattle.wfs_ends.specs.Read.{each}
use Rattle.feature_values.specs.declared.schema.Schema.{Schema}
use Rattle.transaction_core.specs.Plan.{if_planned}
use Rattle.feature_overlay.specs.Laid.{all_laid}
use Rattle.wfs_model.specs.Plans.{Planning, planned, planned_all}
use Rattle.wfs_model.specs.OfSchema.{IsActionOf}
use Rattle.transaction_core.specs.Planning.{planning_of, may_of}
use Rattle.transaction_core.proofs.Acting.{begins, no_plan}
use Rattle.transaction_core.proofs.planning.plan_with.Goals as goal

pub act_all-requires : goal.act_all-requires
act_all-requires g c =
    let laid = all_laid (g.V.FeatureView.features c.over-overlay.result.view.now) c.over-overlay.result.changes.entries in
    record {
      counters = ap (λ (p : Planning). length p.at.counters) (c.in_ok-tally.ensures laid) ∙ c.requires.counters ∙ ap (λ (s : Schema). length s.types) (sym c.over-overlay.ensures.schema);
      fitting = subst (λ (s : Schema). All (IsActionOf s) c.args.actions.now) (sym c.over-overlay.ensures.schema) c.requires.fitting;
    }

pub returns-in-Ok : goal.returns-in-Ok
returns-in-Ok g c =
    let stand = g.V.FeatureView.features c.args.view.now in
    let laid = all_laid (g.V.FeatureView.features c.over-overlay.result.view.now) c.over-overlay.result.changes.entries in
    let features = all_laid (g.V.FeatureView.features c.act_all.new.overlay.view.now) c.act_all.new.overlay.changes.entries in
    let start = begins (may_of c.args.guard.now) laid stand c.args.counters.now c.args.counters.now (planning_of laid c.in_ok-tally.tally) c.args.actions.now (c.in_ok-tally.ensures laid) c.over-overlay.ensures.features refl in
    ap if_planned (sym start ∙ c.in-Ok.ensures) ∙ ap (λ p. Ok p) (sym (c.planned.ensures features))

pub returns : goal.returns
returns g c =
    let stand = g.V.FeatureView.features c.args.view.now in
    let laid = all_laid (g.V.FeatureView.features c.over-overlay.result.view.now) c.over-overlay.result.changes.entries in
    let features = all_laid (g.V.FeatureView.features c.act_all.new.overlay.view.now) c.act_all.new.overlay.changes.entries in
    let start = begins (may_of c.args.guard.now) laid stand c.args.counters.now c.args.counters.now (planning_of laid c.in_ok-tally.tally) c.args.actions.now (c.in_ok-tally.ensures laid) c.over-overlay.ensures.features refl in
    no_plan c.in-Err.fault (each (planned (may_of c.args.guard.now)) (planning_of laid c.in_ok-tally.tally) c.args.actions.now) (planned_all (may_of c.args.guard.now) stand c.args.counters.now c.args.actions.now) (planning_of features c.act_all.new.tally) start c.in-Err.ensures
