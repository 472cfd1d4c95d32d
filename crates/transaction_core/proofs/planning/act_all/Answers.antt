use Rattle.std.proofs.Common.{◌≡◌, Result, Err, length, subst, sym, ap, ◌∙◌}
use Rattle.std.proofs.lemmas.Result.{err_from_is_err_and}
use Rattle.wfs_ends.specs.Read.{each}
use Rattle.feature_values.specs.declared.schema.Schema.{Schema}
use Rattle.feature_overlay.specs.Laid.{all_laid}
use Rattle.wfs_model.specs.declared.reply.Refusal.{Refusal}
use Rattle.wfs_model.specs.Plans.{Planning, planned}
use Rattle.wfs_model.specs.OfSchema.{IsActionOf}
use Rattle.transaction_core.proofs.Folding.{all_at, each_goes, each_stops, each_over}
use Rattle.transaction_core.specs.declared.fault.PlanFault.{PlanFault}
use Rattle.transaction_core.specs.declared.fault.PlanFault.TheVariants.{Refused, OutOfMemory}
use Rattle.transaction_core.specs.Planning.{planning_of, may_of, ComesTo}
use Rattle.transaction_core.proofs.Acting.{planned_as_many, none_withheld}
use Rattle.transaction_core.proofs.planning.act_all.Goals as goal

-- what refuses an action refuses all
stays_refused : (fault : PlanFault) (said total : Result Planning Refusal) (now after : Planning) → ((refusal : Refusal) → said ≡ Err refusal → total ≡ Err refusal) → ComesTo (Err fault) said now → ComesTo (Err fault) total after
stays_refused (Refused refusal) said total now after go_on h = go_on refusal h
stays_refused OutOfMemory said total now after go_on h = tt

pub act-requires : goal.act-requires
act-requires g c =
    let schema = g.V.FeatureView.schema c.args.overlay.now.view.now in
    let of_schema : IsActionOf schema c.action-item.result = all_at (IsActionOf schema) c.args.actions.now c.loop-action.action-index c.action-item.result c.requires.fitting c.loop-action-test.true c.action-item.is in
    record {
      counters = c.loop-action.invariant.many ∙ c.requires.counters ∙ ap (λ (s : Schema). length s.types) (sym c.loop-action.invariant.schema);
      fitting = subst (λ (s : Schema). IsActionOf s c.action-item.result) (sym c.loop-action.invariant.schema) of_schema;
    }

pub returns-in_err-act : goal.returns-in_err-act
returns-in_err-act g c =
    let begun = planning_of (all_laid (g.V.FeatureView.features c.args.overlay.now.view.now) c.args.overlay.now.changes.entries) c.args.tally.now in
    let at = planning_of (all_laid (g.V.FeatureView.features c.loop-action.overlay.view.now) c.loop-action.overlay.changes.entries) c.loop-action.tally in
    let new = planning_of (all_laid (g.V.FeatureView.features c.act.new.overlay.view.now) c.act.new.overlay.changes.entries) c.act.new.tally in
    let p = err_from_is_err_and c.from_residual.result c.from_residual.ensures.1 in
    rw (p.1, p.2)
    (stays_refused c.in_err-act.field-0.0 (planned (may_of c.args.guard.now) at c.action-item.result) (each (planned (may_of c.args.guard.now)) begun c.args.actions.now) new new
    (λ refusal is. sym c.loop-action.invariant.rest ∙ each_stops (planned (may_of c.args.guard.now)) at c.args.actions.now c.loop-action.action-index c.action-item.result refusal c.loop-action-test.true c.action-item.is is) c.in_err-act.ensures.planned)

pub loop-action-preserved : goal.loop-action-preserved
loop-action-preserved g c =
    let at = planning_of (all_laid (g.V.FeatureView.features c.loop-action.overlay.view.now) c.loop-action.overlay.changes.entries) c.loop-action.tally in
    let new = planning_of (all_laid (g.V.FeatureView.features c.act.new.overlay.view.now) c.act.new.overlay.changes.entries) c.act.new.tally in
    record {
      rest =
          sym (each_goes (planned (may_of c.args.guard.now)) at new c.args.actions.now c.loop-action.action-index c.action-item.result c.loop-action-test.true c.action-item.is c.in_ok-act.ensures.planned)
          ∙ c.loop-action.invariant.rest;
      many = planned_as_many (may_of c.args.guard.now) at c.action-item.result new (none_withheld c.args.guard.now) c.in_ok-act.ensures.planned ∙ c.loop-action.invariant.many;
      schema = c.in_ok-act.ensures.schema ∙ c.loop-action.invariant.schema;
    }

pub returns : goal.returns
returns g c =
    let at = planning_of (all_laid (g.V.FeatureView.features c.loop-action.overlay.view.now) c.loop-action.overlay.changes.entries) c.loop-action.tally in
    sym c.loop-action.invariant.rest ∙ each_over (planned (may_of c.args.guard.now)) at c.args.actions.now c.loop-action.action-index c.loop-action-test.false
