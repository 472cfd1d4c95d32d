use Rattle.std.proofs.Common.{Result, Ok, subst, sym, ap, ◌∙◌}
use Rattle.std.specs.List.{fold}
use Rattle.feature_overlay.specs.Laid.{all_laid}
use Rattle.wfs_model.specs.declared.reply.Refusal.{Refusal}
use Rattle.wfs_model.specs.Plans.{Planning, planned}
use Rattle.transaction_core.specs.Planning.{planning_of, came, may_of, ComesTo}
use Rattle.transaction_core.proofs.Acting.{planned_insert, planned_other, none_withheld}
use Rattle.transaction_core.proofs.planning.act.Goals as goal

pub returns-in-Insert-clause-planned : goal.returns-in-Insert-clause-planned
returns-in-Insert-clause-planned g c =
    let old = planning_of (all_laid (g.V.FeatureView.features c.args.overlay.now.view.now) c.args.overlay.now.changes.entries) c.args.tally.now in
    ap (planned (may_of c.args.guard.now) old) c.in-Insert.is ∙ planned_insert (may_of c.args.guard.now) old c.in-Insert.handle c.in-Insert.features (none_withheld c.args.guard.now)
    ∙ ap (λ (p : Planning). Ok p) (sym (c.in_ok-insert_all.ensures.came ∙ ap (fold (came c.in-Insert.handle) old) c.items.ensures))

pub returns-clause-planned : goal.returns-clause-planned
returns-clause-planned g c =
    let old = planning_of (all_laid (g.V.FeatureView.features c.args.overlay.now.view.now) c.args.overlay.now.changes.entries) c.args.tally.now in
    let new = planning_of (all_laid (g.V.FeatureView.features c.change.new.overlay.view.now) c.change.new.overlay.changes.entries) c.change.new.tally in
    subst (λ (said : Result Planning Refusal). ComesTo c.change.result said new) (sym (planned_other (may_of c.args.guard.now) old c.args.action.now c.in_default.not-Insert)) c.change.ensures.worked
