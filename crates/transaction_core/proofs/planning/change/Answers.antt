use Rattle.std.proofs.Common.{Ok, sym, ap, ◌∙◌}
use Rattle.std.proofs.lemmas.Result.{err_from_is_err_and}
use Rattle.feature_overlay.specs.Laid.{all_laid}
use Rattle.wfs_model.specs.Acts.{are_too_many}
use Rattle.wfs_model.specs.Refusals.{not_one}
use Rattle.transaction_core.specs.Planning.{planning_of, may_of, worked_or_not}
use Rattle.transaction_core.proofs.Acting.{comes_refused, too_many, not_permitted, is_permitted}
use Rattle.transaction_core.proofs.planning.change.Goals as goal

pub returns-then-are_too_many-clause-worked : goal.returns-then-are_too_many-clause-worked
returns-then-are_too_many-clause-worked g c =
    let old = planning_of (all_laid (g.V.FeatureView.features c.args.overlay.now.view.now) c.args.overlay.now.changes.entries) c.args.tally.now in
    comes_refused c.refused.result not_one (worked_or_not (may_of c.args.guard.now) old c.args.action.now) old c.refused.ensures
    (too_many (may_of c.args.guard.now) old c.args.action.now c.items.result.now (c.items.ensures ∙ c.in_ok-ids.ensures.value) (sym c.are_too_many.ensures ∙ c.if-are_too_many.true))

pub returns-in_err-permit-clause-worked : goal.returns-in_err-permit-clause-worked
returns-in_err-permit-clause-worked g c =
    let old = planning_of (all_laid (g.V.FeatureView.features c.args.overlay.now.view.now) c.args.overlay.now.changes.entries) c.args.tally.now in
    let p = err_from_is_err_and c.from_residual-in_err-permit.result c.from_residual-in_err-permit.ensures.1 in
    rw (p.1, p.2)
    (not_permitted c.in_err-permit.field-0.0 (may_of c.args.guard.now) old c.args.action.now c.items-2.result.now old (c.items-2.ensures ∙ c.in_ok-ids.ensures.value)
    (ap (are_too_many c.args.action.now) (c.items-2.ensures ∙ sym c.items.ensures) ∙ sym c.are_too_many.ensures ∙ c.if-are_too_many.false) c.in_err-permit.ensures)

pub returns-clause-worked : goal.returns-clause-worked
returns-clause-worked g c =
    let old = planning_of (all_laid (g.V.FeatureView.features c.args.overlay.now.view.now) c.args.overlay.now.changes.entries) c.args.tally.now in
    is_permitted (may_of c.args.guard.now) old c.args.action.now c.items-2.result.now (c.items-2.ensures ∙ c.in_ok-ids.ensures.value)
    (ap (are_too_many c.args.action.now) (c.items-2.ensures ∙ sym c.items.ensures) ∙ sym c.are_too_many.ensures ∙ c.if-are_too_many.false) c.in_ok-permit.ensures
    ∙ ap (λ p. Ok p) (sym c.in_ok-work.ensures.worked)
