use Rattle.std.proofs.Common.{sym, ap, ◌∙◌}
use Rattle.feature_values.specs.declared.feature.Rid.{Rid}
use Rattle.wfs_model.specs.Plans.{is_another, is_withheld}
use Rattle.transaction_core.proofs.Found.{goes_on, stops}
use Rattle.transaction_core.proofs.permitting.first_withheld.Goals as goal

pub loop-feature-preserved : goal.loop-feature-preserved
loop-feature-preserved c =
    let withheld = is_withheld c.args.guard.now.locks.now.locks c.args.guard.now.moment c.args.guard.now.number in
    let first : Rid = record { kind = 0; number = 0 } in
    goes_on withheld c.args.touched.now c.loop-feature.feature-index first c.loop-feature-test.true
    (ap (is_another c.args.guard.now.number) (sym c.holder-holder.ensures.value) ∙ sym c.is_another.ensures ∙ c.if-is_another.false)
    ∙ c.loop-feature.invariant

pub returns-then-is_another : goal.returns-then-is_another
returns-then-is_another c =
    let withheld = is_withheld c.args.guard.now.locks.now.locks c.args.guard.now.moment c.args.guard.now.number in
    let first : Rid = record { kind = 0; number = 0 } in
    sym (stops withheld c.args.touched.now c.loop-feature.feature-index first c.loop-feature-test.true
    (ap (is_another c.args.guard.now.number) (sym c.holder-holder.ensures.value) ∙ sym c.is_another.ensures ∙ c.if-is_another.true))
    ∙ c.loop-feature.invariant
