use Rattle.std.proofs.Common.{◌≡◌, false, true, ap, sym, ◌∙◌}
use Rattle.wfs_model.specs.Stored.{is_there}
use Rattle.request_plans.specs.Plan.{state_in}
use Rattle.request_plans.proofs.Stores.{drop_comes, drop_refused}
use Rattle.request_plans.proofs.storing.plan_drop.Goals as goal

pub returns-then-not-is_there : goal.returns-then-not-is_there
returns-then-not-is_there c = λ features last.
    let basis = c.args.basis.now in
    let there : is_there basis.stored.now c.args.id.now ≡ false = ap (is_there basis.stored.now) (sym c.as_str.ensures.value) ∙ sym c.is_there.ensures ∙ cc in
    drop_refused basis.schema.now (state_in features basis last) basis.moment c.args.id.now c.refused_by.result there c.refused_by.ensures.value

pub returns : goal.returns
returns c = λ features last.
    let basis = c.args.basis.now in
    let there : is_there basis.stored.now c.args.id.now ≡ true = ap (is_there basis.stored.now) (sym c.as_str.ensures.value) ∙ sym c.is_there.ensures ∙ cc in
    rw c.in_ok-dropped.ensures (drop_comes basis.schema.now (state_in features basis last) basis.moment c.args.id.now there)
