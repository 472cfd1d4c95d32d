use Rattle.std.proofs.Common.{◌∙◌}
use Rattle.request_plans.specs.Divided.{division_of}
use Rattle.request_plans.specs.Plan.{state_in}
use Rattle.request_plans.proofs.Taken.{lock_comes, lock_not_selected, lock_not_free}
use Rattle.request_plans.proofs.locking.plan_lock.Goals as goal

pub returns-in-Err : goal.returns-in-Err
returns-in-Err g c = λ last.
    lock_not_selected c.args.basis.now.schema.now (state_in (g.V.FeatureView.features c.args.view.now) c.args.basis.now last) c.args.basis.now.moment c.args.asked.now c.args.take c.args.period c.in-Err.fault c.in-Err.ensures

pub returns-in-Err-divide : goal.returns-in-Err-divide
returns-in-Err-divide g c = λ last.
    lock_not_free c.args.basis.now.schema.now (state_in (g.V.FeatureView.features c.args.view.now) c.args.basis.now last) c.args.basis.now.moment c.args.asked.now c.args.take c.args.period c.in-Ok.ids c.in-Err-divide.fault c.in-Ok.ensures c.in-Err-divide.ensures

pub returns : goal.returns
returns g c = λ last.
    let features = g.V.FeatureView.features c.args.view.now in
    let taken = c.in_ok-taken.ensures ∙ c.items.ensures in
    lock_comes c.args.basis.now.schema.now (state_in features c.args.basis.now last) c.args.basis.now.moment c.args.asked.now c.args.take c.args.period c.in-Ok.ids (division_of c.in-Ok-divide.division) c.in_ok-grant.grant.lock c.in_ok-grant.grant.work c.in-Ok.ensures
    (record {
      are = c.in-Ok-divide.ensures;
      named = rw taken at c.in_ok-grant.ensures.lock features last;
      granted = rw taken at c.in_ok-grant.ensures.work;
      numbers = rw taken at c.in_ok-grant.ensures.numbers;
    })
