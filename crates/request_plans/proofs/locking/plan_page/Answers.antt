use Rattle.std.proofs.Common.{length, ap, ◌∙◌}
use Rattle.query_core.specs.Paging.{page_of}
use Rattle.query_core.specs.Selecting.{held}
use Rattle.request_plans.specs.Divided.{division_of}
use Rattle.request_plans.specs.Plan.{state_in}
use Rattle.request_plans.proofs.Taken.{page_comes, page_not_selected, page_not_free}
use Rattle.request_plans.proofs.locking.plan_page.Goals as goal

pub returns-in-Err : goal.returns-in-Err
returns-in-Err g c = λ last.
    page_not_selected c.args.basis.now.schema.now (state_in (g.V.FeatureView.features c.args.view.now) c.args.basis.now last) c.args.basis.now.moment c.args.present.now c.args.asked.now c.args.take c.args.period c.in-Err.fault c.in-Err.ensures

pub returns-in-Err-divide : goal.returns-in-Err-divide
returns-in-Err-divide g c = λ last.
    let shown = c.in_ok-shown.ensures ∙ c.page.ensures ∙ ap (page_of c.args.present.now.start c.args.present.now.count) c.items-2.ensures in
    page_not_free c.args.basis.now.schema.now (state_in (g.V.FeatureView.features c.args.view.now) c.args.basis.now last) c.args.basis.now.moment c.args.present.now c.args.asked.now c.args.take c.args.period c.in-Ok.ids c.in-Err-divide.fault c.in-Ok.ensures
    (rw shown at c.in-Err-divide.ensures)

pub returns : goal.returns
returns g c = λ last.
    let features = g.V.FeatureView.features c.args.view.now in
    let shown = c.in_ok-shown.ensures ∙ c.page.ensures ∙ ap (page_of c.args.present.now.start c.args.present.now.count) c.items-2.ensures in
    page_comes c.args.basis.now.schema.now (state_in features c.args.basis.now last) c.args.basis.now.moment c.args.present.now c.args.asked.now c.args.take c.args.period c.in-Ok.ids (division_of c.in-Ok-divide.division) c.in_ok-grant.grant.lock c.in_ok-grant.grant.work
    c.in_ok-features.features (length c.items.result.now) c.in-Ok.ensures
    (record {
      are = rw shown at c.in-Ok-divide.ensures;
      named = c.in_ok-grant.ensures.lock features last;
      granted = c.in_ok-grant.ensures.work;
      numbers = c.in_ok-grant.ensures.numbers;
    })
    (c.in_ok-features.ensures ∙ ap (held features) c.items-3.ensures) (ap length c.items.ensures)
