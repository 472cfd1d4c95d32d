use Rattle.std.proofs.Common.{◌≡◌, List, ◌++◌, Ok, ◌∙◌, subst}
use Rattle.wfs_model.specs.declared.stored.StoredQuery.{StoredQuery}
use Rattle.wfs_model.specs.Stored.{created}
use Rattle.request_plans.specs.Plan.{state_in}
use Rattle.request_plans.proofs.Stores.{creation_comes, creation_refused_by}
use Rattle.request_plans.proofs.storing.plan_creation.Goals as goal

pub returns-in_ok-id-in-Some : goal.returns-in_ok-id-in-Some
returns-in_ok-id-in-Some c = λ features last.
    let basis = c.args.basis.now in
    creation_refused_by basis.schema.now (state_in features basis last) basis.moment c.args.definitions.now c.items-queries.result.now c.in-Some.i c.index-queries-i.result c.in_ok-id-in-Some.id c.refused_by.result
    c.items-queries.ensures c.in_ok-id-in-Some.ensures (c.in-Some.ensures.1 c.index-queries-i.result) c.refused_by.ensures.value

pub returns-in_ok-copies-in-None : goal.returns-in_ok-copies-in-None
returns-in_ok-copies-in-None c = λ features last.
    let basis = c.args.basis.now in
    let made : created basis.stored.now c.args.definitions.now ≡ Ok (basis.stored.now ++ c.args.definitions.now) =
    subst (λ (qs : List StoredQuery). created basis.stored.now qs ≡ Ok (basis.stored.now ++ qs)) c.items-queries.ensures c.in-None.ensures in
    rw (c.in_ok-copies-in-None.ensures ∙ c.items-queries.ensures) (creation_comes basis.schema.now (state_in features basis last) basis.moment c.args.definitions.now made)
