use Rattle.request_plans.specs.Plan.{state_in}
use Rattle.request_plans.proofs.Transactions.{transaction_comes, transaction_refused}
use Rattle.request_plans.proofs.transacting.plan_transaction.Goals as goal

pub returns-in-Err : goal.returns-in-Err
returns-in-Err g c = λ last.
    let basis = c.args.basis.now in
    let state = state_in (g.V.FeatureView.features c.args.view.now) basis last in
    transaction_refused basis.schema.now state basis.moment c.args.request.now c.in-Transact.lock c.in-Transact.release c.in-Transact.actions c.in-Err.fault c.in-Transact.is (c.in-Err.ensures state)

pub returns-in-Ok : goal.returns-in-Ok
returns-in-Ok g c = λ last.
    let basis = c.args.basis.now in
    let state = state_in (g.V.FeatureView.features c.args.view.now) basis last in
    rw c.carried_by.ensures (transaction_comes basis.schema.now state basis.moment c.args.request.now c.in-Transact.lock c.in-Transact.release c.in-Transact.actions c.in-Ok.planned c.in-Transact.is c.requires.kept c.requires.fitting (c.in-Ok.ensures state))
