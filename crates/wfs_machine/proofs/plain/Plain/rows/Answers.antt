use Rattle.wfs_model.specs.OfSchema.{actions_in}
use Rattle.wfs_model.specs.Step.{plan_of}
use Rattle.transaction_core.specs.Plan.{lock_in, transaction}
use Rattle.wfs_machine.proofs.Changes.{planned_rows, plan_said}
use Rattle.wfs_machine.proofs.plain.Plain.rows.Goals as goal

pub returns-in-Ok : goal.returns-in-Ok
unfolding transaction
returns-in-Ok c =
    planned_rows (plan_of c.args.self.now.schema c.args.self.now.state c.args.moment (lock_in c.args.request.now) (actions_in c.args.request.now)) c.in-Ok.planned c.change_in.result c.in-Ok.ensures c.change_in.ensures

pub returns-in-Err : goal.returns-in-Err
unfolding transaction
returns-in-Err c =
    let said = plan_of c.args.self.now.schema c.args.self.now.state c.args.moment (lock_in c.args.request.now) (actions_in c.args.request.now) in
    c.no_change.ensures said (plan_said c.in-Err.fault said c.in-Err.ensures)
