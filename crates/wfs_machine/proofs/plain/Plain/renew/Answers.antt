use Rattle.std.proofs.Common.{◌∙◌}
use Rattle.wfs_machine.proofs.Telling.{named_is_live, said_on, settles_ok}
use Rattle.wfs_machine.proofs.Takings.{renewed_is}
use Rattle.wfs_model.specs.Locking.{named}
use Rattle.wfs_model.specs.Step.{lock_renewed}
use Rattle.wfs_machine.proofs.plain.Plain.renew.Goals as goal

pub returns-in-Err : goal.returns-in-Err
unfolding lock_renewed
returns-in-Err c = c.fail.ensures (lock_renewed c.args.self.now.state c.args.moment c.args.id c.args.period) (said_on c.in-Err.fault (named c.args.self.now.state c.args.moment c.args.id) _ c.in-Err.ensures)

pub renew_lock-requires-clause-live : goal.renew_lock-requires-clause-live
renew_lock-requires-clause-live c = named_is_live c.args.self.now.state c.args.moment c.args.id c.in-Ok.number c.in-Ok.ensures

pub returns : goal.returns
returns c =
    settles_ok c.args.self.now c.renew_lock.new.self c.args.moment _ _ _
    (renewed_is c.args.self.now.state c.args.moment c.args.id c.args.period c.in-Ok.number c.in_ok-taken.taken c.of.result c.in-Ok.ensures c.in_ok-taken.ensures.features (c.of.ensures ∙ c.new.ensures.items))
    c.in_ok-taken.ensures.state c.in_ok-taken.ensures.schema
