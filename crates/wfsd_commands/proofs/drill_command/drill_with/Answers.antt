use Rattle.wfsd_commands.proofs.Drills.{came, stopped_there, told_left, stopped_left}
use Rattle.wfsd_commands.proofs.drill_command.drill_with.Goals as goal

pub returns-in-Ok-clause-drilled : goal.returns-in-Ok-clause-drilled
returns-in-Ok-clause-drilled g c = came g.D.Disk c.args.rounds c.args.store c.run-ran.new.store _ _ _ c.args.schema.now c.in-Ok.sums c.requires.schema c.in-Ok.ensures c.sum_up.ensures

pub returns-in-Ok-clause-left : goal.returns-in-Ok-clause-left
returns-in-Ok-clause-left g c = told_left g.D.Disk c.args.rounds c.args.store c.run-ran.new.store _ _ _ c.args.schema.now c.in-Ok.sums c.requires.fresh c.requires.rests c.stands.ensures c.in-Ok.ensures c.sum_up.ensures

pub returns-in-Err-clause-drilled : goal.returns-in-Err-clause-drilled
returns-in-Err-clause-drilled g c = stopped_there g.D.Disk c.args.rounds c.args.store c.run-ran.new.store _ _ _ c.args.schema.now c.in-Err.fault c.requires.schema c.in-Err.ensures c.stop.ensures.leaves c.stop.ensures.says

pub returns-in-Err-clause-left : goal.returns-in-Err-clause-left
returns-in-Err-clause-left g c = stopped_left g.D.Disk c.args.rounds c.args.store c.run-ran.new.store (g.O.Sink.sink c.args.out.now) c.stop.result (g.O.Sink.sink c.stop.new.out) c.args.schema.now c.in-Err.fault c.requires.fresh c.requires.rests c.stands.ensures c.in-Err.ensures c.stop.ensures.leaves
