use Rattle.std.proofs.lemmas.List.Elements.{All-nil}
use Rattle.wfsd_commands.proofs.Drills.{entered_come, not_entered}
use Rattle.wfsd_commands.proofs.drilling.enter.Goals as goal

pub step-requires-clause-texts : goal.step-requires-clause-texts
step-requires-clause-texts g c = rw c.requires.one.makes_none (All-nil _)

pub returns-in-Ok-clause-on : goal.returns-in-Ok-clause-on
returns-in-Ok-clause-on g c first requests come =
    entered_come g.D.Disk.faults first requests c.args.sums.now c.args.store.now come c.args.request g.D.Disk.moment g.D.Disk.since c.step.new.self c.requires.one c.requires.change
    c.in-Ok.reply c.args.next c.sum_of-sums.result c.in-Ok.ensures c.requires.next (λ n h. rw c.taken_in.ensures at (c.sum_of-sums.ensures n h))

pub returns-in-Err-clause-on : goal.returns-in-Err-clause-on
returns-in-Err-clause-on g c first requests behind come =
    not_entered g.D.Disk.faults first requests c.args.sums.now c.args.store.now come c.args.request g.D.Disk.moment g.D.Disk.since c.step.new.self c.requires.one c.requires.change behind c.in-Err.fault c.in-Err.ensures
