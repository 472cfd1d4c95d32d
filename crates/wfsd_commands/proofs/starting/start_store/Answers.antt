use Rattle.wfsd_commands.proofs.Starts.{started, not_started}
use Rattle.wfsd_commands.proofs.starting.start_store.Goals as goal

pub returns-clause-started : goal.returns-clause-started
returns-clause-started g c =
    started g.D.Disk c.args.schema.now c.args.disks c.stated_limits.result c.stated_limits.ensures c.start.result
    c.start.ensures.begun c.start.ensures.opens c.start.ensures.current c.start.ensures.side c.start.ensures.goes c.start.ensures.first c.start.ensures.count

pub returns-clause-refused : goal.returns-clause-refused
returns-clause-refused g c =
    not_started g.D.Disk c.args.schema.now c.args.disks c.stated_limits.result c.stated_limits.ensures c.start.result
    c.start.ensures.refused c.start.ensures.unwritten c.start.ensures.goes_err c.start.ensures.first_err c.start.ensures.count_err c.start.ensures.cause
