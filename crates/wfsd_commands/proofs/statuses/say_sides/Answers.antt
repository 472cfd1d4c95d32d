use Rattle.wfsd_commands.proofs.Said.{ended}
use Rattle.wfsd_commands.proofs.statuses.say_sides.Goals as goal

pub returns : goal.returns
returns g c = ended _ _ _ _ _ c.put_sides.ensures c.line_status.ensures
