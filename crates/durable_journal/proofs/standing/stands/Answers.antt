use Rattle.durable_journal.proofs.Saying.{keeps_stand}
use Rattle.durable_journal.proofs.standing.stands.Goals as goal

pub returns : goal.returns
returns g c = keeps_stand g.D.Disk.images c.args.journal.now c.stands.ensures.rests c.stands.ensures.begun c.stands.ensures.side
