use Rattle.wfsd_commands.proofs.Restarts.{all_again}
use Rattle.wfsd_commands.proofs.restart.start_again.Goals as goal

pub returns-clause-again : goal.returns-clause-again
returns-clause-again g c = all_again g.D.Disk c.args.schema.now c.args.store c.close.result c.start_store.result g.met.D.Disk.reads c.requires.schema c.close.ensures c.stands.ensures c.start_store.ensures.started

pub returns-clause-started : goal.returns-clause-started
returns-clause-started g c = rw c.close.ensures at c.start_store.ensures.started

pub returns-clause-refused : goal.returns-clause-refused
returns-clause-refused g c = rw c.close.ensures at c.start_store.ensures.refused
