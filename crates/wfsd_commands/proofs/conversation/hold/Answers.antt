use Rattle.wfsd_commands.proofs.Talks.{left_by}
use Rattle.wfsd_commands.proofs.conversation.hold.Goals as goal

pub returns-clause-held : goal.returns-clause-held
returns-clause-held g c = record {
  end = c.converse-end.result;
  store = c.converse-end.new.store;
  leaves = rw c.status_of.ensures at c.leave_store.ensures;
  session = c.converse-end.ensures.held.session;
  becomes = c.converse-end.ensures.becomes;
  tallies = c.converse-end.ensures.held.tallies;
  goes = c.converse-end.ensures.goes;
}

pub returns-clause-left : goal.returns-clause-left
returns-clause-left g c = left_by g.D.Disk c.args.store c.converse-end.new.store _ _ c.requires.entries c.requires.rests c.converse-end.ensures.becomes c.stands.ensures c.leave_store.ensures
