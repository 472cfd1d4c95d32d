use Rattle.wfsd_commands.proofs.Talks.{held_lent, source_stays, sink_stays}
use Rattle.wfsd_commands.proofs.conversation.converse_over.Goals as goal

pub returns-clause-held : goal.returns-clause-held
returns-clause-held g c = held_lent _ _ _ _ _ _ _ _ _ _ _ _ c.solo_session.ensures.held c.solo_session.ensures.tallies

pub returns-clause-source : goal.returns-clause-source
returns-clause-source g c = source_stays _ _ _ _ _ _ c.solo_session.ensures.held.place

pub returns-clause-sink : goal.returns-clause-sink
returns-clause-sink g c = sink_stays _ _ _ _ _ _ c.solo_session.ensures.held.place
