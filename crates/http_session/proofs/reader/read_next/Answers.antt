use Rattle.http_session.proofs.Readings.{reads_moved, head_ended, head_failed}
use Rattle.http_session.proofs.reader.read_next.Goals as goal

pub returns-in-Head-clause-reads : goal.returns-in-Head-clause-reads
returns-in-Head-clause-reads g c = reads_moved _ _ _ _ _ _ _ c.read_head.ensures.moved (c.in-Head.ensures.calm (λ e. absurd cc)) c.read_message.ensures.reads

pub returns-in-Ended-clause-reads : goal.returns-in-Ended-clause-reads
returns-in-Ended-clause-reads g c = reads_moved _ _ _ _ _ _ _ c.read_head.ensures.moved (c.in-Ended.ensures.calm (λ e. absurd cc)) (head_ended c.in-Ended.ending _ _ _ c.next_of.ensures c.in-Ended.ensures.read)

pub returns-in-Fault-clause-reads : goal.returns-in-Fault-clause-reads
returns-in-Fault-clause-reads g c = head_failed _ _ _ _ c.read_head.ensures.moved c.in-Fault.ensures.read.0 c.in-Fault.ensures.read.1 c.in-Fault.ensures.read.2
