use Rattle.http_session.proofs.Readings.{body_ended}
use Rattle.http_session.proofs.reader.read_body.Goals as goal

pub returns-in-Ended-clause-read : goal.returns-in-Ended-clause-read
returns-in-Ended-clause-read g c = body_ended c.args.start c.in-Ended.ending _ _ _ _ _ c.next_of.ensures c.in-Ended.ensures.read
