use Rattle.http_session.proofs.Readings.{asked_not}
use Rattle.http_session.proofs.reader.fails_to_ask.Goals as goal

pub returns-else-is_due : goal.returns-else-is_due
returns-else-is_due g c = asked_not _ _ c.if-is_due.false
