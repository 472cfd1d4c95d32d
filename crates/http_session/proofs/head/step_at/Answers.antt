use Rattle.http_session.proofs.Room.{never}
use Rattle.http_session.proofs.head.step_at.Goals as goal

pub returns-in-Err-clause-step : goal.returns-in-Err-clause-step
returns-in-Err-clause-step c = never c.parse_request.result _ c.args.bytes.now c.in-Err.field-0 c.in-Err.is c.requires.room c.requires.within c.parse_request.ensures.invalid c.parse_request.ensures.too_many
