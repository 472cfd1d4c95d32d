use Rattle.http_session.proofs.Unique.{next_unique, frames_unique}
use Rattle.http_session.proofs.reader.one_reading.Goals as goal

pub returns : goal.returns
returns c = record { frame = next_unique; frames = frames_unique }
