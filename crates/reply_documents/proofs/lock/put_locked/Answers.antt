use Rattle.wfs_ends.proofs.Writing.{wrote_steps}
use Rattle.reply_documents.specs.Locks.{locked_body}
use Rattle.reply_documents.proofs.lock.put_locked.Goals as goal

pub returns : goal.returns
unfolding locked_body
returns g c = search wrote_steps depth 24
