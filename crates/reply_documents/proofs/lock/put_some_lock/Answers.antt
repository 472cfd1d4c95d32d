use Rattle.wfs_ends.proofs.Writing.{wrote_steps}
use Rattle.reply_documents.specs.Locks.{some_lock_text}
use Rattle.reply_documents.proofs.lock.put_some_lock.Goals as goal

pub returns : goal.returns
unfolding some_lock_text
returns g c = search wrote_steps depth 24
