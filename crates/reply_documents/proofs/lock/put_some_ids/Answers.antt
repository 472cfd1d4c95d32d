use Rattle.wfs_ends.proofs.Writing.{wrote_steps}
use Rattle.reply_documents.specs.Locks.{some_ids_text}
use Rattle.reply_documents.proofs.lock.put_some_ids.Goals as goal

pub returns : goal.returns
unfolding some_ids_text
returns g c = search wrote_steps depth 24
