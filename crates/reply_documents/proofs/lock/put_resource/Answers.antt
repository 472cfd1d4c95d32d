use Rattle.wfs_ends.proofs.Writing.{wrote_steps}
use Rattle.reply_documents.specs.Locks.{resource_text}
use Rattle.reply_documents.proofs.lock.put_resource.Goals as goal

pub returns : goal.returns
unfolding resource_text
returns g c = search wrote_steps depth 24
