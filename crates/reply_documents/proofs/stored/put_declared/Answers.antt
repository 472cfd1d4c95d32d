use Rattle.wfs_ends.proofs.Writing.{wrote_steps}
use Rattle.reply_documents.specs.StoredQueries.{declared_text}
use Rattle.reply_documents.proofs.stored.put_declared.Goals as goal

pub returns : goal.returns
unfolding declared_text
returns g c = search wrote_steps depth 24
