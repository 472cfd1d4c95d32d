use Rattle.wfs_ends.proofs.Writing.{wrote_steps}
use Rattle.reply_documents.specs.StoredQueries.{whole_text}
use Rattle.reply_documents.proofs.stored.put_whole.Goals as goal

pub returns : goal.returns
unfolding whole_text
returns g c = search wrote_steps depth 24
