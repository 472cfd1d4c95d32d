use Rattle.wfs_ends.proofs.Writing.{wrote_steps}
use Rattle.reply_documents.specs.StoredQueries.{some_title_text}
use Rattle.reply_documents.proofs.stored.put_some_title.Goals as goal

pub returns : goal.returns
unfolding some_title_text
returns g c = search wrote_steps depth 24
