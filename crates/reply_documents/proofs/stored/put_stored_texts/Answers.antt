use Rattle.wfs_ends.proofs.Writing.{wrote_steps}
use Rattle.reply_documents.specs.StoredQueries.{stored_texts_body}
use Rattle.reply_documents.proofs.stored.put_stored_texts.Goals as goal

pub returns : goal.returns
unfolding stored_texts_body
returns g c = search wrote_steps depth 24
