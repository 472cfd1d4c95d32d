use Rattle.wfs_ends.proofs.Writing.{wrote_steps}
use Rattle.reply_documents.specs.Collection.{counted_text}
use Rattle.reply_documents.proofs.collection.put_counted.Goals as goal

pub returns : goal.returns
unfolding counted_text
returns g c = search wrote_steps depth 14
