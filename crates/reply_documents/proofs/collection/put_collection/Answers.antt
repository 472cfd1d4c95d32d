use Rattle.wfs_ends.proofs.Writing.{wrote_steps}
use Rattle.reply_documents.specs.Collection.{collection_body}
use Rattle.reply_documents.proofs.collection.put_collection.Goals as goal

pub returns : goal.returns
unfolding collection_body
returns g c = rw (← c.count.ensures) (search wrote_steps depth 24)
