use Rattle.wfs_ends.proofs.Writing.{wrote_steps}
use Rattle.reply_documents.specs.Collection.{some_link_text}
use Rattle.reply_documents.proofs.collection.put_some_link.Goals as goal

pub returns : goal.returns
unfolding some_link_text
returns g c = search wrote_steps depth 24
