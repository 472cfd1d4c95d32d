use Rattle.wfs_ends.proofs.Writing.{wrote_steps}
use Rattle.reply_documents.specs.Collection.{some_members_text}
use Rattle.reply_documents.proofs.collection.put_some_members.Goals as goal

pub returns : goal.returns
unfolding some_members_text
returns g c = search wrote_steps depth 14
