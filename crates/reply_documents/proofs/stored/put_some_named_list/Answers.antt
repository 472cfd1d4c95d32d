use Rattle.wfs_ends.proofs.Writing.{wrote_steps}
use Rattle.reply_documents.specs.StoredQueries.{some_named_list}
use Rattle.reply_documents.proofs.stored.put_some_named_list.Goals as goal

pub returns : goal.returns
unfolding some_named_list
returns g c = search wrote_steps depth 24
