use Rattle.wfs_ends.proofs.Writing.{wrote_steps}
use Rattle.reply_documents.specs.StoredQueries.{type_between}
use Rattle.reply_documents.proofs.stored_types.put_type.Goals as goal

pub returns : goal.returns
unfolding type_between
returns g c = search wrote_steps depth 24
