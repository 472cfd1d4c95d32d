use Rattle.wfs_ends.proofs.Writing.{wrote_steps}
use Rattle.reply_documents.specs.StoredQueries.{parameter_text}
use Rattle.reply_documents.proofs.stored.put_parameter.Goals as goal

pub returns : goal.returns
unfolding parameter_text
returns g c = search wrote_steps depth 24
