use Rattle.wfs_ends.proofs.Writing.{wrote_steps}
use Rattle.reply_documents.specs.Collection.{some_values_text}
use Rattle.reply_documents.proofs.values.put_some_values.Goals as goal

pub returns : goal.returns
unfolding some_values_text
returns g c = search wrote_steps depth 24
