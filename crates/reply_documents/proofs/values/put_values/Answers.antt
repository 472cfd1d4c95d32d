use Rattle.wfs_ends.proofs.Writing.{wrote_steps}
use Rattle.reply_documents.specs.Collection.{values_body}
use Rattle.reply_documents.proofs.values.put_values.Goals as goal

pub returns : goal.returns
unfolding values_body
returns g c = rw (← c.count.ensures) (search wrote_steps depth 24)
