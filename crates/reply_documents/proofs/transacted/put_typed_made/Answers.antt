use Rattle.wfs_ends.proofs.Writing.{wrote_steps}
use Rattle.reply_documents.specs.Transacted.{typed_made_text}
use Rattle.reply_documents.proofs.transacted.put_typed_made.Goals as goal

pub returns : goal.returns
unfolding typed_made_text
returns g c = search wrote_steps depth 14
