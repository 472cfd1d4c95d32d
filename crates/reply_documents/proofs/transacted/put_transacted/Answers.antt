use Rattle.wfs_ends.proofs.Writing.{wrote_steps}
use Rattle.reply_documents.specs.Transacted.{transacted_body}
use Rattle.reply_documents.proofs.transacted.put_transacted.Goals as goal

pub returns : goal.returns
unfolding transacted_body
returns g c = search wrote_steps depth 14
