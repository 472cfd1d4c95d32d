use Rattle.wfs_ends.proofs.Writing.{wrote_steps}
use Rattle.reply_documents.specs.Transacted.{total_text}
use Rattle.reply_documents.proofs.transacted.put_total.Goals as goal

pub returns : goal.returns
unfolding total_text
returns g c = search wrote_steps depth 14
