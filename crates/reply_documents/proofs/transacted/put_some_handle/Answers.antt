use Rattle.wfs_ends.proofs.Writing.{wrote_steps}
use Rattle.reply_documents.specs.Transacted.{some_handle_text}
use Rattle.reply_documents.proofs.transacted.put_some_handle.Goals as goal

pub returns : goal.returns
unfolding some_handle_text
returns g c = search wrote_steps depth 24
