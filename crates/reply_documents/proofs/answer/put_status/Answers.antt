use Rattle.wfs_ends.proofs.Writing.{wrote_steps}
use Rattle.reply_documents.specs.Head.{status_line}
use Rattle.reply_documents.proofs.answer.put_status.Goals as goal

pub returns : goal.returns
unfolding status_line
returns g c = rw (← c.phrase_of.ensures, ← c.number_of.ensures) (search wrote_steps depth 12)
