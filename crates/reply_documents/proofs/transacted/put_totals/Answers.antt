use Rattle.wfs_ends.proofs.Writing.{wrote_steps}
use Rattle.reply_documents.specs.Transacted.{totals_text}
use Rattle.reply_documents.proofs.transacted.put_totals.Goals as goal

pub returns : goal.returns
unfolding totals_text
returns g c = rw (← c.count.ensures, ← c.count-2.ensures, ← c.count-3.ensures) (search wrote_steps depth 14)
