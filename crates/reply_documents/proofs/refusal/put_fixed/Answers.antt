use Rattle.wfs_ends.proofs.Writing.{wrote_steps}
use Rattle.reply_documents.specs.Head.{answer_text}
use Rattle.reply_documents.specs.Refusals.{fixed_text, refusal_text, refusal_body}
use Rattle.reply_documents.proofs.refusal.put_fixed.Goals as goal

pub returns : goal.returns
unfolding fixed_text refusal_text refusal_body answer_text
returns g c = rw (← c.row_of-row.ensures, ← c.report_length-size.ensures) (c.finish.ensures _ _ _ (search wrote_steps depth 12))
