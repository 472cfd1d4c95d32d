use Rattle.wfs_ends.proofs.Writing.{wrote_steps}
use Rattle.reply_documents.specs.Head.{answer_text}
use Rattle.reply_documents.specs.ReplyText.{reply_text}
use Rattle.reply_documents.proofs.reply.put_reply.Goals as goal

pub returns : goal.returns
unfolding reply_text answer_text
returns g c = rw (← c.reply_length-size.ensures, ← c.status_of.ensures, ← c.media_of.ensures) (c.finish.ensures _ _ _ (search wrote_steps depth 12))
