use Rattle.wfs_ends.proofs.Writing.{wrote_steps}
use Rattle.reply_documents.specs.Head.{head_text}
use Rattle.reply_documents.proofs.answer.put_head.Goals as goal

pub returns : goal.returns
unfolding head_text
returns g c = search wrote_steps depth 12
