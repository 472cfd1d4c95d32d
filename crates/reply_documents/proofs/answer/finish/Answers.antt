use Rattle.wfs_ends.proofs.Writing.{failed_is_front, not_failed_is_all}
use Rattle.reply_documents.proofs.answer.finish.Goals as goal

pub returns-then-failed : goal.returns-then-failed
returns-then-failed c = λ first last text w. failed_is_front first last _ text w c.if-failed.true

pub returns-else-failed : goal.returns-else-failed
returns-else-failed c = λ first last text w. not_failed_is_all first last _ text w c.if-failed.false
