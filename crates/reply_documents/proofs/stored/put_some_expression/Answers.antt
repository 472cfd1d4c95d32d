use Rattle.wfs_ends.proofs.Writing.{wrote_steps}
use Rattle.reply_documents.specs.StoredQueries.{some_expression_text}
use Rattle.reply_documents.proofs.stored.put_some_expression.Goals as goal

pub returns : goal.returns
unfolding some_expression_text
returns g c = search wrote_steps depth 24
