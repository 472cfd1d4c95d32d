use Rattle.wfs_ends.proofs.Writing.{wrote_steps}
use Rattle.reply_documents.specs.Transacted.{all_results_text}
use Rattle.reply_documents.proofs.transacted.put_all_results.Goals as goal

pub returns : goal.returns
unfolding all_results_text
returns g c = search wrote_steps depth 14
