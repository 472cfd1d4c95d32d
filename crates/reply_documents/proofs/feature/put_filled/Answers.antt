use Rattle.wfs_ends.proofs.Writing.{wrote_steps}
use Rattle.reply_documents.specs.Features.{filled_text}
use Rattle.reply_documents.proofs.feature.put_filled.Goals as goal

pub returns : goal.returns
unfolding filled_text
returns g c = search wrote_steps depth 14
