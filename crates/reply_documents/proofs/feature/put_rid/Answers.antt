use Rattle.wfs_ends.proofs.Writing.{wrote_steps}
use Rattle.reply_documents.specs.Features.{rid_text}
use Rattle.reply_documents.proofs.feature.put_rid.Goals as goal

pub returns : goal.returns
unfolding rid_text
returns g c = search wrote_steps depth 24
