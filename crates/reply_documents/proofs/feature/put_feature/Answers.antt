use Rattle.wfs_ends.proofs.Writing.{wrote_steps}
use Rattle.reply_documents.specs.Features.{feature_text}
use Rattle.reply_documents.proofs.feature.put_feature.Goals as goal

pub returns : goal.returns
unfolding feature_text
returns g c = search wrote_steps depth 14
