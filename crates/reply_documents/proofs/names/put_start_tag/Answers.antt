use Rattle.wfs_ends.proofs.Writing.{wrote_steps}
use Rattle.reply_documents.specs.Features.{start_tag}
use Rattle.reply_documents.proofs.names.put_start_tag.Goals as goal

pub returns : goal.returns
unfolding start_tag
returns g c = search wrote_steps depth 14
