use Rattle.wfs_ends.proofs.Writing.{wrote_steps}
use Rattle.reply_documents.specs.Features.{empty_tag}
use Rattle.reply_documents.proofs.names.put_empty_tag.Goals as goal

pub returns : goal.returns
unfolding empty_tag
returns g c = search wrote_steps depth 14
