use Rattle.wfs_ends.proofs.Writing.{wrote_steps}
use Rattle.reply_documents.specs.Features.{end_tag}
use Rattle.reply_documents.proofs.names.put_end_tag.Goals as goal

pub returns : goal.returns
unfolding end_tag
returns g c = search wrote_steps depth 14
