use Rattle.wfs_ends.proofs.Writing.{wrote_steps}
use Rattle.reply_documents.specs.Features.{valued_text}
use Rattle.reply_documents.proofs.value.put_valued.Goals as goal

pub returns : goal.returns
unfolding valued_text
returns g c = search wrote_steps depth 14
