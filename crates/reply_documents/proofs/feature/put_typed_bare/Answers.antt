use Rattle.wfs_ends.proofs.Writing.{wrote_steps}
use Rattle.reply_documents.specs.Features.{bare_text}
use Rattle.reply_documents.proofs.feature.put_typed_bare.Goals as goal

pub returns : goal.returns
unfolding bare_text
returns g c = search wrote_steps depth 24
