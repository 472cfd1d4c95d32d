use Rattle.wfs_ends.proofs.Writing.{wrote_steps}
use Rattle.reply_documents.specs.Collection.{valued_member_text}
use Rattle.reply_documents.proofs.values.put_valued_member.Goals as goal

pub returns : goal.returns
unfolding valued_member_text
returns g c = search wrote_steps depth 24
