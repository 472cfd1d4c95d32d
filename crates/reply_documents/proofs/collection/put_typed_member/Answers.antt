use Rattle.wfs_ends.proofs.Writing.{wrote_steps}
use Rattle.reply_documents.specs.Collection.{typed_member_text}
use Rattle.reply_documents.proofs.collection.put_typed_member.Goals as goal

pub returns : goal.returns
unfolding typed_member_text
returns g c = search wrote_steps depth 14
