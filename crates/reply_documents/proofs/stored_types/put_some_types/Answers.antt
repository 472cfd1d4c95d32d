use Rattle.wfs_ends.proofs.Writing.{wrote_both}
use Rattle.reply_documents.proofs.stored_types.put_some_types.Goals as goal

pub returns : goal.returns
returns g c = wrote_both _ _ _ _ _ c.put_type-failed.ensures c.put_other_types.ensures
