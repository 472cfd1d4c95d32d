use Rattle.wfs_ends.proofs.Writing.{wrote_nothing}
use Rattle.doc_tree.proofs.write.put_root.Goals as goal

pub returns-else-is_root : goal.returns-else-is_root
returns-else-is_root g c = rw c.if-is_root.false (wrote_nothing _)
