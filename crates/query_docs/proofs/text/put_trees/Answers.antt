use Rattle.std.proofs.Common.{arith}
use Rattle.wfs_ends.proofs.Writing.{wrote_nothing, wrote_more}
use Rattle.doc_tree.specs.Tree.{document_text}
use Rattle.query_docs.proofs.text.put_trees.Goals as goal

pub loop-tree-preserved : goal.loop-tree-preserved
loop-tree-preserved g c = wrote_more (document_text c.args.names.now) c.args.trees.now c.loop-tree.tree-index c.tree-item.result _ _ _ (omega arith) c.tree-item.is c.loop-tree.invariant c.put_tree-failed.ensures

pub loop-tree-init : goal.loop-tree-init
loop-tree-init g c = wrote_nothing _
