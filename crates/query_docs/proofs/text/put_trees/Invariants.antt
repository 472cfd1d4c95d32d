use Rattle.std.proofs.Common.{take}
use Rattle.std.specs.List.{flat_map}
use Rattle.wfs_ends.specs.Ends.{Writes}
use Rattle.doc_tree.specs.Tree.{document_text}
use Rattle.query_docs.proofs.text.put_trees.Given as goal

abbrev pub invariant-loop-tree : goal.invariant-loop-tree
invariant-loop-tree g l = Writes (record { shown = g.S.Sink.sink l.fn.sink; failed = l.fn.failed }) (flat_map (document_text l.names) (take l.tree-index l.trees)) (record { shown = g.S.Sink.sink l.sink; failed = l.failed })
