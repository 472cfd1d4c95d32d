use Rattle.doc_read.proofs.Documents.{one_tree}
use Rattle.doc_read.proofs.document.one_tree.Goals as goal

pub returns : goal.returns
returns c = one_tree
