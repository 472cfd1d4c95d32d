use Rattle.fes_docs.proofs.predicates.range_tree.Goals as goal

pub returns : goal.returns
returns c = rw c.in_ok-children.ensures at c.parent.ensures
