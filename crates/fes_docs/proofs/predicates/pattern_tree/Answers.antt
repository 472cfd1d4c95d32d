use Rattle.fes_docs.proofs.predicates.pattern_tree.Goals as goal

pub returns : goal.returns
returns c = rw (c.in_ok-attributes.ensures, c.in_ok-children.ensures, c.in_ok-text.ensures) at c.element.ensures
