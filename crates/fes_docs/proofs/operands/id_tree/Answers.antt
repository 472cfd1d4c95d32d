use Rattle.fes_docs.specs.Written.{id_tree}
use Rattle.fes_docs.proofs.operands.id_tree.Goals as goal

pub returns : goal.returns
unfolding id_tree
returns c = rw (c.in_ok-attributes.ensures, c.in_ok-attribute.ensures, c.in_ok-value.ensures, c.in_ok-text.ensures, c.new.ensures.items) at c.element.ensures
