use Rattle.fes_docs.specs.Written.{like_tree}
use Rattle.fes_docs.proofs.predicates.like_tree.Goals as goal

pub returns : goal.returns
unfolding like_tree
returns c = rw (c.in_ok-named.ensures, c.in_ok-literal.ensures, c.in_ok-text.ensures) at c.pattern_tree.ensures
