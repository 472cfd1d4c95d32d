use Rattle.fes_docs.specs.Written.{between_tree}
use Rattle.fes_docs.proofs.predicates.between_tree.Goals as goal

pub returns : goal.returns
unfolding between_tree
returns c = rw (c.in_ok-named.ensures, c.in_ok-lower.ensures, c.in_ok-upper.ensures) at c.range_tree.ensures
