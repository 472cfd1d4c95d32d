use Rattle.std.proofs.Common.{◌≡◌, map, take}
use Rattle.query_docs.specs.Texts.{query_tree}
use Rattle.query_docs.proofs.trees.query_trees.Given as goal

abbrev pub invariant-loop-query : goal.invariant-loop-query
invariant-loop-query l = l.trees.items ≡ map (query_tree l.names l.schema) (take l.query-index l.queries)
