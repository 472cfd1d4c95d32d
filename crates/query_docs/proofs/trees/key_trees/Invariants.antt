use Rattle.std.proofs.Common.{◌≡◌, map, take}
use Rattle.query_docs.specs.Texts.{key_tree}
use Rattle.query_docs.proofs.trees.key_trees.Given as goal

abbrev pub invariant-loop-key : goal.invariant-loop-key
invariant-loop-key l = l.trees.items ≡ map (key_tree l.schema l.kind) (take l.key-index l.keys)
