use Rattle.std.proofs.Common.{◌≡◌, map, take}
use Rattle.std.specs.Option.{option_copied}
use Rattle.fes_docs.specs.Written.{id_tree}
use Rattle.fes_docs.proofs.write.id_trees.Given as goal

abbrev pub invariant-loop-id : goal.invariant-loop-id
invariant-loop-id l = l.found.items ≡ map (id_tree (option_copied l.parameters) l.schema) (take l.id-index l.ids)
