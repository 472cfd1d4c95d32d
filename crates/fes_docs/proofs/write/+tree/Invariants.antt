use Rattle.std.proofs.Common.{◌≡◌, map, take}
use Rattle.std.specs.Option.{option_copied}
use Rattle.fes_docs.specs.Written.{operator_tree}
use Rattle.fes_docs.proofs.write.+tree.Given as goal

abbrev pub invariant-part_trees-loop-part : goal.invariant-part_trees-loop-part
invariant-part_trees-loop-part l = l.found.items ≡ map (operator_tree (option_copied l.parameters) l.schema l.kind) (take l.part-index l.part-items)
