use Rattle.std.proofs.Common.{◌≡◌, drop, map, []}
use Rattle.std.specs.Option.{option_copied}
use Rattle.wfs_ends.specs.Read.{each}
use Rattle.fes_docs.specs.Filters.{next_operator, operator_of}
use Rattle.fes_docs.proofs.read.+operator.Given as goal

-- The rest of the operators, behind those that were read.
abbrev pub invariant-operators_of-loop-element : goal.invariant-operators_of-loop-element
invariant-operators_of-loop-element l = each next_operator (l.found.items, l.left) (map (operator_of (option_copied l.parameters) l.schema l.kind) (drop l.element-index l.element-items)) ≡ each next_operator ([], l.initial.left) (map (operator_of (option_copied l.parameters) l.schema l.kind) l.element-items)
