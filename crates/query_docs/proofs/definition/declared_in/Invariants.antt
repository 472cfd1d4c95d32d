use Rattle.std.proofs.Common.{◌≡◌, take}
use Rattle.query_docs.specs.Definitions.{declared_in}
use Rattle.query_docs.proofs.definition.declared_in.Given as goal

abbrev pub invariant-loop-element : goal.invariant-loop-element
invariant-loop-element l = l.names.items ≡ declared_in (take l.element-index l.elements)
