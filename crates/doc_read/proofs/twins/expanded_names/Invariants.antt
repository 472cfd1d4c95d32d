use Rattle.std.proofs.Common.{◌≡◌, ◌++◌, map, drop}
use Rattle.doc_read.specs.Scope.{texts, expanded_names}
use Rattle.doc_read.proofs.twins.expanded_names.Given as goal

abbrev pub invariant-loop-attribute : goal.invariant-loop-attribute
invariant-loop-attribute l = map texts l.found.items ++ expanded_names (drop l.attribute-index l.attributes) ≡ expanded_names l.attributes
