use Rattle.std.proofs.Common.{◌≡◌, drop}
use Rattle.doc_tree.specs.Attributes.{value_at}
use Rattle.doc_tree.proofs.attributes.value_at.Given as goal

abbrev pub invariant-loop-attribute : goal.invariant-loop-attribute
invariant-loop-attribute l = value_at l.space l.local (drop l.attribute-index l.attributes) ≡ value_at l.space l.local l.attributes
