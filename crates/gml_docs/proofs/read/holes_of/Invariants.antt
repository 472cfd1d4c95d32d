use Rattle.std.proofs.Common.{◌≡◌, drop, []}
use Rattle.wfs_ends.specs.Read.{each}
use Rattle.gml_docs.specs.Elements.{next_hole}
use Rattle.gml_docs.proofs.read.holes_of.Given as goal

abbrev pub invariant-loop-element : goal.invariant-loop-element
invariant-loop-element l = each (next_hole l.srs) l.found.items (drop l.element-index l.elements) ≡ each (next_hole l.srs) [] l.elements
