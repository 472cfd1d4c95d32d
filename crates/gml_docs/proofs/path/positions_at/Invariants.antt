use Rattle.std.proofs.Common.{◌≡◌, drop, []}
use Rattle.wfs_ends.specs.Read.{each}
use Rattle.gml_docs.specs.Elements.{next_position}
use Rattle.gml_docs.proofs.path.positions_at.Given as goal

abbrev pub invariant-loop-element : goal.invariant-loop-element
invariant-loop-element l = each (next_position l.srs) l.found.items (drop l.element-index l.elements) ≡ each (next_position l.srs) [] l.elements
