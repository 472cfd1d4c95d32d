use Rattle.std.proofs.Common.{◌≡◌, ◌∷◌, map, take}
use Rattle.std.specs.Prelude.{codes}
use Rattle.gml_docs.specs.Written.{side_tree, hole_tree}
use Rattle.gml_docs.proofs.tree.area_trees.Given as goal

abbrev pub invariant-loop-hole : goal.invariant-loop-hole
invariant-loop-hole l = l.found.items ≡ side_tree (codes "exterior") l.area.shell ∷ map hole_tree (take l.hole-index l.area.holes)
