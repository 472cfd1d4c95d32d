use Rattle.std.proofs.Common.{◌≡◌, true, take}
use Rattle.std.specs.List.{list_all}
use Rattle.geom_core.specs.Shapes.{is_hole_within}
use Rattle.geom_core.proofs.polygon.are_all_within.Given as goal

abbrev pub invariant-loop-hole : goal.invariant-loop-hole
invariant-loop-hole l = list_all (is_hole_within l.shell) (take l.hole-index l.holes) ≡ true
