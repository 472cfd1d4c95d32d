use Rattle.geom_core.proofs.Areas.{HolesPassed}
use Rattle.geom_core.proofs.geometry.place_in_holes.Given as goal

abbrev pub invariant-loop-hole : goal.invariant-loop-hole
invariant-loop-hole l = HolesPassed l.p l.holes l.hole-index l.place
