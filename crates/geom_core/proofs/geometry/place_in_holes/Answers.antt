use Rattle.geom_core.proofs.Areas.{HolesPassed-start, HolesPassed-within, HolesPassed-outside, holes_on}
use Rattle.geom_core.proofs.geometry.place_in_holes.Goals as goal
use Rattle.geom_core.proofs.geometry.place_in_holes.Goals.{in-Within, in-Outside}

pub loop-hole-init : goal.loop-hole-init
loop-hole-init c = HolesPassed-start _ _

pub returns-in-On : goal.returns-in-On
returns-in-On c = holes_on _ _ _ _ c.loop-hole-test.true c.hole-item.is c.in-On.ensures

pub loop-hole-preserved : goal.loop-hole-preserved
loop-hole-preserved c = elim c.match-place.branch [
  | in-Within w ↦ rw w.place-is (HolesPassed-within _ _ _ _ _ c.loop-hole-test.true c.hole-item.is c.loop-hole.invariant w.in-Within.ensures)
  | in-Outside w ↦ rw w.place-is (HolesPassed-outside _ _ _ _ _ c.loop-hole-test.true c.hole-item.is c.loop-hole.invariant w.in-Outside.ensures)
]
