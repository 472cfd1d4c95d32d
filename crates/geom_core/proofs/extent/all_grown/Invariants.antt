use Rattle.std.proofs.Common.{◌≡◌, take}
use Rattle.std.specs.List.{fold}
use Rattle.geom_core.specs.Plane.{grown}
use Rattle.geom_core.proofs.extent.all_grown.Given as goal

abbrev pub invariant-loop-p : goal.invariant-loop-p
invariant-loop-p l = l.bounds ≡ fold grown l.fn.bounds (take l.p-index l.positions)
