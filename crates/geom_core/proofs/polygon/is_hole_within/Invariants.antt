use Rattle.std.proofs.Common.{◌≡◌, true, take}
use Rattle.std.specs.List.{list_all}
use Rattle.geom_core.specs.Rings.{is_within}
use Rattle.geom_core.proofs.polygon.is_hole_within.Given as goal

abbrev pub invariant-loop-p : goal.invariant-loop-p
invariant-loop-p l = list_all (λ q. is_within q l.shell) (take l.p-index l.hole) ≡ true
