-- Boxes stay upright as they grow, and the least box of a list is read from its first element on.
use Rattle.std.proofs.Common.{◌≡◌, ◌<◌, ◌-◌, length, take, drop, get_or, arith, List, [], ◌∷◌, refl}
use Rattle.std.proofs.lemmas.Grind.{common_steps}
use Rattle.std.proofs.lemmas.Int.{ints, clamps}
use Rattle.std.specs.List.{fold}
use Rattle.geom_core.specs.Plane.{Point, Bounds, IsUpright, box_at, least_box, grown, box_between}

pub IsUpright-grown : (b : Bounds) (p : Point) → IsUpright b → IsUpright (grown b p)
IsUpright-grown b p up = record { x = omega (arith, ints, clamps); y = omega (arith, ints, clamps) }

-- All of a list but its first, as a slice of it.
pub take_rest : (p : Point) (ps : List Point) → take (length (p ∷ ps) - 1) (drop 1 (p ∷ ps)) ≡ ps
take_rest p ps = grind (arith, common_steps)

pub least_box-read : (ps : List Point) (first : Point) (start b : Bounds) → first ≡ get_or ps 0 first → 0 < length ps →
    start ≡ box_at first → b ≡ fold grown start (take (length ps - 1) (drop 1 ps)) → b ≡ least_box ps
least_box-read [] first start b e h f g = absurd (omega arith)
least_box-read (p ∷ ps) first start b e h f g = rw (g, take_rest p ps, f, e) refl

pub IsUpright-between : (a b : Point) → IsUpright (box_between a b)
IsUpright-between a b = record { x = omega (arith, ints, clamps); y = omega (arith, ints, clamps) }
