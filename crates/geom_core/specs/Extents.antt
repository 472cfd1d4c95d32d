-- The positions of a geometry, and the least box that holds them.
use Rattle.std.specs.Prelude.{◌≡◌, Bool, false, List, [], ◌∷◌, ◌++◌, All, Any, flat_map}
use Rattle.geom_core.specs.Plane.{Point, Bounds, Area, box_at, least_box, IsInBox}
use Rattle.geom_core.specs.Rings.{is_in_area}
use Rattle.geom_core.specs.declared.geometry.Geometry.{Geometry}
use Rattle.geom_core.specs.declared.geometry.Geometry.TheVariants.{At, Along, Over}

abbrev pub positions_of_area : Area → List Point
positions_of_area a = a.shell ++ flat_map (λ hole. hole) a.holes

abbrev pub positions_of : Geometry → List Point
positions_of (At p) = p ∷ []
positions_of (Along line) = line
positions_of (Over area) = positions_of_area area

-- The least box of a geometry. A polygon's holes lie within its shell, so the shell's is that of the whole.
abbrev pub bounds_of : Geometry → Bounds
bounds_of (At p) = box_at p
bounds_of (Along line) = least_box line
bounds_of (Over area) = least_box area.shell

-- A box is the least that holds these points: each lies in it, and each of its sides is touched by one.
pub record IsLeastBox (b : Bounds) (ps : List Point) : Type 0 where
  pub holds : All (λ p. IsInBox p b) ps
  pub left : Any (λ p. p.x ≡ b.low.x) ps
  pub right : Any (λ p. p.x ≡ b.high.x) ps
  pub bottom : Any (λ p. p.y ≡ b.low.y) ps
  pub top : Any (λ p. p.y ≡ b.high.y) ps

-- A point lies in the area of a geometry. Points and lines have none.
abbrev pub is_covered : Point → Geometry → Bool
is_covered p (At q) = false
is_covered p (Along line) = false
is_covered p (Over area) = is_in_area p area
