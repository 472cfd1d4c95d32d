-- What every geometry is.
use Rattle.std.specs.Prelude.{List, All}
use Rattle.geom_core.specs.Plane.{Point, IsPosition, Area}
use Rattle.geom_core.specs.Shapes.{IsLine, IsRing, IsPolygon}
use Rattle.geom_core.specs.declared.geometry.Geometry.{Geometry}
use Rattle.geom_core.specs.declared.geometry.Geometry.TheVariants.{At, Along, Over}

-- a line of positions
pub record IsLineOf (ps : List Point) : Type 0 where
  pub line : IsLine ps
  pub positions : All IsPosition ps

-- a ring of positions
pub record IsRingOf (ps : List Point) : Type 0 where
  pub ring : IsRing ps
  pub positions : All IsPosition ps

-- a polygon of such rings
pub record IsAreaOf (a : Area) : Type 0 where
  pub area : IsPolygon a.shell a.holes
  pub shell : IsRingOf a.shell
  pub holes : All IsRingOf a.holes

-- what every geometry is
abbrev pub IsGeometry : Geometry → Type 0
IsGeometry (At p) = IsPosition p
IsGeometry (Along line) = IsLineOf line
IsGeometry (Over area) = IsAreaOf area
