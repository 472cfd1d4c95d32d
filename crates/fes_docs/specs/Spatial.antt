-- BBOX, Intersects and Disjoint (FES 2.0, OGC 09-026r2, section 7.8).
use Rattle.std.specs.Prelude.{ℕ, if◌then◌else◌, List, [], codes, Option, Some, None, Result, Ok, Err}
use Rattle.wfs_ends.specs.Read.{◌>>=◌}
use Rattle.doc_tree.specs.declared.tree.Element.{Element, out-Element}
use Rattle.geom_core.specs.Plane.{Bounds}
use Rattle.geom_core.specs.declared.geometry.Geometry.{Geometry}
use Rattle.gml_docs.specs.Elements.{geometry_of, envelope_of}
use Rattle.gml_docs.specs.declared.fault.GmlFault.{GmlFault}
use Rattle.feature_values.specs.declared.schema.FeatureType.{FeatureType}
use Rattle.fes_filter.specs.Check.{is_shape}
use Rattle.fes_filter.specs.declared.filter.Filter.{Filter}
use Rattle.fes_filter.specs.declared.filter.Filter.TheVariants.{InBox}
use Rattle.fes_docs.specs.Names.{is_fes, no_others, named, no_more, first_in, geometry_fault}
use Rattle.fes_docs.specs.Sides.{property_at, suited}
use Rattle.fes_docs.specs.declared.fault.FilterDocFault.{FilterDocFault}

-- what the reader of geometries gives
abbrev pub drawn : {A : Type 0} → Result A GmlFault → Result A FilterDocFault
drawn (Ok shape) = Ok shape
drawn (Err fault) = Err (geometry_fault fault)

-- a property whose values are geometries
unfoldable pub shape_at : Option FeatureType → Element → Result ℕ FilterDocFault
shape_at of_type e = do
  p ← property_at of_type e
  _ ← suited (is_shape p.1) e
  Ok p.0

-- ---- BBOX

-- one Envelope, behind which nothing stands
unfoldable pub envelope_alone : List (List ℕ) → Element → List Element → Result Bounds FilterDocFault
envelope_alone srs whole es = do
  f ← first_in whole es
  area ← drawn (envelope_of srs f.0)
  _ ← no_more f.1
  Ok area

-- a property, and behind it an Envelope
abbrev pub box_behind : List (List ℕ) → Option FeatureType → Element → Element → List Element → Result Filter FilterDocFault
box_behind srs of_type whole reference es = do
  property ← shape_at of_type reference
  area ← envelope_alone srs whole es
  Ok (InBox (Some property) area)

-- an Envelope without a property
abbrev pub box_alone : List (List ℕ) → Element → List Element → Result Filter FilterDocFault
box_alone srs whole es = do
  area ← envelope_alone srs whole es
  Ok (InBox None area)

-- a property, which may be left out, and then an Envelope
unfoldable pub box_of : List (List ℕ) → Option FeatureType → Element → Result Filter FilterDocFault
box_of srs of_type e = do
  _ ← no_others [] e
  f ← first_in e (out-Element e).children
  if is_fes (codes "ValueReference") f.0 then box_behind srs of_type e f.0 f.1 else box_alone srs e (out-Element e).children

-- ---- Intersects and Disjoint

-- a property, and then a geometry
unfoldable pub operands_of : List (List ℕ) → Option FeatureType → Element → Result (ℕ × Geometry) FilterDocFault
operands_of srs of_type e = do
  _ ← no_others [] e
  f ← first_in e (out-Element e).children
  _ ← named (codes "ValueReference") f.0
  property ← shape_at of_type f.0
  g ← first_in e f.1
  shape ← drawn (geometry_of srs g.0)
  _ ← no_more g.1
  Ok (property, shape)
