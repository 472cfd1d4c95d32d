-- The geometry of an element, or what is wrong with it first (GML 3.2.1, OGC 07-036, 10.1.4, 10.3.1, 10.4.4 and 10.5).
--
-- Each element is judged in this order: its name; the reference system and the dimension, where they are given; its
-- children in document order, and then those that are missing; the numbers of its text; and the shape that it makes.
-- Elements that hold others hold no text of their own, so text beside children says nothing.
use Rattle.std.specs.Prelude.{ℕ, Bool, true, if◌then◌else◌, nat_lt, List, [], ◌∷◌, ◌++◌, length, codes, Result, Ok, Err}
use Rattle.std.specs.List.{list_all}
use Rattle.std.specs.Str.{bytes_eq}
use Rattle.wfs_ends.specs.Read.{◌>>=◌, each}
use Rattle.doc_tree.specs.declared.tree.Attribute.{Attribute}
use Rattle.doc_tree.specs.declared.tree.Element.{Element, out-Element}
use Rattle.doc_tree.specs.Attributes.{is_name, is_among}
use Rattle.geom_core.specs.Plane.{Point, Bounds, Area}
use Rattle.geom_core.specs.Shapes.{line_of, ring_of, polygon_of, box_of}
use Rattle.geom_core.specs.declared.geometry.Geometry.{Geometry}
use Rattle.geom_core.specs.declared.geometry.Geometry.TheVariants.{At, Along, Over}
use Rattle.gml_docs.specs.Numbers.{shaped, positions_of, position_in}
use Rattle.gml_docs.specs.declared.fault.GmlFault.{GmlFault}
use Rattle.gml_docs.specs.declared.fault.GmlFault.TheVariants.{Kind, Srs}

-- the namespace of GML 3.2
abbrev pub gml_space : List ℕ
gml_space = codes "http://www.opengis.net/gml/3.2"

-- an element of GML with this local name
unfoldable pub is_gml : List ℕ → Element → Bool
is_gml local e = is_name gml_space local (out-Element e).name

-- ---- attributes

-- The reference system is one of these, and positions have two coordinates. Other attributes are not looked at.
unfoldable pub is_fitting : List (List ℕ) → Attribute → Bool
is_fitting srs a =
    if is_name [] (codes "srsName") a.name then is_among srs a.value else
    (if is_name [] (codes "srsDimension") a.name then bytes_eq a.value (codes "2") else true)

-- the attributes of an element
unfoldable pub fitted : List (List ℕ) → Element → Result (Unit {0}) GmlFault
fitted srs e = if list_all (is_fitting srs) (out-Element e).attributes then Ok tt else Err Srs

-- an element of this name, with its attributes
unfoldable pub entered : List ℕ → List (List ℕ) → Element → Result (Unit {0}) GmlFault
entered local srs e = if is_gml local e then fitted srs e else Err Kind

-- no element stands where none is allowed
unfoldable pub no_more : List Element → Result (Unit {0}) GmlFault
no_more [] = Ok tt
no_more (e ∷ es) = Err Kind

-- ---- positions

-- an element of this name with one position: pos, lowerCorner or upperCorner
unfoldable pub position_at : List ℕ → List (List ℕ) → Element → Result Point GmlFault
position_at local srs e = do
  _ ← entered local srs e
  _ ← no_more (out-Element e).children
  position_in (out-Element e).text

-- a posList
unfoldable pub list_at : List (List ℕ) → Element → Result (List Point) GmlFault
list_at srs e = do
  _ ← entered (codes "posList") srs e
  _ ← no_more (out-Element e).children
  positions_of (out-Element e).text

unfoldable pub next_position : List (List ℕ) → List Point → Element → Result (List Point) GmlFault
next_position srs found e = position_at (codes "pos") srs e >>= λ p. Ok (found ++ p ∷ [])

-- two or more pos
unfoldable pub several : List (List ℕ) → List Element → Result (List Point) GmlFault
several srs es = each (next_position srs) [] es >>= λ ps. if nat_lt (length ps) 2 then Err Kind else Ok ps

-- the one posList, or in its place two or more pos
unfoldable pub path_of : List (List ℕ) → List Element → Result (List Point) GmlFault
path_of srs [] = Err Kind
path_of srs (e ∷ es) =
    if is_gml (codes "posList") e then (list_at srs e >>= λ ps. no_more es >>= λ _. Ok ps) else several srs (e ∷ es)

-- ---- points and lines

abbrev pub only_position : List (List ℕ) → List Element → Result Point GmlFault
only_position srs [] = Err Kind
only_position srs (e ∷ es) = position_at (codes "pos") srs e >>= λ p. no_more es >>= λ _. Ok p

-- a Point
unfoldable pub point_at : List (List ℕ) → Element → Result Geometry GmlFault
point_at srs e = do
  _ ← fitted srs e
  p ← only_position srs (out-Element e).children
  Ok (At p)

-- a LineString
unfoldable pub line_at : List (List ℕ) → Element → Result Geometry GmlFault
line_at srs e = do
  _ ← fitted srs e
  ps ← path_of srs (out-Element e).children
  line ← shaped (line_of ps)
  Ok (Along line)

-- ---- polygons

-- a LinearRing
unfoldable pub ring_at : List (List ℕ) → Element → Result (List Point) GmlFault
ring_at srs e = do
  _ ← entered (codes "LinearRing") srs e
  ps ← path_of srs (out-Element e).children
  shaped (ring_of ps)

abbrev pub only_ring : List (List ℕ) → List Element → Result (List Point) GmlFault
only_ring srs [] = Err Kind
only_ring srs (e ∷ es) = ring_at srs e >>= λ ring. no_more es >>= λ _. Ok ring

-- an element of this name with one ring: exterior or interior
unfoldable pub side_at : List ℕ → List (List ℕ) → Element → Result (List Point) GmlFault
side_at local srs e = do
  _ ← entered local srs e
  only_ring srs (out-Element e).children

unfoldable pub next_hole : List (List ℕ) → List (List Point) → Element → Result (List (List Point)) GmlFault
next_hole srs found e = side_at (codes "interior") srs e >>= λ hole. Ok (found ++ hole ∷ [])

-- the exterior, and then any number of interiors
unfoldable pub area_of : List (List ℕ) → List Element → Result Area GmlFault
area_of srs [] = Err Kind
area_of srs (e ∷ es) = do
  shell ← side_at (codes "exterior") srs e
  holes ← each (next_hole srs) [] es
  shaped (polygon_of shell holes)

-- a Polygon
unfoldable pub polygon_at : List (List ℕ) → Element → Result Geometry GmlFault
polygon_at srs e = do
  _ ← fitted srs e
  area ← area_of srs (out-Element e).children
  Ok (Over area)

-- ---- the whole

-- the geometry of an element, where the reference system has these names
unfoldable pub geometry_of : List (List ℕ) → Element → Result Geometry GmlFault
geometry_of srs e =
    if is_gml (codes "Point") e then point_at srs e else
    (if is_gml (codes "LineString") e then line_at srs e else
    (if is_gml (codes "Polygon") e then polygon_at srs e else Err Kind))

unfoldable pub lower_corner : List (List ℕ) → Element → Result Point GmlFault
lower_corner srs e = position_at (codes "lowerCorner") srs e

unfoldable pub upper_corner : List (List ℕ) → Element → Result Point GmlFault
upper_corner srs e = position_at (codes "upperCorner") srs e

-- the upper corner, and the box from the lower one to it
abbrev pub box_above : List (List ℕ) → Point → List Element → Result Bounds GmlFault
box_above srs low [] = Err Kind
box_above srs low (e ∷ es) = upper_corner srs e >>= λ high. no_more es >>= λ _. shaped (box_of low high)

-- the lower corner, and then the upper one
abbrev pub corners_of : List (List ℕ) → List Element → Result Bounds GmlFault
corners_of srs [] = Err Kind
corners_of srs (e ∷ es) = lower_corner srs e >>= λ low. box_above srs low es

-- the box of an Envelope
unfoldable pub envelope_of : List (List ℕ) → Element → Result Bounds GmlFault
envelope_of srs e = do
  _ ← entered (codes "Envelope") srs e
  corners_of srs (out-Element e).children
