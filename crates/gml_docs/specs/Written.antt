-- The element that stands for a geometry in a reply.
use Rattle.std.specs.Prelude.{ℕ, List, [], ◌∷◌, ◌++◌, map, codes}
use Rattle.std.specs.List.{flat_map}
use Rattle.std.specs.Fmt.{signed_decimal}
use Rattle.wfs_ends.specs.Ends.{joined}
use Rattle.doc_tree.specs.declared.tree.QName.{QName}
use Rattle.doc_tree.specs.declared.tree.Attribute.{Attribute}
use Rattle.doc_tree.specs.declared.tree.Element.{Element}
use Rattle.doc_tree.specs.declared.tree.Element.TheViews.{roll-Element}
use Rattle.geom_core.specs.Plane.{Point, Area}
use Rattle.geom_core.specs.declared.geometry.Geometry.{Geometry}
use Rattle.geom_core.specs.declared.geometry.Geometry.TheVariants.{At, Along, Over}
use Rattle.gml_docs.specs.Elements.{gml_space}

-- a position: its coordinates in decimal, without a sign + and without leading zeros
unfoldable pub position_text : Point → List ℕ
position_text p = joined (signed_decimal p.x ∷ codes " " ∷ signed_decimal p.y ∷ [])

-- a position behind another
unfoldable pub next_text : Point → List ℕ
next_text p = codes " " ++ position_text p

-- positions, with spaces between them
unfoldable pub positions_text : List Point → List ℕ
positions_text [] = []
positions_text (p ∷ ps) = position_text p ++ flat_map next_text ps

unfoldable pub gml_name : List ℕ → QName
gml_name local = record { space = gml_space; local = local }

unfoldable pub plain_name : List ℕ → QName
plain_name local = record { space = []; local = local }

-- an element of GML with this local name
unfoldable pub element : List ℕ → List Attribute → List Element → List ℕ → Element
element local attributes children text =
    roll-Element (record { name = gml_name local; attributes = attributes; children = children; text = text })

-- one that has a text alone, and one that has children alone
unfoldable pub leaf : List ℕ → List ℕ → Element
leaf local text = element local [] [] text

unfoldable pub parent : List ℕ → List Attribute → List Element → Element
parent local attributes children = element local attributes children []

-- gml:id, and then srsName
unfoldable pub attributes_of : List ℕ → List ℕ → List Attribute
attributes_of id srs = record { name = gml_name (codes "id"); value = id } ∷ record { name = plain_name (codes "srsName"); value = srs } ∷ []

unfoldable pub list_tree : List Point → Element
list_tree ps = leaf (codes "posList") (positions_text ps)

unfoldable pub side_tree : List ℕ → List Point → Element
side_tree local ring = parent local [] (parent (codes "LinearRing") [] (list_tree ring ∷ []) ∷ [])

unfoldable pub hole_tree : List Point → Element
hole_tree hole = side_tree (codes "interior") hole

-- the exterior, and then the interiors
unfoldable pub area_trees : Area → List Element
area_trees area = side_tree (codes "exterior") area.shell ∷ map hole_tree area.holes

-- the element of a geometry with this identifier, in this reference system
unfoldable pub tree_of : Geometry → List ℕ → List ℕ → Element
tree_of (At p) id srs = parent (codes "Point") (attributes_of id srs) (leaf (codes "pos") (position_text p) ∷ [])
tree_of (Along line) id srs = parent (codes "LineString") (attributes_of id srs) (list_tree line ∷ [])
tree_of (Over area) id srs = parent (codes "Polygon") (attributes_of id srs) (area_trees area)
