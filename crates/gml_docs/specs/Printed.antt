-- The text of a geometry in a reply: the canonical text of its element, as an element within a document.
use Rattle.std.specs.Prelude.{ℕ, true, false, List, [], ◌∷◌, ◌≡◌, codes, decimal, Some, None}
use Rattle.std.specs.List.{flat_map}
use Rattle.wfs_ends.specs.Ends.{joined}
use Rattle.doc_tree.specs.Escape.{escaped}
use Rattle.doc_tree.specs.Tree.{prefix_of, element_text}
use Rattle.doc_tree.specs.declared.tree.Prefixes.{Prefixes}
use Rattle.geom_core.specs.Plane.{Point, Area}
use Rattle.geom_core.specs.declared.geometry.Geometry.{Geometry}
use Rattle.gml_docs.specs.declared.print.GeometryId as code
use Rattle.gml_docs.specs.Elements.{gml_space}
use Rattle.gml_docs.specs.Written.{position_text, positions_text, tree_of}

-- the identifier of a geometry: the name of the feature's type, the feature's number and the property's name, with dots
-- between them
unfoldable pub id_text : List ℕ → ℕ → List ℕ → List ℕ
id_text kind number property = joined (kind ∷ codes "." ∷ decimal number ∷ codes "." ∷ property ∷ [])

abbrev pub id_of : code.GeometryId → List ℕ
id_of id = id_text id.kind.now id.number id.property.now

-- the prefix of GML, and of no other namespace
unfoldable pub gml_prefixes : Prefixes
gml_prefixes = record { pairs = (codes "gml", gml_space) ∷ [] }

-- the text of the element of a geometry, which is not the root
unfoldable pub geometry_text : Geometry → List ℕ → List ℕ → List ℕ
geometry_text g id srs = element_text gml_prefixes false (tree_of g id srs)

-- ---- in every document with this prefix

-- GML's names have the prefix gml, and those in no namespace have none
pub record WritesGml (names : Prefixes) : Type 0 where
  pub gml : prefix_of names.pairs gml_space ≡ Some (codes "gml")
  pub plain : prefix_of names.pairs [] ≡ None

-- Within such a document the element of a geometry has this text, whatever other prefixes there are.
abbrev pub StandsAlike : Type 0
StandsAlike = (names : Prefixes) (g : Geometry) (id srs : List ℕ) → WritesGml names → element_text names false (tree_of g id srs) ≡ geometry_text g id srs

-- ---- its pieces

-- a start tag with the attributes
unfoldable pub head_text : List ℕ → List ℕ → List ℕ → List ℕ
head_text start id srs = joined (start ∷ escaped true id ∷ codes "\" srsName=\"" ∷ escaped true srs ∷ codes "\">" ∷ [])

unfoldable pub some_positions_text : List Point → List ℕ
some_positions_text ps = joined (codes "<gml:posList>" ∷ positions_text ps ∷ codes "</gml:posList>" ∷ [])

abbrev pub list_text : List Point → List ℕ
list_text [] = codes "<gml:posList/>"
list_text (p ∷ ps) = some_positions_text (p ∷ ps)

unfoldable pub ring_text : List Point → List ℕ
ring_text ring = joined (codes "<gml:LinearRing>" ∷ list_text ring ∷ codes "</gml:LinearRing>" ∷ [])

unfoldable pub hole_text : List Point → List ℕ
hole_text hole = joined (codes "<gml:interior>" ∷ ring_text hole ∷ codes "</gml:interior>" ∷ [])

unfoldable pub point_text : Point → List ℕ → List ℕ → List ℕ
point_text p id srs = joined (head_text (codes "<gml:Point gml:id=\"") id srs ∷ codes "<gml:pos>" ∷ position_text p ∷ codes "</gml:pos></gml:Point>" ∷ [])

unfoldable pub line_text : List Point → List ℕ → List ℕ → List ℕ
line_text line id srs = joined (head_text (codes "<gml:LineString gml:id=\"") id srs ∷ list_text line ∷ codes "</gml:LineString>" ∷ [])

unfoldable pub area_text : Area → List ℕ → List ℕ → List ℕ
area_text area id srs = joined (
    head_text (codes "<gml:Polygon gml:id=\"") id srs ∷ codes "<gml:exterior>" ∷ ring_text area.shell ∷ codes "</gml:exterior>"
    ∷ flat_map hole_text area.holes ∷ codes "</gml:Polygon>" ∷ [])
