-- What is written reads back as what was given.
use Rattle.std.specs.Prelude.{◌≡◌, ℕ, true, List, Ok}
use Rattle.geom_core.specs.declared.geometry.Geometry.{Geometry}
use Rattle.doc_tree.specs.Attributes.{is_among}
use Rattle.gml_docs.specs.Elements.{geometry_of}
use Rattle.gml_docs.specs.Written.{tree_of}
pub use Rattle.geom_core.specs.Valid.{IsGeometry}

-- The element that is written for a geometry reads back as that geometry, where its reference system has the name that
-- was written.
abbrev pub ReadsBack : Type 0
ReadsBack = (g : Geometry) (id srs : List ℕ) (names : List (List ℕ)) → IsGeometry g → is_among names srs ≡ true → geometry_of names (tree_of g id srs) ≡ Ok g
