-- Which features a query asks for (OGC 09-025r2, section 7.9.2). One of three parameters may choose among the features of a type:
-- resourceId, a list of identifiers; filter, a document of the Filter Encoding; and bbox, a box. Each is judged by its own rule
-- before it is asked whether there are several.
use Rattle.std.specs.Prelude.{ℕ, Bool, true, ◌&&◌, ◌||◌, if◌then◌else◌, List, [], ◌∷◌, map, Option, Some, None, option_map, is_some, Result, Ok, Err, codes}
use Rattle.std.specs.Option.{option_and_then}
use Rattle.std.specs.Result.{result_ok}
use Rattle.std.specs.List.{list_any, join_with_byte}
use Rattle.wfs_ends.specs.Read.{◌>>=◌, unless}
use Rattle.doc_tree.specs.declared.tree.Element.{Element}
use Rattle.doc_read.specs.Document.{document}
use Rattle.doc_read.specs.declared.fault.DocFault.{DocFault}
use Rattle.geom_core.specs.Plane.{Point, Bounds}
use Rattle.geom_core.specs.Shapes.{box_of}
use Rattle.gml_docs.specs.Numbers.{position_of_words}
use Rattle.feature_values.specs.Ids.{rid_of}
use Rattle.feature_values.specs.declared.feature.Rid.{Rid}
use Rattle.feature_values.specs.declared.schema.Schema.{Schema}
use Rattle.fes_filter.specs.declared.filter.Filter.{Filter}
use Rattle.fes_filter.specs.declared.filter.Filter.TheVariants.{Ids, InBox}
use Rattle.fes_filter.specs.declared.ids.IdRef.{IdRef}
use Rattle.fes_filter.specs.declared.ids.IdRef.TheVariants.{Known, Nobody}
use Rattle.fes_docs.specs.Filters.{filter_of}
use Rattle.wfs_model.specs.Terms.{refused, is_listed}
use Rattle.request_parameters.specs.Said.{Said, Ask, or_fault, kind_of}
use Rattle.query_docs.specs.Elements.{or_refusal}
use Rattle.kvp_queries.specs.Pairs.{or_else}
use Rattle.kvp_queries.specs.Lists.{is_comma, items_in}

-- ---- the type

-- the names of types, under either spelling
unfoldable pub type_names_of : Said → Option (List ℕ)
type_names_of said = or_else (said (codes "typeNames")) (said (codes "typeName"))

-- the one type of a name; a list of names is no option of this service
unfoldable pub one_type : Schema → List ℕ → Ask ℕ
one_type schema text = do
  _ ← unless (list_any is_comma text) (refused 12 (codes "typeNames"))
  kind_of schema (codes "typeNames") text

abbrev pub type_if : Schema → Option (List ℕ) → Ask (Option ℕ)
type_if schema None = Ok None
type_if schema (Some text) = one_type schema text >>= λ kind. Ok (Some kind)

-- the type asked for, where one is
unfoldable pub type_of : Schema → Said → Ask (Option ℕ)
type_of schema said = type_if schema (type_names_of said)

-- ---- resourceId

abbrev pub known_or_nobody : Option Rid → IdRef
known_or_nobody None = Nobody
known_or_nobody (Some id) = Known id

-- what a resource id refers to: a text that is the id of no feature there could be refers to nobody
unfoldable pub id_of : Schema → List ℕ → IdRef
id_of schema text = known_or_nobody (rid_of schema text)

-- the resource ids of a list
unfoldable pub ids_in : Schema → List ℕ → List IdRef
ids_in schema text = map (id_of schema) (items_in text)

-- the filter that resource ids stand for
unfoldable pub ids_filter : Schema → Said → Option Filter
ids_filter schema said = option_map (λ text. Ids (ids_in schema text)) (said (codes "resourceId"))

-- ---- filter (OGC 09-026r2, section 7)

abbrev pub or_no_document : Result Element DocFault → Ask Element
or_no_document (Ok root) = Ok root
or_no_document (Err fault) = Err (refused 8 (codes "filter"))

-- the filter of a document, for a type or for none
unfoldable pub filter_in : Schema → Option ℕ → List ℕ → Ask Filter
filter_in schema kind text = do
  root ← or_no_document (document text)
  or_refusal (filter_of None schema kind root)

abbrev pub filter_if : Schema → Option ℕ → Option (List ℕ) → Ask (Option Filter)
filter_if schema kind None = Ok None
filter_if schema kind (Some text) = filter_in schema kind text >>= λ filter. Ok (Some filter)

unfoldable pub document_filter : Schema → Option ℕ → Said → Ask (Option Filter)
document_filter schema kind said = filter_if schema kind (said (codes "filter"))

-- ---- bbox (OGC 06-121r9, section 10.2.3)

-- a corner at two coordinates
unfoldable pub corner_at : List ℕ → List ℕ → Option Point
corner_at x y = result_ok (position_of_words x y)

-- the box between two corners
unfoldable pub box_between : List ℕ → List ℕ → List ℕ → List ℕ → Option Bounds
box_between low_x low_y high_x high_y =
    option_and_then (λ low. option_and_then (λ high. result_ok (box_of low high)) (corner_at high_x high_y)) (corner_at low_x low_y)

-- the name of the reference system in the parts behind the coordinates, where there are any; commas may stand in it
unfoldable pub is_system : Schema → List (List ℕ) → Bool
is_system schema [] = true
is_system schema (part ∷ parts) = is_listed schema.srs (join_with_byte 44 (part ∷ parts))

-- the box of the parts between commas: the two coordinates of its lower corner and those of its upper one, which no coordinate of
-- the lower one is above, and then the name of the reference system, or nothing
abbrev pub box_of_parts : Schema → List (List ℕ) → Option Bounds
box_of_parts schema (low_x ∷ low_y ∷ high_x ∷ high_y ∷ name) = if is_system schema name then box_between low_x low_y high_x high_y else None
box_of_parts schema parts = None

-- the box of a text
unfoldable pub box_in : Schema → List ℕ → Option Bounds
box_in schema text = box_of_parts schema (items_in text)

abbrev pub box_if : Schema → Option (List ℕ) → Ask (Option Filter)
box_if schema None = Ok None
box_if schema (Some text) = or_fault (box_in schema text) (refused 11 (codes "bbox")) >>= λ area. Ok (Some (InBox None area))

-- the filter that a box stands for: some geometry property of a feature meets it
unfoldable pub box_filter : Schema → Said → Ask (Option Filter)
box_filter schema said = box_if schema (said (codes "bbox"))

-- ---- one of them

-- at most one of the three is given; of several the last is named
unfoldable pub alone : Bool → Bool → Bool → Ask (Unit {0})
alone ids filter area = do
  _ ← unless (area && (ids || filter)) (refused 11 (codes "bbox"))
  unless (ids && filter) (refused 11 (codes "filter"))

-- the one filter that is given, where one is
unfoldable pub only_one : Option Filter → Option Filter → Option Filter → Ask (Option Filter)
only_one ids filter area = alone (is_some ids) (is_some filter) (is_some area) >>= λ _. Ok (or_else ids (or_else filter area))

-- what resource ids and a box stand for
unfoldable pub others : Schema → Said → Ask (Option Filter × Option Filter)
others schema said = box_filter schema said >>= λ area. Ok (ids_filter schema said, area)

-- what features are chosen by
unfoldable pub chosen : Schema → Option ℕ → Said → Ask (Option Filter)
chosen schema kind said = do
  filter ← document_filter schema kind said
  area ← box_filter schema said
  only_one (ids_filter schema said) filter area
