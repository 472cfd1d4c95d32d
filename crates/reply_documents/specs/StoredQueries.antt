-- The stored queries (OGC 09-025r2, sections 14.3 to 14.6): by their names, whole, and that some were made or one dropped.
use Rattle.std.specs.Prelude.{ℕ, Bool, true, false, not, ◌&&◌, ◌==◌, if◌then◌else◌, List, [], ◌∷◌, ◌++◌, length, codes, Option, Some, None}
use Rattle.std.specs.List.{flat_map, list_any}
use Rattle.std.specs.Option.{option_to_list}
use Rattle.wfs_ends.specs.Ends.{joined}
use Rattle.doc_tree.specs.Escape.{escaped}
use Rattle.feature_values.specs.declared.schema.FeatureType.{FeatureType}
use Rattle.feature_values.specs.declared.schema.Schema.{Schema}
use Rattle.fes_filter.specs.declared.query.Query.{Query}
use Rattle.fes_filter.specs.Check.{type_in}
use Rattle.wfs_model.specs.declared.stored.StoredQuery.{StoredQuery}
use Rattle.wfs_model.specs.Stored.{is_id_query}
use Rattle.service_docs.specs.InTurn.{in_turn}
use Rattle.reply_documents.specs.Features.{truth_text}

-- ---- the types of what a stored query gives

abbrev pub is_same_kind : Option ℕ → Option ℕ → Bool
is_same_kind None None = true
is_same_kind (Some a) (Some b) = a == b
is_same_kind a b = false

-- a query before asks for the same type
abbrev pub is_asked_before : List Query → Query → Bool
is_asked_before before query = list_any (λ q. is_same_kind q.kind query.kind) before

-- the type that a query asks for, where none before it asks for the same
abbrev pub type_asked : Schema → List Query → Query → Option FeatureType
type_asked schema before query = if is_asked_before before query then None else type_in schema query.kind

-- the types that some queries ask for, each at its first place
abbrev pub types_asked : Schema → List Query → List FeatureType
types_asked schema queries = in_turn (λ before query. option_to_list (type_asked schema before query)) [] queries

-- a type by its name, between two texts
unfoldable pub type_between : List ℕ → Schema → List ℕ → FeatureType → List ℕ
type_between start schema end of_type = joined (start ∷ schema.prefix ∷ codes ":" ∷ of_type.name ∷ end ∷ [])

abbrev pub asked_text : List ℕ → Schema → List ℕ → Option FeatureType → List ℕ
asked_text start schema end None = []
asked_text start schema end (Some of_type) = type_between start schema end of_type

-- whether there was no type before and is none now
abbrev pub still_none : Bool → Option FeatureType → Bool
still_none none None = none
still_none none (Some of_type) = false

-- types by their names: the first behind one text, the others behind another, and each before a third
abbrev pub types_between : List ℕ → List ℕ → Schema → List ℕ → List FeatureType → List ℕ
types_between first later schema end [] = []
types_between first later schema end (t ∷ ts) = type_between first schema end t ++ flat_map (type_between later schema end) ts

-- The types of what a stored query gives: all for the built-in one, else those that its queries ask for.
unfoldable pub types_of : Schema → StoredQuery → List FeatureType
types_of schema stored = if is_id_query stored.id then schema.types else types_asked schema stored.queries

unfoldable pub return_types_text : List ℕ → List ℕ → Schema → List ℕ → StoredQuery → List ℕ
return_types_text first later schema end stored = types_between first later schema end (types_of schema stored)

-- ---- names

unfoldable pub some_title_text : List ℕ → List ℕ
some_title_text title = joined (codes "<wfs:Title>" ∷ escaped false title ∷ codes "</wfs:Title>" ∷ [])

-- the title, where it is not empty
unfoldable pub title_text : List ℕ → List ℕ
title_text title = if length title == 0 then [] else some_title_text title

unfoldable pub some_named_text : Schema → StoredQuery → List ℕ
some_named_text schema stored = joined (
    codes ">" ∷ title_text stored.title
    ∷ return_types_text (codes "<wfs:ReturnFeatureType>") (codes "<wfs:ReturnFeatureType>") schema (codes "</wfs:ReturnFeatureType>") stored
    ∷ codes "</wfs:StoredQuery>" ∷ [])

-- a stored query without a title and without queries, which is not the built-in one, has an empty element
abbrev pub is_plain : StoredQuery → Bool
is_plain stored = not (is_id_query stored.id) && ((length stored.title == 0) && (length stored.queries == 0))

unfoldable pub inside_named_text : Schema → StoredQuery → List ℕ
inside_named_text schema stored = if is_plain stored then codes "/>" else some_named_text schema stored

-- a stored query by its name
unfoldable pub named_text : Schema → StoredQuery → List ℕ
named_text schema stored = joined (
    codes "<wfs:StoredQuery id=\"" ∷ escaped true stored.id ∷ codes "\"" ∷ inside_named_text schema stored ∷ [])

-- ---- whole

unfoldable pub parameter_text : List ℕ → List ℕ
parameter_text name = joined (codes "<wfs:Parameter name=\"" ∷ escaped true name ∷ codes "\" type=\"xs:string\"/>" ∷ [])

unfoldable pub some_expression_text : List ℕ → List ℕ
some_expression_text text = joined (codes ">" ∷ text ∷ codes "</wfs:QueryExpressionText>" ∷ [])

-- the text of a stored query, which is text of XML already and stands as it is kept
unfoldable pub expression_text : List ℕ → List ℕ
expression_text text = if length text == 0 then codes "/>" else some_expression_text text

-- a stored query whole; the built-in one alone is private
unfoldable pub whole_text : Schema → StoredQuery → List ℕ
whole_text schema stored = joined (
    codes "<wfs:StoredQueryDescription id=\"" ∷ escaped true stored.id ∷ codes "\">" ∷ title_text stored.title
    ∷ flat_map parameter_text stored.parameters ∷ codes "<wfs:QueryExpressionText returnFeatureTypes=\""
    ∷ return_types_text [] (codes " ") schema [] stored
    ∷ codes "\" language=\"urn:ogc:def:queryLanguage:OGC-WFS::WFS_QueryExpression\" isPrivate=\"" ∷ truth_text (is_id_query stored.id)
    ∷ codes "\"" ∷ expression_text stored.text ∷ codes "</wfs:StoredQueryDescription>" ∷ [])

-- ---- the documents

-- the start of a root, with the namespace of the service's types
unfoldable pub declared_text : List ℕ → Schema → List ℕ
declared_text start schema = joined (start ∷ schema.prefix ∷ codes "=\"" ∷ escaped true schema.space ∷ codes "\"" ∷ [])

unfoldable pub some_named_list : Schema → List StoredQuery → List ℕ
some_named_list schema all = joined (codes ">" ∷ flat_map (named_text schema) all ∷ codes "</wfs:ListStoredQueriesResponse>" ∷ [])

unfoldable pub named_list : Schema → List StoredQuery → List ℕ
named_list schema all = if length all == 0 then codes "/>" else some_named_list schema all

-- the stored queries by their names
unfoldable pub stored_list_body : Schema → List StoredQuery → List ℕ
stored_list_body schema all = joined (
    declared_text (codes "<?xml version=\"1.0\" encoding=\"UTF-8\"?><wfs:ListStoredQueriesResponse xmlns:wfs=\"http://www.opengis.net/wfs/2.0\" xmlns:") schema
    ∷ named_list schema all ∷ [])

unfoldable pub some_whole_list : Schema → List StoredQuery → List ℕ
some_whole_list schema all = joined (codes ">" ∷ flat_map (whole_text schema) all ∷ codes "</wfs:DescribeStoredQueriesResponse>" ∷ [])

unfoldable pub whole_list : Schema → List StoredQuery → List ℕ
whole_list schema all = if length all == 0 then codes "/>" else some_whole_list schema all

-- stored queries whole
unfoldable pub stored_texts_body : Schema → List StoredQuery → List ℕ
stored_texts_body schema all = joined (
    declared_text (codes "<?xml version=\"1.0\" encoding=\"UTF-8\"?><wfs:DescribeStoredQueriesResponse xmlns:wfs=\"http://www.opengis.net/wfs/2.0\" xmlns:") schema
    ∷ codes " xmlns:xs=\"http://www.w3.org/2001/XMLSchema\"" ∷ whole_list schema all ∷ [])

-- stored queries were made
abbrev pub created_body : List ℕ
created_body = codes "<?xml version=\"1.0\" encoding=\"UTF-8\"?><wfs:CreateStoredQueryResponse xmlns:wfs=\"http://www.opengis.net/wfs/2.0\" status=\"OK\"/>"

-- a stored query was dropped
abbrev pub dropped_body : List ℕ
dropped_body = codes "<?xml version=\"1.0\" encoding=\"UTF-8\"?><wfs:DropStoredQueryResponse xmlns:wfs=\"http://www.opengis.net/wfs/2.0\" status=\"OK\"/>"
