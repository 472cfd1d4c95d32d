-- The text of a stored query (OGC 09-025r2, section 14.2.2.4.2): its queries as elements, one after the other, each as a document by
-- itself. That a stored query has one canonical text is this project's own. Only what is not the default is written: an order
-- that goes down alone, as fes_docs does in filters.
use Rattle.std.specs.Prelude.{ℕ, Bool, true, false, List, [], ◌∷◌, ◌++◌, map, flat_map, codes, Option, Some, None}
use Rattle.doc_tree.specs.Tree.{prefixed, document_text}
use Rattle.doc_tree.specs.declared.tree.Attribute.{Attribute}
use Rattle.doc_tree.specs.declared.tree.Element.{Element}
use Rattle.doc_tree.specs.declared.tree.Element.TheViews.{roll-Element}
use Rattle.doc_tree.specs.declared.tree.Prefixes.{Prefixes}
use Rattle.gml_docs.specs.Elements.{gml_space}
use Rattle.feature_values.specs.declared.schema.Schema.{Schema}
use Rattle.fes_filter.specs.Check.{type_in}
use Rattle.fes_filter.specs.declared.filter.Filter.{Filter}
use Rattle.fes_filter.specs.declared.query.Query.{Query}
use Rattle.fes_filter.specs.declared.query.SortKey.{SortKey}
use Rattle.fes_docs.specs.Names.{fes_space}
use Rattle.fes_docs.specs.Written.{leaf, parent, attribute, reference, type_name, filter_tree}
use Rattle.request_parameters.specs.Elements.{wfs_space}

-- ---- one query as an element

abbrev pub order_trees : Bool → List Element
order_trees true = leaf (codes "SortOrder") (codes "DESC") ∷ []
order_trees false = []

-- a SortProperty
unfoldable pub key_tree : Schema → Option ℕ → SortKey → Element
key_tree schema kind key = parent (codes "SortProperty") (reference schema kind key.property ∷ order_trees key.descending)

-- a SortBy, where features are sorted
abbrev pub sort_trees : Schema → Option ℕ → List SortKey → List Element
sort_trees schema kind [] = []
sort_trees schema kind (key ∷ keys) = parent (codes "SortBy") (map (key_tree schema kind) (key ∷ keys)) ∷ []

-- a Filter, where there is one
abbrev pub filter_trees : List (List ℕ) → Schema → Option ℕ → Option Filter → List Element
filter_trees names schema kind None = []
filter_trees names schema kind (Some filter) = filter_tree (Some names) schema kind filter ∷ []

-- a Query, in which the parameters have these names
unfoldable pub query_tree : List (List ℕ) → Schema → Query → Element
query_tree names schema query =
    let type_names : Attribute = attribute (codes "typeNames") (prefixed schema.prefix (type_name (type_in schema query.kind))) in
    roll-Element (record {
      name = record { space = wfs_space; local = codes "Query" };
      attributes = type_names ∷ [];
      children = filter_trees names schema query.kind query.filter ++ sort_trees schema query.kind query.sort;
      text = [];
    })

-- ---- all queries as a text

-- the prefixes that each of the elements declares
abbrev pub query_prefixes : Schema → Prefixes
query_prefixes schema = record { pairs = (codes "wfs", wfs_space) ∷ (codes "fes", fes_space) ∷ (codes "gml", gml_space) ∷ (schema.prefix, schema.space) ∷ [] }

unfoldable pub stored_text : Schema → List (List ℕ) → List Query → List ℕ
stored_text schema names queries = flat_map (document_text (query_prefixes schema)) (map (query_tree names schema) queries)
