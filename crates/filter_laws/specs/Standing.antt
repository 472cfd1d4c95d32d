-- The element that is written for a filter is one that a document can hold.
use Rattle.std.specs.Prelude.{◌≡◌, ℕ, true, List, [], All, Option, Some, Ok}
use Rattle.doc_tree.specs.declared.tree.Element.{Element}
use Rattle.doc_tree.specs.declared.tree.Prefixes.{Prefixes}
use Rattle.doc_tree.specs.Tree.{document_text}
use Rattle.doc_read.specs.Grammar.{Spells}
use Rattle.doc_laws.specs.InDocument.{is_text, IsInDocument}
use Rattle.doc_laws.specs.RoundTrip.{ArePrefixes, is_covered}
use Rattle.gml_docs.specs.Written.{gml_name}
use Rattle.feature_values.specs.declared.schema.Schema.{Schema}
use Rattle.feature_schema.specs.Rules.{KeepsRules}
use Rattle.fes_filter.specs.declared.filter.Filter.{Filter}
use Rattle.fes_docs.specs.Names.{fes_space}
use Rattle.fes_docs.specs.Filters.{filter_of}
use Rattle.fes_docs.specs.Written.{filter_tree}

-- prefixes that a document can declare, by which the names of FES and of GML are written
pub record NameFilters (names : Prefixes) : Type 0 where
  pub prefixes : ArePrefixes names
  pub fes : is_covered names (record { space = fes_space; local = [] }) ≡ true
  pub gml : is_covered names (gml_name []) ≡ true

-- The element that is written for a filter is spelled by its canonical text, where the filter was read from an element of a document,
-- for the same schema, type and parameters, whose names are texts.
abbrev pub IsSpelled : Type 0
IsSpelled = (names : Prefixes) (parameters : List (List ℕ)) (schema : Schema) (kind : Option ℕ) (e : Element) (filter : Filter)
    → NameFilters names → All (λ name. is_text name ≡ true) parameters → KeepsRules schema → IsInDocument e → filter_of (Some parameters) schema kind e ≡ Ok filter
    → Spells (document_text names (filter_tree (Some parameters) schema kind filter)) (filter_tree (Some parameters) schema kind filter)
