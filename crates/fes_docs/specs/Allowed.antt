-- The filters that are read are those that a type allows.
use Rattle.std.specs.Prelude.{◌≡◌, ℕ, List, Option, Ok}
use Rattle.doc_tree.specs.declared.tree.Element.{Element}
use Rattle.feature_values.specs.declared.schema.Schema.{Schema}
use Rattle.fes_filter.specs.Check.{check_of}
use Rattle.fes_filter.specs.declared.filter.Filter.{Filter}
use Rattle.fes_docs.specs.Filters.{filter_of}

-- Nothing is wrong with a filter that was read from some element, for the same schema and type.
abbrev pub ReadIsAllowed : Type 0
ReadIsAllowed = (parameters : Option (List (List ℕ))) (schema : Schema) (kind : Option ℕ) (e : Element) (filter : Filter)
    → filter_of parameters schema kind e ≡ Ok filter → check_of schema kind filter ≡ Ok tt
