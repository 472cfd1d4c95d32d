-- What actions change, and what selects the features that they change (OGC 09-025r2, section 15.2).
use Rattle.std.specs.Prelude.{ℕ, List, [], ◌∷◌, codes, Option, Some, None, Result, Ok, Err}
use Rattle.wfs_ends.specs.Read.{◌>>=◌}
use Rattle.doc_tree.specs.declared.tree.Element.{Element}
use Rattle.feature_values.specs.declared.schema.Schema.{Schema}
use Rattle.feature_values.specs.declared.schema.ValueKind.{ValueKind}
use Rattle.fes_filter.specs.Check.{type_in, property_in}
use Rattle.fes_filter.specs.declared.filter.Filter.{Filter}
use Rattle.fes_docs.specs.Filters.{filter_of}
use Rattle.fes_docs.specs.Names.{refusal_of}
use Rattle.fes_docs.specs.declared.fault.FilterDocFault.{FilterDocFault}
use Rattle.wfs_model.specs.Terms.{refused}
use Rattle.request_parameters.specs.Said.{Ask, required_of, kind_of}
use Rattle.request_parameters.specs.Elements.{said_at, misplaced, no_children}

-- ---- types and properties

-- the type whose features an action changes
unfoldable pub type_of : Schema → Element → Ask ℕ
type_of schema e = do
  name ← required_of (codes "typeName") (said_at e)
  kind_of schema (codes "typeName") name

abbrev pub sought : List ℕ → Option (ℕ × ValueKind) → Ask ℕ
sought name None = Err (refused 11 name)
sought name (Some found) = Ok found.0

-- the property of a type by its name as given, whose prefix is not judged
unfoldable pub property_of : Schema → Option ℕ → List ℕ → Ask ℕ
property_of schema kind name = sought name (property_in (type_in schema kind) name)

-- ---- filters

-- how what is wrong with a filter is refused
abbrev pub or_refusal : {A : Type 0} → Result A FilterDocFault → Ask A
or_refusal (Ok x) = Ok x
or_refusal (Err fault) = Err (refused (refusal_of fault).0 (refusal_of fault).1)

-- a Filter for a type; any other element is misplaced
unfoldable pub selected : Schema → ℕ → Element → Ask Filter
selected schema kind e = or_refusal (filter_of None schema (Some kind) e)

-- the one Filter that an action ends with, which has to be there
abbrev pub only_filter : Schema → ℕ → Element → List Element → Ask Filter
only_filter schema kind action [] = Err (misplaced action)
only_filter schema kind action (e ∷ rest) = do
  filter ← selected schema kind e
  _ ← no_children rest
  Ok filter
