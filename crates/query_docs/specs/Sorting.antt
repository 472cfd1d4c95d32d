-- SortBy: the properties that features are sorted by, the first of which counts first (FES 2.0, OGC 09-026r2, section 7.13).
use Rattle.std.specs.Prelude.{ℕ, ◌==◌, Bool, true, false, not, if◌then◌else◌, List, [], ◌∷◌, ◌++◌, length, codes, Option, Some, None, Ok, Err}
use Rattle.std.specs.Str.{bytes_eq}
use Rattle.wfs_ends.specs.Read.{◌>>=◌, each, unless}
use Rattle.doc_tree.specs.declared.tree.Element.{Element}
use Rattle.feature_values.specs.declared.schema.FeatureType.{FeatureType}
use Rattle.feature_values.specs.declared.schema.ValueKind.{ValueKind}
use Rattle.fes_filter.specs.Check.{property_in, is_shape}
use Rattle.fes_filter.specs.declared.query.SortKey.{SortKey}
use Rattle.fes_docs.specs.Names.{is_fes}
use Rattle.wfs_model.specs.Terms.{refused}
use Rattle.request_parameters.specs.Said.{Ask, or_fault}
use Rattle.request_parameters.specs.Elements.{no_others, misplaced, no_children}
use Rattle.query_docs.specs.Elements.{children_of, text_alone}

abbrev pub key_of : ℕ → Bool → SortKey
key_of property descending = record { property = property; descending = descending }

-- a property of the type, by its name as it was given; geometries have no order
abbrev pub sortable : List ℕ → Option (ℕ × ValueKind) → Ask ℕ
sortable name None = Err (refused 11 name)
sortable name (Some p) = if is_shape p.1 then Err (refused 11 (codes "sortBy")) else Ok p.0

-- a ValueReference, and the property that it names
unfoldable pub sorted_by : Option FeatureType → Element → Ask ℕ
sorted_by of_type e = do
  name ← text_alone e
  sortable name (property_in of_type name)

-- whether an order goes down
unfoldable pub order_word : List ℕ → Option Bool
order_word text = if bytes_eq text (codes "ASC") then Some false else (if bytes_eq text (codes "DESC") then Some true else None)

-- a SortOrder
unfoldable pub order_of : Element → Ask Bool
order_of e = do
  text ← text_alone e
  or_fault (order_word text) (refused 11 (codes "SortOrder"))

-- a property, and the elements behind its ValueReference: nothing, for an order that goes up, or one SortOrder
unfoldable pub key_with : ℕ → List Element → Ask SortKey
key_with property [] = Ok (key_of property false)
key_with property (e ∷ rest) = do
  _ ← unless (not (is_fes (codes "SortOrder") e)) (misplaced e)
  descending ← order_of e
  _ ← no_children rest
  Ok (key_of property descending)

-- the elements in a SortProperty: a ValueReference, and its order
unfoldable pub key_in : Option FeatureType → Element → List Element → Ask SortKey
key_in of_type whole [] = Err (misplaced whole)
key_in of_type whole (e ∷ rest) = do
  _ ← unless (not (is_fes (codes "ValueReference") e)) (misplaced e)
  property ← sorted_by of_type e
  key_with property rest

-- a SortProperty
unfoldable pub sort_key : Option FeatureType → Element → Ask SortKey
sort_key of_type e = do
  _ ← unless (not (is_fes (codes "SortProperty") e)) (misplaced e)
  _ ← no_others [] e
  key_in of_type e (children_of e)

unfoldable pub next_key : Option FeatureType → List SortKey → Element → Ask (List SortKey)
next_key of_type found e = sort_key of_type e >>= λ key. Ok (found ++ key ∷ [])

-- a SortBy: one SortProperty or more
unfoldable pub keys_of : Option FeatureType → Element → Ask (List SortKey)
keys_of of_type e = do
  _ ← no_others [] e
  keys ← each (next_key of_type) [] (children_of e)
  _ ← unless (length (children_of e) == 0) (misplaced e)
  Ok keys
