-- In what order a query asks for features (OGC 09-025r2, section 7.9.2; OGC 09-026r2, section 7.12): a list of properties with
-- commas between them, and behind each, after a space, ASC or DESC. A property may come twice; the first place decides.
use Rattle.std.specs.Prelude.{ℕ, Bool, false, ◌==◌, if◌then◌else◌, List, [], ◌∷◌, ◌++◌, length, Option, Some, None, Ok, Err, codes}
use Rattle.std.specs.List.{position_or_len, before_first, after_first}
use Rattle.wfs_ends.specs.Read.{◌>>=◌, each}
use Rattle.feature_values.specs.declared.schema.FeatureType.{FeatureType}
use Rattle.feature_values.specs.declared.schema.Schema.{Schema}
use Rattle.fes_filter.specs.Check.{type_in, property_in}
use Rattle.fes_filter.specs.declared.query.SortKey.{SortKey}
use Rattle.wfs_model.specs.Terms.{refused}
use Rattle.wfs_model.specs.declared.fault.AskFault.{AskFault}
use Rattle.request_parameters.specs.Said.{Said, Ask, or_fault}
use Rattle.query_docs.specs.Sorting.{sortable, order_word}
use Rattle.kvp_queries.specs.Lists.{items_in}

abbrev pub not_sorted : AskFault
not_sorted = refused 11 (codes "sortBy")

abbrev pub is_blank : ℕ → Bool
is_blank b = b == 32

-- a name, and the word behind the first space
unfoldable pub name_and_word : List ℕ → List ℕ × Option (List ℕ)
name_and_word part =
    if position_or_len is_blank part == length part then (part, None) else (before_first is_blank part, Some (after_first is_blank part))

-- whether the order is descending
abbrev pub is_descending : Option (List ℕ) → Ask Bool
is_descending None = Ok false
is_descending (Some word) = or_fault (order_word word) not_sorted

-- a key: a property that has an order, as in a document, and then the word behind it
unfoldable pub key_of : FeatureType → List ℕ → Ask SortKey
key_of of_type part = do
  property ← sortable (name_and_word part).0 (property_in (Some of_type) (name_and_word part).0)
  descending ← is_descending (name_and_word part).1
  Ok (record { property = property; descending = descending })

unfoldable pub next_key : FeatureType → List SortKey → List ℕ → Ask (List SortKey)
next_key of_type keys part = key_of of_type part >>= λ key. Ok (keys ++ key ∷ [])

-- the keys of a list; without a type there are no properties to sort by
unfoldable pub keys_in : Option FeatureType → List ℕ → Ask (List SortKey)
keys_in None text = Err not_sorted
keys_in (Some of_type) text = each (next_key of_type) [] (items_in text)

abbrev pub keys_if : Option FeatureType → Option (List ℕ) → Ask (List SortKey)
keys_if of_type None = Ok []
keys_if of_type (Some text) = keys_in of_type text

-- the keys that features are sorted by
unfoldable pub keys_of : Schema → Option ℕ → Said → Ask (List SortKey)
keys_of schema kind said = keys_if (type_in schema kind) (said (codes "sortBy"))
