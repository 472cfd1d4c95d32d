-- What a read answers, of what outlives the process alone, and with its moment printed (OGC 09-025r2, sections 8 to 11 and 14).
use Rattle.std.specs.Prelude.{ℕ, zero, suc, Bool, false, ◌&&◌, ◌||◌, ◌==◌, not, if◌then◌else◌, List, [], ◌∷◌, ◌++◌, length, filter, Option, Some, None, option_map, Result, Ok, Err}
use Rattle.std.specs.List.{find, list_any, list_all}
use Rattle.std.specs.Option.{unwrap_or}
use Rattle.wfs_ends.specs.Read.{◌>>=◌}
use Rattle.std.specs.Str.{bytes_eq}
use Rattle.feature_values.specs.declared.feature.Feature.{Feature}
use Rattle.feature_values.specs.declared.feature.Rid.{Rid}
use Rattle.feature_values.specs.declared.schema.Schema.{Schema}
use Rattle.fes_filter.specs.declared.query.Query.{Query}
use Rattle.fes_filter.specs.Truth.{property_of, is_missing}
use Rattle.fes_filter.specs.Check.{type_in, property_in}
use Rattle.query_core.specs.Selecting.{all_selected, held}
use Rattle.query_core.specs.Paging.{page_of}
use Rattle.wfs_model.specs.declared.asked.Asked.{Asked}
use Rattle.wfs_model.specs.declared.asked.Asked.TheVariants.{Plain, Stored as StoredAsked}
use Rattle.wfs_model.specs.declared.asked.Present.{Present}
use Rattle.wfs_model.specs.declared.stored.StoredQuery.{StoredQuery}
use Rattle.wfs_model.specs.declared.request.Request.{Request}
use Rattle.wfs_model.specs.declared.request.Request.TheVariants.{DescribeTypes, GetFeatures, GetValues, ListStored, DescribeStored}
use Rattle.wfs_model.specs.declared.reply.Refusal.{Refusal}
use Rattle.wfs_model.specs.declared.reply.Reply.{Reply}
use Rattle.wfs_model.specs.declared.reply.Reply.TheVariants.{Capabilities, Types, Collection, Values, Bare, StoredList, StoredTexts, Refused}
use Rattle.wfs_model.specs.State.{Durable}
use Rattle.wfs_model.specs.Refusals.{or_refused, no_such_feature, no_such_query, no_such_property}
use Rattle.wfs_model.specs.Stored.{is_id_query, has_id, built_in, all_stored, is_known}
use Rattle.wfs_model.specs.Expand.{Given, expanded, all_expanded}
use Rattle.wfs_model.specs.Links.{next_page, previous_page, link_to}

-- a reply, or the refusal that stands for it
abbrev pub reply_of : Result Reply Refusal → Reply
reply_of (Ok reply) = reply
reply_of (Err refusal) = Refused refusal

-- ---- types

abbrev pub numbers_below : ℕ → List ℕ
numbers_below zero = []
numbers_below (suc n) = numbers_below n ++ n ∷ []

-- the types that are asked for by number, or all where none is
abbrev pub types_asked : Schema → List ℕ → List ℕ
types_asked schema kinds = if length kinds == 0 then numbers_below (length schema.types) else kinds

-- ---- features

-- features that were selected, as they are presented: counted alone, or a page of them with its links
unfoldable pub presented : List Feature → ℕ → Present → List Rid → Reply
presented features moment present ids =
    if present.hits then Collection moment (length ids) [] None None None
    else Collection moment (length ids) (held features (page_of present.start present.count ids)) None
    (link_to present.link (next_page present.start present.count (length ids)))
    (link_to present.link (previous_page present.start present.count))

abbrev pub is_by_id : Asked → Bool
is_by_id (Plain query) = false
is_by_id (StoredAsked id given) = is_id_query id

-- features themselves, not their number, are asked for by the built-in query alone
abbrev pub is_for_one : Present → List Asked → Bool
is_for_one present (one ∷ []) = not present.hits && is_by_id one
is_for_one present asked = false

-- the feature that was found by its identifier, by itself
abbrev pub bare : List Feature → Reply
bare [] = Refused no_such_feature
bare (f ∷ fs) = Bare f

-- the answer to the features that queries select
unfoldable pub collection : List Feature → ℕ → Present → List Asked → List Query → Reply
collection features moment present asked queries =
    let ids = all_selected features queries in
    if is_for_one present asked then bare (held features ids) else presented features moment present ids

-- ---- values

-- a feature of the type has a value of the property that is not null
abbrev pub has_value : Option ℕ → ℕ → Feature → Bool
has_value None property f = false
has_value (Some kind) property f = (f.id.kind == kind) && not (is_missing (property_of f property))

-- The values of a property in features that were selected, as they are presented. Nulls are left out first, and a feature of another type
-- than that of the property counts as null.
unfoldable pub values : ℕ → Present → Option ℕ → ℕ → List Feature → Reply
values moment present kind property found =
    let some = filter (has_value kind property) found in
    if present.hits then Values moment (length some) property [] None None
    else Values moment (length some) property (page_of present.start present.count some)
    (link_to present.link (next_page present.start present.count (length some)))
    (link_to present.link (previous_page present.start present.count))

-- the type of the first query, where it names one
abbrev pub first_kind : List Query → Option ℕ
first_kind [] = None
first_kind (query ∷ queries) = query.kind

-- the property's name that stands under the empty name among what is given
unfoldable pub property_name : List Given → List ℕ
property_name given = unwrap_or (option_map (λ g. g.1) (find (λ g. length g.0 == 0) given)) []

abbrev pub property_or : List ℕ → Option ℕ → Result ℕ Refusal
property_or name None = Err (no_such_property name)
property_or name (Some property) = Ok property

-- the property whose values are asked for: beside a stored query that of its first query's type with the name that is kept
unfoldable pub property_asked : Schema → Asked → ℕ → Option ℕ → Result ℕ Refusal
property_asked schema (Plain query) property kind = Ok property
property_asked schema (StoredAsked id given) property kind =
    let name = property_name given in property_or name (option_map (λ p. p.0) (property_in (type_in schema kind) name))

-- the answer to a request for the values of a property
unfoldable pub values_asked : Schema → Durable → ℕ → Present → Asked → ℕ → Result Reply Refusal
values_asked schema kept moment present asked number =
    or_refused (expanded schema kept.stored asked) >>= λ queries.
    property_asked schema asked number (first_kind queries) >>= λ property.
    Ok (values moment present (first_kind queries) property (held kept.features (all_selected kept.features queries)))

-- ---- stored queries

-- a stored query has this identifier; the built-in one has two
abbrev pub is_called : StoredQuery → List ℕ → Bool
is_called query id = has_id id query || (bytes_eq query.id built_in.id && is_id_query id)

abbrev pub is_listed : List (List ℕ) → StoredQuery → Bool
is_listed ids query = list_any (is_called query) ids

-- the stored queries with these identifiers, in the order in which all stand, or all where none is named
unfoldable pub described : List StoredQuery → List (List ℕ) → Result Reply Refusal
described stored ids =
    if length ids == 0 then Ok (StoredTexts (all_stored stored)) else
    (if list_all (is_known stored) ids then Ok (StoredTexts (filter (is_listed ids) (all_stored stored))) else Err no_such_query)

-- ---- reads

-- The reply to a read, at a moment that is printed. Other requests are no reads; what stands for them here means nothing.
unfoldable pub read : Schema → Durable → ℕ → Request → Reply
read schema kept moment (DescribeTypes kinds) = Types (types_asked schema kinds)
read schema kept moment (GetFeatures present asked) =
    reply_of (or_refused (all_expanded schema kept.stored asked) >>= λ queries. Ok (collection kept.features moment present asked queries))
read schema kept moment (GetValues present asked property) = reply_of (values_asked schema kept moment present asked property)
read schema kept moment ListStored = StoredList (all_stored kept.stored)
read schema kept moment (DescribeStored ids) = reply_of (described kept.stored ids)
read schema kept moment request = Capabilities
