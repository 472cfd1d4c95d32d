-- The pairs of a query, and those of them whose names are listed. Names count without their case, values with it (OGC 06-121r9,
-- section 11.5.2).
use Rattle.std.specs.Prelude.{ℕ, Bool, false, not, ◌&&◌, ◌||◌, if◌then◌else◌, nat_lt, List, [], ◌∷◌, ◌++◌, length, map, filter, find, Option, Some, None, option_map, unwrap_or, is_some, Ok, codes}
use Rattle.std.specs.List.{list_any}
use Rattle.std.specs.Str.{bytes_eq, str_eq_ignore_ascii_case}
use Rattle.std.specs.Str.Lossy.{utf8_lossy}
use Rattle.form_urlencoded.specs.Form.{raw_pairs, decode, extend_pairs}
use Rattle.wfs_ends.specs.Read.{◌>>=◌, each, unless}
use Rattle.wfs_model.specs.Terms.{refused}
use Rattle.request_parameters.specs.Said.{Said, Ask}
use Rattle.request_parameters.specs.declared.operation.Operation.{Operation}
use Rattle.request_parameters.specs.declared.operation.Operation.TheVariants.{GetFeature, GetPropertyValue, GetFeatureWithLock, LockFeature}

-- a name and a value
abbrev pub Pair : Type 0
Pair = List ℕ × List ℕ

-- a pair, decoded; what is no UTF-8 has the replacement character in its place
abbrev pub pair_of : Pair → Pair
pair_of raw = (utf8_lossy (decode raw.0), utf8_lossy (decode raw.1))

-- the pairs of a query, in order (URL Standard, section 5.1)
unfoldable pub pairs_of : List ℕ → List Pair
pairs_of query = map pair_of (raw_pairs query)

-- a pair counts where neither its name nor its value is empty
unfoldable pub counts : Pair → Bool
counts pair = nat_lt 0 (length pair.0) && nat_lt 0 (length pair.1)

-- whether two names are one
unfoldable pub is_same : List ℕ → List ℕ → Bool
is_same a b = str_eq_ignore_ascii_case a b

-- ---- the names that operations list

abbrev pub among : List (List ℕ) → List ℕ → Option (List ℕ)
among names name = find (λ listed. is_same listed name) names

abbrev pub or_else : {A : Type 0} → Option A → Option A → Option A
or_else None other = other
or_else (Some x) other = Some x

-- those of all operations (OGC 09-025r2, section 7.6.2)
unfoldable pub base_name : List ℕ → Option (List ℕ)
base_name name = among (codes "service" ∷ codes "request" ∷ codes "version" ∷ []) name

-- those of how features are presented (sections 7.6.3 and 7.6.4)
unfoldable pub page_name : List ℕ → Option (List ℕ)
page_name name =
    among (codes "count" ∷ codes "startIndex" ∷ codes "resultType" ∷ codes "outputFormat" ∷ codes "resolve" ∷ []) name

-- those of which features are asked for (section 7.9); typeName is another spelling of typeNames
unfoldable pub query_name : List ℕ → Option (List ℕ)
query_name name =
    among (codes "storedQuery_id" ∷ codes "typeNames" ∷ codes "typeName" ∷ codes "srsName" ∷ codes "resourceId" ∷ codes "filter"
    ∷ codes "bbox" ∷ codes "sortBy" ∷ codes "propertyName" ∷ []) name

-- those of single operations
unfoldable pub other_name : List ℕ → Option (List ℕ)
other_name name =
    among (codes "acceptVersions" ∷ codes "valueReference" ∷ codes "expiry" ∷ codes "lockAction" ∷ codes "lockId" ∷ []) name

-- a name as it is listed
unfoldable pub listed_name : List ℕ → Option (List ℕ)
listed_name name = or_else (base_name name) (or_else (page_name name) (or_else (query_name name) (other_name name)))

unfoldable pub is_lock_name : List ℕ → Bool
is_lock_name name = is_same (codes "expiry") name || is_same (codes "lockAction") name

-- whether an operation that asks for features lists a name beside those that all of them do
abbrev pub lists_too : Operation → List ℕ → Bool
lists_too GetFeature name = is_some (page_name name)
lists_too GetPropertyValue name = is_some (page_name name) || is_same (codes "valueReference") name
lists_too GetFeatureWithLock name = is_some (page_name name) || is_lock_name name
lists_too LockFeature name = is_lock_name name || is_same (codes "lockId") name
lists_too operation name = false

-- whether an operation that asks for features lists a name
unfoldable pub lists : Operation → List ℕ → Bool
lists operation name = is_some (base_name name) || (is_some (query_name name) || lists_too operation name)

-- ---- what is said by listed names

-- whether a name is typeNames or typeName
unfoldable pub is_type_names : List ℕ → Bool
is_type_names name = is_same (codes "typeNames") name || is_same (codes "typeName") name

-- whether a pair says something by a name that some operation lists
unfoldable pub is_listed : Pair → Bool
is_listed pair = counts pair && is_some (listed_name pair.0)

-- whether two pairs may not stand beside each other: they have one name, or two spellings of typeNames with two values
unfoldable pub is_repeat : Pair → Pair → Bool
is_repeat pair other = is_same pair.0 other.0 || (is_type_names pair.0 && (is_type_names other.0 && not (bytes_eq pair.1 other.1)))

-- the name that a repeated pair is refused with: as it is listed
unfoldable pub repeated_name : List ℕ → List ℕ
repeated_name name = if is_type_names name then codes "typeNames" else unwrap_or (listed_name name) name

-- one more pair, which may not repeat one before it
unfoldable pub added : List Pair → Pair → Ask (List Pair)
added before pair = do
  _ ← unless (list_any (is_repeat pair) before) (refused 8 (repeated_name pair.0))
  Ok (before ++ pair ∷ [])

-- one more pair, which is passed over where it says nothing by a listed name
unfoldable pub next_listed : List Pair → Pair → Ask (List Pair)
next_listed before pair = if is_listed pair then added before pair else Ok before

-- the pairs that say something by listed names, of which none may be repeated
unfoldable pub listed_of : List Pair → Ask (List Pair)
listed_of pairs = each next_listed [] pairs

-- the value of a name
unfoldable pub value_of : List ℕ → List Pair → Option (List ℕ)
value_of name pairs = option_map (λ pair. pair.1) (find (λ pair. is_same name pair.0) pairs)

-- what pairs say by their names
abbrev pub said_by : List Pair → Said
said_by pairs name = value_of name pairs

-- ---- parameters of stored queries

-- whether a pair is a parameter of the stored query that an operation uses: the operation does not list its name
unfoldable pub is_parameter : Operation → Pair → Bool
is_parameter operation pair = counts pair && not (lists operation pair.0)

-- the parameters of the stored query that an operation uses
unfoldable pub parameters_of : Operation → List Pair → List Pair
parameters_of operation pairs = filter (is_parameter operation) pairs

-- ---- links

-- whether a pair of this name stays in the links to other pages: only the place of the page is told anew
unfoldable pub stays : List ℕ → Bool
stays name = not (is_same (codes "startIndex") name || is_same (codes "count") name)

-- the beginning that the links of a request have: the service's address, a question mark and the pairs, written anew
unfoldable pub link_of : List ℕ → List Pair → List ℕ
link_of address pairs = address ++ codes "?" ++ extend_pairs [] (filter (λ pair. stays pair.0) pairs)
