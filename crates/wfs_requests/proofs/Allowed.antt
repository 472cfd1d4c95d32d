-- Requests that were read are of the schema.
use Rattle.std.proofs.Common.{◌≡◌, inl, inr, ℕ, ◌≤◌, ◌<◌, false, not, List, [], ◌∷◌, ◌++◌, length, Option, Some, None, Result, Ok, Err, subst, arith}
use Rattle.std.proofs.lemmas.Bool.Decides.{nat_tests}
use Rattle.std.specs.Prelude.{codes, ◌==◌, All, IfOk, IfSome, unwrap_or}
use Rattle.std.specs.List.{flat_map}
use Rattle.std.specs.Option.{option_and_then, option_to_list}
use Rattle.std.proofs.lemmas.List.Elements.{All-nil, All-cons}
use Rattle.wfs_ends.specs.Read.{GivesBut, each, unless}
use Rattle.wfs_ends.proofs.Turns.{bind_ok, chosen, ok_is}
use Rattle.doc_tree.specs.declared.tree.Element.{Element}
use Rattle.feature_values.specs.declared.schema.Schema.{Schema}
use Rattle.feature_values.specs.declared.schema.Property.{Property}
use Rattle.fes_filter.specs.declared.query.Query.{Query}
use Rattle.lock_table.specs.declared.id.LockId.{LockId}
use Rattle.wfs_model.specs.declared.asked.Asked.{Asked}
use Rattle.wfs_model.specs.declared.asked.Asked.TheVariants.{Plain, Stored}
use Rattle.wfs_model.specs.declared.asked.Present.{Present}
use Rattle.wfs_model.specs.declared.fault.AskFault.{AskFault}
use Rattle.wfs_model.specs.declared.fault.AskFault.TheVariants.{OutOfMemory}
use Rattle.wfs_model.specs.declared.request.Request.{Request}
use Rattle.wfs_model.specs.declared.request.Request.TheVariants.{Capabilities, DescribeTypes, GetFeatures, GetValues, GetLocked, Lock, Renew, ListStored, DescribeStored, CreateStored, DropStored}
use Rattle.wfs_model.specs.declared.request.Take.{Take}
use Rattle.wfs_model.specs.declared.stored.StoredQuery.{StoredQuery}
use Rattle.wfs_model.specs.Stored.{is_id_query}
use Rattle.wfs_model.specs.Terms.{count_of}
use Rattle.wfs_model.specs.OfSchema.{IsType, IsQueryOf, IsStoredOf, IsActionOf, property_at, query_in, names_given, IsOfSchema}
use Rattle.request_parameters.specs.Said.{Said, or_fault, read_if, required_of, kind_of}
use Rattle.request_parameters.specs.Base.{format_of, negotiated}
use Rattle.request_parameters.specs.Paging.{page_of, locked_page_of, presented}
use Rattle.request_parameters.specs.Locking.{take_of, lock_of, from_1_on, seconds_in, expiry_of, period_of}
use Rattle.request_parameters.specs.Stored.{dropped_of}
use Rattle.request_parameters.specs.Elements.{said_at, is_wfs, no_others, misplaced, no_children, text_in}
use Rattle.request_parameters.specs.declared.operation.Operation.{Operation}
use Rattle.request_parameters.specs.declared.operation.Operation.TheVariants.{GetCapabilities, DescribeFeatureType, GetPropertyValue, GetFeature, GetFeatureWithLock, LockFeature, Transaction, ListStoredQueries, DescribeStoredQueries, CreateStoredQuery, DropStoredQuery}
use Rattle.query_docs.specs.Asked.{asked_of, IsAskedOf}
use Rattle.query_docs.specs.Definitions.{definition_of}
use Rattle.query_docs.proofs.Sound.{asked_is, definition_is}
use Rattle.wfs_requests.specs.Base.{children_of, base_of}
use Rattle.wfs_requests.specs.Capabilities.{capabilities_others, next_accepted, capabilities_of}
use Rattle.wfs_requests.specs.Describing.{next_type, types_others, types_of}
use Rattle.wfs_requests.specs.Fetching.{next_asked, all_asked, features_others, features_of, locked_others, locked_of, lock_others, new_lock, renewal, lock_for, lock_request, only_asked, place_asked, with_name, values_asked, values_others, values_request}
use Rattle.wfs_requests.specs.StoredQueries.{bare_of, list_of, next_id, described_of, next_stored, created_of, drop_others, drop_of}
use Rattle.wfs_requests.specs.Requests.{root_of, request_by, request_of}
use Rattle.wfs_requests.proofs.Readings.{or_fault_ok, unless_ok, kept, pushed, flat}
use Rattle.wfs_requests.proofs.Changed.{property_is, kind_known, transaction_is}

-- ---- periods

some_is : (n m : ℕ) → Some n ≡ Some m → n ≡ m
some_is n m h = cc

abbrev IsPeriod : ℕ → Type 0
IsPeriod n = 1 ≤ n

not_zero : (n : ℕ) → (n == 0) ≡ false → 1 ≤ n
not_zero n h = grind (arith, nat_tests)

from_1 : (n m : ℕ) → from_1_on n ≡ Some m → 1 ≤ m
from_1 n m h = elim (chosen (n == 0) None (Some n) (Some m) h) [
  | inl g ↦ absurd (cc g.1)
  | inr g ↦ subst IsPeriod (some_is n m g.1) (not_zero n g.0)
]

seconds_some : (o : Option ℕ) (m : ℕ) → option_and_then from_1_on o ≡ Some m → 1 ≤ m
seconds_some None m h = absurd cc
seconds_some (Some n) m h = from_1 n m h

seconds_are : (text : List ℕ) (m : ℕ) → seconds_in text ≡ Some m → 1 ≤ m
unfolding seconds_in
seconds_are text m h = seconds_some (count_of text) m h

read_some : (text : Option (List ℕ)) (fault : AskFault) (r : Option ℕ) → read_if seconds_in fault text ≡ Ok r → IfSome r IsPeriod
read_some None fault r h = subst (λ (x : Option ℕ). IfSome x IsPeriod) (ok_is AskFault None r h) tt
read_some (Some text) fault r h =
    let n = bind_ok (or_fault (seconds_in text) fault) (λ x. Ok (Some x)) r h in
    subst (λ (x : Option ℕ). IfSome x IsPeriod) (ok_is AskFault (Some n.0) r n.2) (seconds_are text n.0 (or_fault_ok (seconds_in text) fault n.0 n.1))

expiry_is : (said : Said) (r : Option ℕ) → expiry_of said ≡ Ok r → IfSome r IsPeriod
unfolding expiry_of
expiry_is said r h = read_some (said (codes "expiry")) _ r h

or_300 : (r : Option ℕ) → IfSome r IsPeriod → 1 ≤ unwrap_or r 300
or_300 None h = omega arith
or_300 (Some n) h = h

period_is : (said : Said) (n : ℕ) → period_of said ≡ Ok n → 1 ≤ n
unfolding period_of
period_is said n h =
    let expiry = bind_ok (expiry_of said) (λ expiry. Ok (unwrap_or expiry 300)) n h in
    subst IsPeriod (ok_is AskFault (unwrap_or expiry.0 300) n expiry.2) (or_300 expiry.0 (expiry_is said expiry.0 expiry.1))

module _ (schema : Schema) where
  abbrev Is : Request → Type 0
  Is request = IsOfSchema schema request

  -- ---- requests of which nothing is asked

  no_type : All (IsType schema) []
  no_type = All-nil (IsType schema)

  no_query : All (IsQueryOf schema 0) []
  no_query = All-nil (IsQueryOf schema 0)

  no_name : All (λ (name : List ℕ). 0 < length name) []
  no_name = All-nil (λ (name : List ℕ). 0 < length name)

  no_action : All (IsActionOf schema) []
  no_action = All-nil (IsActionOf schema)

  no_stored : All (IsStoredOf schema) []
  no_stored = All-nil (IsStoredOf schema)

  no_period : All IsPeriod []
  no_period = All-nil IsPeriod

  no_drop : All (λ (id : List ℕ). is_id_query id ≡ false) []
  no_drop = All-nil (λ (id : List ℕ). is_id_query id ≡ false)

  capabilities_is : Is Capabilities
  capabilities_is = record { types = no_type; queries = no_query; names = no_name; values = tt; actions = no_action; stored = no_stored; periods = no_period; kept = no_drop }

  list_is : Is ListStored
  list_is = record { types = no_type; queries = no_query; names = no_name; values = tt; actions = no_action; stored = no_stored; periods = no_period; kept = no_drop }

  described_is : (ids : List (List ℕ)) → Is (DescribeStored ids)
  described_is ids = record { types = no_type; queries = no_query; names = no_name; values = tt; actions = no_action; stored = no_stored; periods = no_period; kept = no_drop }

  types_are : (kinds : List ℕ) → All (IsType schema) kinds → Is (DescribeTypes kinds)
  types_are kinds known = record { types = known; queries = no_query; names = no_name; values = tt; actions = no_action; stored = no_stored; periods = no_period; kept = no_drop }

  created_is : (queries : List StoredQuery) → All (IsStoredOf schema) queries → Is (CreateStored queries)
  created_is queries are = record { types = no_type; queries = no_query; names = no_name; values = tt; actions = no_action; stored = are; periods = no_period; kept = no_drop }

  dropped_is : (id : List ℕ) → is_id_query id ≡ false → Is (DropStored id)
  dropped_is id other = record { types = no_type; queries = no_query; names = no_name; values = tt; actions = no_action; stored = no_stored; periods = no_period; kept = All-cons (λ (id : List ℕ). is_id_query id ≡ false) id [] other no_drop }

  some_period : (r : Option ℕ) → IfSome r IsPeriod → All IsPeriod (option_to_list r)
  some_period None h = no_period
  some_period (Some n) h = All-cons IsPeriod n [] h no_period

  renewed_is : (lock : LockId) (period : Option ℕ) → IfSome period IsPeriod → Is (Renew lock period)
  renewed_is lock period h = record { types = no_type; queries = no_query; names = no_name; values = tt; actions = no_action; stored = no_stored; periods = some_period period h; kept = no_drop }

  -- ---- what is asked

  abbrev AreAsked : List Asked → Type 0
  AreAsked asked = All (IsAskedOf schema) asked

  asked_good : (e : Element) (asked : Asked) → asked_of schema e ≡ Ok asked → IsAskedOf schema asked
  asked_good e asked h = asked_is schema e (Ok asked) h

  asked_more : (found more : List Asked) (e : Element) → AreAsked found → next_asked schema found e ≡ Ok more → AreAsked more
  unfolding next_asked
  asked_more found more e so_far h = pushed (asked_of schema e) (IsAskedOf schema) found more (asked_good e) so_far h

  all_good : (e : Element) (asked : List Asked) → all_asked schema e ≡ Ok asked → AreAsked asked
  unfolding all_asked
  all_good e asked h =
      let read = bind_ok (each (next_asked schema) [] (children_of e)) _ asked h in
      let some = bind_ok (unless (length (children_of e) == 0) (misplaced e)) (λ _. Ok read.0) asked read.2 in
      subst AreAsked (ok_is AskFault read.0 asked some.2) (kept (next_asked schema) AreAsked asked_more (children_of e) [] read.0 (All-nil (IsAskedOf schema)) read.1)

  queries_are : (asked : List Asked) → AreAsked asked → All (IsQueryOf schema 0) (flat_map query_in asked)
  queries_are asked are = flat (IsQueryOf schema 0) (IsAskedOf schema) query_in (λ a is. is.queries) asked are

  names_are : (asked : List Asked) → AreAsked asked → All (λ (name : List ℕ). 0 < length name) (flat_map names_given asked)
  names_are asked are = flat (λ (name : List ℕ). 0 < length name) (IsAskedOf schema) names_given (λ a is. is.names) asked are

  features_are : (present : Present) (asked : List Asked) → AreAsked asked → Is (GetFeatures present asked)
  features_are present asked are = record { types = no_type; queries = queries_are asked are; names = names_are asked are; values = tt; actions = no_action; stored = no_stored; periods = no_period; kept = no_drop }

  locked_are : (present : Present) (asked : List Asked) (take : Take) (period : ℕ) → AreAsked asked → 1 ≤ period → Is (GetLocked present asked take period)
  locked_are present asked take period are long = record { types = no_type; queries = queries_are asked are; names = names_are asked are; values = tt; actions = no_action; stored = no_stored; periods = All-cons IsPeriod period [] long no_period; kept = no_drop }

  lock_is : (asked : List Asked) (take : Take) (period : ℕ) → AreAsked asked → 1 ≤ period → Is (Lock asked take period)
  lock_is asked take period are long = record { types = no_type; queries = queries_are asked are; names = names_are asked are; values = tt; actions = no_action; stored = no_stored; periods = All-cons IsPeriod period [] long no_period; kept = no_drop }

  one_asked : (asked : Asked) → IsAskedOf schema asked → AreAsked (asked ∷ [])
  one_asked asked is = All-cons (IsAskedOf schema) asked [] is (All-nil (IsAskedOf schema))

  plain_values : (present : Present) (query : Query) (property : ℕ) → IsAskedOf schema (Plain query)
      → (p : Property) × (property_at schema query.kind property ≡ Some p) → Is (GetValues present (Plain query) property)
  plain_values present query property is found = record { types = no_type; queries = queries_are (Plain query ∷ []) (one_asked (Plain query) is); names = no_name; values = found; actions = no_action; stored = no_stored; periods = no_period; kept = no_drop }

  stored_values : (present : Present) (id : List ℕ) (given : List (List ℕ × List ℕ)) (property : ℕ) → Is (GetValues present (Stored id given) property)
  stored_values present id given property = record { types = no_type; queries = no_query; names = no_name; values = tt; actions = no_action; stored = no_stored; periods = no_period; kept = no_drop }

  -- ---- each operation

  capabilities_read : (e : Element) (request : Request) → capabilities_of e ≡ Ok request → Is request
  unfolding capabilities_of
  capabilities_read e request h =
      let base = bind_ok (base_of e) _ request h in
      let others = bind_ok (capabilities_others e) _ request base.2 in
      let found = bind_ok (each next_accepted None (children_of e)) _ request others.2 in
      let good = bind_ok (negotiated (unwrap_or found.0 [])) (λ _. Ok Capabilities) request found.2 in
      subst Is (ok_is AskFault Capabilities request good.2) capabilities_is

  type_more : (found more : List ℕ) (e : Element) → All (IsType schema) found → next_type schema found e ≡ Ok more → All (IsType schema) more
  unfolding next_type
  type_more found more e so_far h =
      let is = bind_ok (unless (not (is_wfs (codes "TypeName") e)) (misplaced e)) _ more h in
      let none = bind_ok (no_others [] e) _ more is.2 in
      let name = bind_ok (text_in e) _ more none.2 in
      pushed (kind_of schema (codes "TypeName") name.0) (IsType schema) found more (kind_known schema (codes "TypeName") name.0) so_far name.2

  types_read : (e : Element) (request : Request) → types_of schema e ≡ Ok request → Is request
  unfolding types_of
  types_read e request h =
      let base = bind_ok (base_of e) _ request h in
      let format = bind_ok (format_of (codes "outputFormat") (said_at e)) _ request base.2 in
      let others = bind_ok (types_others e) _ request format.2 in
      let kinds = bind_ok (each (next_type schema) [] (children_of e)) (λ kinds. Ok (DescribeTypes kinds)) request others.2 in
      subst Is (ok_is AskFault (DescribeTypes kinds.0) request kinds.2)
      (types_are kinds.0 (kept (next_type schema) (All (IsType schema)) type_more (children_of e) [] kinds.0 no_type kinds.1))

  features_read : (e : Element) (request : Request) → features_of schema e ≡ Ok request → Is request
  unfolding features_of
  features_read e request h =
      let base = bind_ok (base_of e) _ request h in
      let page = bind_ok (page_of (said_at e)) _ request base.2 in
      let others = bind_ok (features_others e) _ request page.2 in
      let asked = bind_ok (all_asked schema e) (λ asked. Ok (GetFeatures (presented page.0 None) asked)) request others.2 in
      subst Is (ok_is AskFault (GetFeatures (presented page.0 None) asked.0) request asked.2)
      (features_are (presented page.0 None) asked.0 (all_good e asked.0 asked.1))

  locked_read : (e : Element) (request : Request) → locked_of schema e ≡ Ok request → Is request
  unfolding locked_of
  locked_read e request h =
      let base = bind_ok (base_of e) _ request h in
      let page = bind_ok (locked_page_of (said_at e)) _ request base.2 in
      let period = bind_ok (period_of (said_at e)) _ request page.2 in
      let take = bind_ok (take_of (said_at e)) _ request period.2 in
      let others = bind_ok (locked_others e) _ request take.2 in
      let asked = bind_ok (all_asked schema e) (λ asked. Ok (GetLocked (presented page.0 None) asked take.0 period.0)) request others.2 in
      subst Is (ok_is AskFault (GetLocked (presented page.0 None) asked.0 take.0 period.0) request asked.2)
      (locked_are (presented page.0 None) asked.0 take.0 period.0 (all_good e asked.0 asked.1) (period_is (said_at e) period.0 period.1))

  new_read : (e : Element) (take : Take) (request : Request) → new_lock schema e take ≡ Ok request → Is request
  unfolding new_lock
  new_read e take request h =
      let asked = bind_ok (all_asked schema e) _ request h in
      let period = bind_ok (period_of (said_at e)) (λ period. Ok (Lock asked.0 take period)) request asked.2 in
      subst Is (ok_is AskFault (Lock asked.0 take period.0) request period.2)
      (lock_is asked.0 take period.0 (all_good e asked.0 asked.1) (period_is (said_at e) period.0 period.1))

  renewal_read : (e : Element) (lock : LockId) (expiry : Option ℕ) (request : Request) → IfSome expiry IsPeriod → renewal e lock expiry ≡ Ok request → Is request
  unfolding renewal
  renewal_read e lock expiry request long h =
      let none = bind_ok (unless (not (length (children_of e) == 0)) _) (λ _. Ok (Renew lock expiry)) request h in
      subst Is (ok_is AskFault (Renew lock expiry) request none.2) (renewed_is lock expiry long)

  lock_read_for : (e : Element) (expiry : Option ℕ) (take : Take) (lock : Option LockId) (request : Request) → IfSome expiry IsPeriod → lock_for schema e expiry take lock ≡ Ok request → Is request
  lock_read_for e expiry take None request long h = new_read e take request h
  lock_read_for e expiry take (Some lock) request long h = renewal_read e lock expiry request long h

  lock_read : (e : Element) (request : Request) → lock_request schema e ≡ Ok request → Is request
  unfolding lock_request
  lock_read e request h =
      let base = bind_ok (base_of e) _ request h in
      let lock = bind_ok (lock_of (said_at e)) _ request base.2 in
      let expiry = bind_ok (expiry_of (said_at e)) _ request lock.2 in
      let take = bind_ok (take_of (said_at e)) _ request expiry.2 in
      let others = bind_ok (lock_others e) _ request take.2 in
      lock_read_for e expiry.0 take.0 lock.0 request (expiry_is (said_at e) expiry.0 expiry.1) others.2

  only_good : (whole : Element) (es : List Element) (asked : Asked) → only_asked schema whole es ≡ Ok asked → IsAskedOf schema asked
  only_good whole [] asked h = absurd cc
  only_good whole (e ∷ rest) asked h =
      let read = bind_ok (asked_of schema e) _ asked h in
      let end = bind_ok (no_children rest) (λ _. Ok read.0) asked read.2 in
      subst (IsAskedOf schema) (ok_is AskFault read.0 asked end.2) (asked_good e read.0 read.1)

  asked_values : (present : Present) (name : List ℕ) (asked : Asked) (place : ℕ) → IsAskedOf schema asked → place_asked schema name asked ≡ Ok place
      → Is (GetValues present (with_name name asked) place)
  asked_values present name (Plain query) place is h = plain_values present query place is (property_is schema query.kind name place h)
  asked_values present name (Stored id given) place is h = stored_values present id (given ++ ([], name) ∷ []) place

  values_good : (present : Present) (name : List ℕ) (asked : Asked) (request : Request) → IsAskedOf schema asked → values_asked schema present name asked ≡ Ok request → Is request
  unfolding values_asked
  values_good present name asked request is h =
      let place = bind_ok (place_asked schema name asked) (λ place. Ok (GetValues present (with_name name asked) place)) request h in
      subst Is (ok_is AskFault (GetValues present (with_name name asked) place.0) request place.2) (asked_values present name asked place.0 is place.1)

  values_read : (e : Element) (request : Request) → values_request schema e ≡ Ok request → Is request
  unfolding values_request
  values_read e request h =
      let base = bind_ok (base_of e) _ request h in
      let page = bind_ok (page_of (said_at e)) _ request base.2 in
      let name = bind_ok (required_of (codes "valueReference") (said_at e)) _ request page.2 in
      let others = bind_ok (values_others e) _ request name.2 in
      let asked = bind_ok (only_asked schema e (children_of e)) _ request others.2 in
      values_good (presented page.0 None) name.0 asked.0 request (only_good e (children_of e) asked.0 asked.1) asked.2

  list_read : (e : Element) (request : Request) → list_of e ≡ Ok request → Is request
  unfolding list_of
  list_read e request h =
      let bare = bind_ok (bare_of e) _ request h in
      let none = bind_ok (no_children (children_of e)) (λ _. Ok ListStored) request bare.2 in
      subst Is (ok_is AskFault ListStored request none.2) list_is

  described_read : (e : Element) (request : Request) → described_of e ≡ Ok request → Is request
  unfolding described_of
  described_read e request h =
      let bare = bind_ok (bare_of e) _ request h in
      let ids = bind_ok (each next_id [] (children_of e)) (λ ids. Ok (DescribeStored ids)) request bare.2 in
      subst Is (ok_is AskFault (DescribeStored ids.0) request ids.2) (described_is ids.0)

  stored_good : (e : Element) (stored : StoredQuery) → definition_of schema e ≡ Ok stored → IsStoredOf schema stored
  stored_good e stored h = definition_is schema e (Ok stored) h

  stored_more : (found more : List StoredQuery) (e : Element) → All (IsStoredOf schema) found → next_stored schema found e ≡ Ok more → All (IsStoredOf schema) more
  unfolding next_stored
  stored_more found more e so_far h = pushed (definition_of schema e) (IsStoredOf schema) found more (stored_good e) so_far h

  created_read : (e : Element) (request : Request) → created_of schema e ≡ Ok request → Is request
  unfolding created_of
  created_read e request h =
      let bare = bind_ok (bare_of e) _ request h in
      let queries = bind_ok (each (next_stored schema) [] (children_of e)) _ request bare.2 in
      let some = bind_ok (unless (length (children_of e) == 0) (misplaced e)) (λ _. Ok (CreateStored queries.0)) request queries.2 in
      subst Is (ok_is AskFault (CreateStored queries.0) request some.2)
      (created_is queries.0 (kept (next_stored schema) (All (IsStoredOf schema)) stored_more (children_of e) [] queries.0 no_stored queries.1))

  other_id : (said : Said) (id : List ℕ) → dropped_of (codes "id") said ≡ Ok id → is_id_query id ≡ false
  unfolding dropped_of
  other_id said id h =
      let read = bind_ok (required_of (codes "id") said) _ id h in
      let other = bind_ok (unless (is_id_query read.0) _) (λ _. Ok read.0) id read.2 in
      subst (λ (x : List ℕ). is_id_query x ≡ false) (ok_is AskFault read.0 id other.2) (unless_ok (is_id_query read.0) _ other.0 other.1)

  drop_read : (e : Element) (request : Request) → drop_of e ≡ Ok request → Is request
  unfolding drop_of
  drop_read e request h =
      let base = bind_ok (base_of e) _ request h in
      let id = bind_ok (dropped_of (codes "id") (said_at e)) _ request base.2 in
      let others = bind_ok (drop_others e) _ request id.2 in
      let none = bind_ok (no_children (children_of e)) (λ _. Ok (DropStored id.0)) request others.2 in
      subst Is (ok_is AskFault (DropStored id.0) request none.2) (dropped_is id.0 (other_id (said_at e) id.0 id.1))

  by_operation : (e : Element) (operation : Operation) (request : Request) → request_by schema e operation ≡ Ok request → Is request
  by_operation e GetCapabilities request h = capabilities_read e request h
  by_operation e DescribeFeatureType request h = types_read e request h
  by_operation e GetPropertyValue request h = values_read e request h
  by_operation e GetFeature request h = features_read e request h
  by_operation e GetFeatureWithLock request h = locked_read e request h
  by_operation e LockFeature request h = lock_read e request h
  by_operation e Transaction request h = transaction_is schema e request h
  by_operation e ListStoredQueries request h = list_read e request h
  by_operation e DescribeStoredQueries request h = described_read e request h
  by_operation e CreateStoredQuery request h = created_read e request h
  by_operation e DropStoredQuery request h = drop_read e request h

  read_is : (e : Element) (request : Request) → request_of e schema ≡ Ok request → Is request
  unfolding request_of
  read_is e request h =
      let operation = bind_ok (root_of e) (request_by schema e) request h in
      by_operation e operation.0 request operation.2

pub request_is : (schema : Schema) (e : Element) (r : Result Request AskFault) → GivesBut OutOfMemory (λ request. request) r (request_of e schema) → IfOk r (λ request. IsOfSchema schema request)
request_is schema e (Ok request) h = read_is schema e request h
request_is schema e (Err fault) h = tt
