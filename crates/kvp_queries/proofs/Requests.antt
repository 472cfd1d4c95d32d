-- Each request that a query asks is of the schema.
use Rattle.std.proofs.Common.{◌≡◌, ℕ, ◌<◌, ◌≤◌, true, false, List, [], ◌∷◌, length, map, filter, Option, Some, None, Result, Ok, Err, sym, subst, ◌⊎◌, inl, inr, arith}
use Rattle.std.specs.Prelude.{codes, All, IfOk}
use Rattle.std.specs.List.{flat_map}
use Rattle.std.specs.Option.{option_to_list}
use Rattle.std.proofs.lemmas.Bool.{cases_Bool}
use Rattle.std.proofs.lemmas.List.{append-nil}
use Rattle.std.proofs.lemmas.List.Elements.{All-nil, All-cons}
use Rattle.wfs_ends.specs.Read.{GivesBut, each, unless}
use Rattle.wfs_ends.proofs.Turns.{bind_ok, ok_is}
use Rattle.feature_values.specs.declared.schema.Schema.{Schema}
use Rattle.fes_filter.specs.declared.query.Query.{Query}
use Rattle.lock_table.specs.declared.id.LockId.{LockId}
use Rattle.wfs_model.specs.Terms.{refused}
use Rattle.wfs_model.specs.declared.asked.Asked.{Asked}
use Rattle.wfs_model.specs.declared.asked.Asked.TheVariants.{Plain, Stored}
use Rattle.wfs_model.specs.declared.asked.Present.{Present}
use Rattle.wfs_model.specs.declared.fault.AskFault.{AskFault}
use Rattle.wfs_model.specs.declared.fault.AskFault.TheVariants.{OutOfMemory}
use Rattle.wfs_model.specs.declared.request.Take.{Take}
use Rattle.wfs_model.specs.declared.request.Request.{Request}
use Rattle.wfs_model.specs.declared.request.Request.TheVariants.{Capabilities, DescribeTypes, GetFeatures, GetValues, GetLocked, Lock, Renew, ListStored, DescribeStored, DropStored}
use Rattle.wfs_model.specs.Stored.{is_id_query}
use Rattle.wfs_model.specs.OfSchema.{IsType, IsQueryOf, IsActionOf, IsStoredOf, IsOfSchema, query_in, names_given}
use Rattle.request_parameters.specs.Said.{Said, Ask, required_of}
use Rattle.request_parameters.specs.Base.{format_of, negotiated}
use Rattle.request_parameters.specs.Paging.{page_of, locked_page_of, presented}
use Rattle.request_parameters.specs.Locking.{take_of, lock_of, expiry_of, period_of}
use Rattle.request_parameters.specs.Stored.{dropped_of}
use Rattle.request_parameters.specs.declared.operation.Operation.{Operation}
use Rattle.request_parameters.specs.declared.operation.Operation.TheVariants as Op
use Rattle.kvp_queries.specs.Pairs.{Pair, pairs_of, listed_of, said_by, counts, is_parameter, parameters_of, link_of}
use Rattle.kvp_queries.specs.Lists.{items_if}
use Rattle.kvp_queries.specs.Selection.{type_names_of}
use Rattle.kvp_queries.specs.Asking.{query_of, stored_id, enough_of, asked_with, asked_by, property_of, valued}
use Rattle.kvp_queries.specs.Request.{base_of, capabilities_of, next_type, types_of, described_of, drop_of, features_of, values_of, locked_of, new_lock, asks_for_features, renewed, lock_by, lock_asked, request_of, judged, asked_of}
use Rattle.kvp_queries.proofs.Sound.{unless_ok, FromOne, expiry_is, period_is, types_all, query_is, property_is}

-- ---- names of parameters

abbrev Named : List ℕ → Type 0
Named name = 0 < length name

counts_named : (pair : Pair) → counts pair ≡ true → Named pair.0
unfolding counts
counts_named pair h = grind (arith, h)

parameter_named : (operation : Operation) (pair : Pair) → is_parameter operation pair ≡ true → Named pair.0
unfolding is_parameter
parameter_named operation pair h = by (cases_Bool (counts pair))
  where
    by : (counts pair ≡ true) ⊎ (counts pair ≡ false) → Named pair.0
    by (inl c) = counts_named pair c
    by (inr c) = absurd (cc (rw c at h))

parameters_named : (operation : Operation) (pairs : List Pair) → All Named (map (λ g. g.0) (filter (is_parameter operation) pairs))
parameters_named operation [] = All-nil Named
parameters_named operation (pair ∷ pairs) = by (cases_Bool (is_parameter operation pair)) (parameters_named operation pairs)
  where
    by : (is_parameter operation pair ≡ true) ⊎ (is_parameter operation pair ≡ false) → All Named (map (λ g. g.0) (filter (is_parameter operation) pairs)) → All Named (map (λ g. g.0) (filter (is_parameter operation) (pair ∷ pairs)))
    by (inl given) rest = rw given (All-cons Named pair.0 (map (λ g. g.0) (filter (is_parameter operation) pairs)) (parameter_named operation pair given) rest)
    by (inr other) rest = rw other rest

module _ (schema : Schema) where
  -- ---- what is asked for

  record IsAsked (asked : Asked) : Type 0 where
    pub queries : All (IsQueryOf schema 0) (flat_map query_in (asked ∷ []))
    pub names : All Named (flat_map names_given (asked ∷ []))

  asked_if : (operation : Operation) (pairs : List Pair) (query : Query) (id : Option (List ℕ)) → IsQueryOf schema 0 query → IsAsked (asked_with operation pairs query id)
  unfolding parameters_of
  asked_if operation pairs query None is = record {
    queries = All-cons (IsQueryOf schema 0) query [] is (All-nil (IsQueryOf schema 0));
    names = All-nil Named;
  }
  asked_if operation pairs query (Some id) is = record {
    queries = All-nil (IsQueryOf schema 0);
    names = subst (All Named) (sym (append-nil (map (λ g. g.0) (filter (is_parameter operation) pairs)))) (parameters_named operation pairs);
  }

  asked_is : (operation : Operation) (pairs : List Pair) (said : Said) (query : Query) → query_of schema said ≡ Ok query → IsAsked (asked_by operation pairs said query)
  unfolding asked_by
  asked_is operation pairs said query h = asked_if operation pairs query (stored_id said) (query_is schema said query h)

  -- ---- requests

  abbrev Fine : Request → Type 0
  Fine request = IsOfSchema schema request

  abbrev Reads : Ask Request → Type 0
  Reads read = (request : Request) → read ≡ Ok request → Fine request

  abbrev no_types : All (IsType schema) []
  no_types = All-nil (IsType schema)

  abbrev no_actions : All (IsActionOf schema) []
  no_actions = All-nil (IsActionOf schema)

  abbrev no_stored : All (IsStoredOf schema) []
  no_stored = All-nil (IsStoredOf schema)

  abbrev IsKept : List ℕ → Type 0
  IsKept id = is_id_query id ≡ false

  described_types : (kinds : List ℕ) → All (IsType schema) kinds → Fine (DescribeTypes kinds)
  described_types kinds all = record {
    types = all;
    queries = All-nil (IsQueryOf schema 0);
    names = All-nil Named;
    values = tt;
    actions = no_actions;
    stored = no_stored;
    periods = All-nil FromOne;
    kept = All-nil IsKept;
  }

  nothing_asked : (request : Request) → (request ≡ Capabilities) ⊎ ((request ≡ ListStored) ⊎ ((ids : List (List ℕ)) × (request ≡ DescribeStored ids))) → Fine request
  nothing_asked request (inl is) = subst Fine (sym is) (record {
    types = no_types;
    queries = All-nil (IsQueryOf schema 0);
    names = All-nil Named;
    values = tt;
    actions = no_actions;
    stored = no_stored;
    periods = All-nil FromOne;
    kept = All-nil IsKept;
  })
  nothing_asked request (inr (inl is)) = subst Fine (sym is) (record {
    types = no_types;
    queries = All-nil (IsQueryOf schema 0);
    names = All-nil Named;
    values = tt;
    actions = no_actions;
    stored = no_stored;
    periods = All-nil FromOne;
    kept = All-nil IsKept;
  })
  nothing_asked request (inr (inr (ids, is))) = subst Fine (sym is) (record {
    types = no_types;
    queries = All-nil (IsQueryOf schema 0);
    names = All-nil Named;
    values = tt;
    actions = no_actions;
    stored = no_stored;
    periods = All-nil FromOne;
    kept = All-nil IsKept;
  })

  dropped_fine : (id : List ℕ) → IsKept id → Fine (DropStored id)
  dropped_fine id kept = record {
    types = no_types;
    queries = All-nil (IsQueryOf schema 0);
    names = All-nil Named;
    values = tt;
    actions = no_actions;
    stored = no_stored;
    periods = All-nil FromOne;
    kept = All-cons IsKept id [] kept (All-nil IsKept);
  }

  features_fine : (present : Present) (asked : Asked) → IsAsked asked → Fine (GetFeatures present (asked ∷ []))
  features_fine present asked is = record {
    types = no_types;
    queries = is.queries;
    names = is.names;
    values = tt;
    actions = no_actions;
    stored = no_stored;
    periods = All-nil FromOne;
    kept = All-nil IsKept;
  }

  locked_fine : (present : Present) (asked : Asked) (take : Take) (period : ℕ) → IsAsked asked → 1 ≤ period → Fine (GetLocked present (asked ∷ []) take period)
  locked_fine present asked take period is one = record {
    types = no_types;
    queries = is.queries;
    names = is.names;
    values = tt;
    actions = no_actions;
    stored = no_stored;
    periods = All-cons FromOne period [] one (All-nil FromOne);
    kept = All-nil IsKept;
  }

  lock_fine : (asked : Asked) (take : Take) (period : ℕ) → IsAsked asked → 1 ≤ period → Fine (Lock (asked ∷ []) take period)
  lock_fine asked take period is one = record {
    types = no_types;
    queries = is.queries;
    names = is.names;
    values = tt;
    actions = no_actions;
    stored = no_stored;
    periods = All-cons FromOne period [] one (All-nil FromOne);
    kept = All-nil IsKept;
  }

  renewed_fine : (lock : LockId) (expiry : Option ℕ) → All FromOne (option_to_list expiry) → Fine (Renew lock expiry)
  renewed_fine lock expiry all = record {
    types = no_types;
    queries = All-nil (IsQueryOf schema 0);
    names = All-nil Named;
    values = tt;
    actions = no_actions;
    stored = no_stored;
    periods = all;
    kept = All-nil IsKept;
  }

  -- ---- what operations read

  capabilities_is : (said : Said) → Reads (capabilities_of said)
  unfolding capabilities_of
  capabilities_is said request h =
      let versions = bind_ok (negotiated (items_if (said (codes "acceptVersions")))) _ request h in
      nothing_asked request (inl (sym (ok_is AskFault Capabilities request versions.2)))

  types_is : (said : Said) → Reads (types_of schema said)
  unfolding types_of
  types_is said request h =
      let kinds = bind_ok (each (next_type schema) [] (items_if (type_names_of said))) _ request h in
      let format = bind_ok (format_of (codes "outputFormat") said) _ request kinds.2 in
      subst Fine (ok_is AskFault (DescribeTypes kinds.0) request format.2)
      (described_types kinds.0 (types_all schema (items_if (type_names_of said)) [] kinds.0 no_types kinds.1))

  described_is : (said : Said) → Reads (described_of said)
  unfolding described_of
  described_is said request h =
      nothing_asked request (inr (inr (items_if (stored_id said), sym (ok_is AskFault (DescribeStored (items_if (stored_id said))) request h))))

  drop_is : (said : Said) → Reads (drop_of said)
  unfolding drop_of dropped_of
  drop_is said request h =
      let id = bind_ok (dropped_of (codes "storedQuery_id") said) (λ id. Ok (DropStored id)) request h in
      let text = bind_ok (required_of (codes "storedQuery_id") said) _ id.0 id.1 in
      let other = bind_ok (unless (is_id_query text.0) (refused 12 (codes "storedQuery_id"))) (λ _. Ok text.0) id.0 text.2 in
      let kept : IsKept id.0 = subst IsKept (ok_is AskFault text.0 id.0 other.2) (unless_ok (is_id_query text.0) (refused 12 (codes "storedQuery_id")) other.0 other.1) in
      subst Fine (ok_is AskFault (DropStored id.0) request id.2) (dropped_fine id.0 kept)

  module _ (pairs : List Pair) (said : Said) where
    features_is : Reads (features_of schema pairs said)
    unfolding features_of
    features_is request h =
        let page = bind_ok (page_of said) _ request h in
        let query = bind_ok (query_of schema said) _ request page.2 in
        let enough = bind_ok (enough_of said) _ request query.2 in
        subst Fine (ok_is AskFault (GetFeatures (presented page.0 (Some (link_of schema.address pairs))) (asked_by Op.GetFeature pairs said query.0 ∷ [])) request enough.2)
        (features_fine _ (asked_by Op.GetFeature pairs said query.0) (asked_is Op.GetFeature pairs said query.0 query.1))

    abbrev Valued : Present → Asked × ℕ → Type 0
    Valued present asked = Fine (GetValues present asked.0 asked.1)

    valued_is : (present : Present) (query : Query) (name : List ℕ) (id : Option (List ℕ)) (asked : Asked × ℕ) → IsQueryOf schema 0 query → valued schema pairs query name id ≡ Ok asked → Valued present asked
    valued_is present query name None asked is h =
        let property = bind_ok (property_of schema query.kind name) (λ property. Ok (Plain query, property)) asked h in
        subst (Valued present) (ok_is AskFault (Plain query, property.0) asked property.2) (record {
          types = no_types;
          queries = All-cons (IsQueryOf schema 0) query [] is (All-nil (IsQueryOf schema 0));
          names = All-nil Named;
          values = property_is schema query.kind name property.0 property.1;
          actions = no_actions;
          stored = no_stored;
          periods = All-nil FromOne;
          kept = All-nil IsKept;
        })
    valued_is present query name (Some id) asked is h =
        subst (Valued present) (ok_is AskFault (Stored id (([], name) ∷ parameters_of Op.GetPropertyValue pairs), 0) asked h) (record {
          types = no_types;
          queries = All-nil (IsQueryOf schema 0);
          names = All-nil Named;
          values = tt;
          actions = no_actions;
          stored = no_stored;
          periods = All-nil FromOne;
          kept = All-nil IsKept;
        })

    values_is : Reads (values_of schema pairs said)
    unfolding values_of
    values_is request h =
        let page = bind_ok (page_of said) _ request h in
        let query = bind_ok (query_of schema said) _ request page.2 in
        let name = bind_ok (required_of (codes "valueReference") said) _ request query.2 in
        let enough = bind_ok (enough_of said) _ request name.2 in
        let asked = bind_ok (valued schema pairs query.0 name.0 (stored_id said)) _ request enough.2 in
        subst Fine (ok_is AskFault (GetValues (presented page.0 (Some (link_of schema.address pairs))) asked.0.0 asked.0.1) request asked.2)
        (valued_is _ query.0 name.0 (stored_id said) asked.0 (query_is schema said query.0 query.1) asked.1)

    locked_is : Reads (locked_of schema pairs said)
    unfolding locked_of
    locked_is request h =
        let page = bind_ok (locked_page_of said) _ request h in
        let query = bind_ok (query_of schema said) _ request page.2 in
        let period = bind_ok (period_of said) _ request query.2 in
        let take = bind_ok (take_of said) _ request period.2 in
        let enough = bind_ok (enough_of said) _ request take.2 in
        subst Fine (ok_is AskFault (GetLocked (presented page.0 None) (asked_by Op.GetFeatureWithLock pairs said query.0 ∷ []) take.0 period.0) request enough.2)
        (locked_fine _ (asked_by Op.GetFeatureWithLock pairs said query.0) take.0 period.0 (asked_is Op.GetFeatureWithLock pairs said query.0 query.1) (period_is said period.0 period.1))

    lock_is : (expiry : Option ℕ) (take : Take) (lock : Option LockId) → All FromOne (option_to_list expiry) → Reads (lock_by schema pairs said expiry take lock)
    unfolding new_lock renewed
    lock_is expiry take None all request h =
        let query = bind_ok (query_of schema said) _ request h in
        let enough = bind_ok (enough_of said) _ request query.2 in
        let period = bind_ok (period_of said) _ request enough.2 in
        subst Fine (ok_is AskFault (Lock (asked_by Op.LockFeature pairs said query.0 ∷ []) take period.0) request period.2)
        (lock_fine (asked_by Op.LockFeature pairs said query.0) take period.0 (asked_is Op.LockFeature pairs said query.0 query.1) (period_is said period.0 period.1))
    lock_is expiry take (Some lock) all request h =
        let none = bind_ok (unless (asks_for_features said) (refused 11 (codes "lockId"))) _ request h in
        subst Fine (ok_is AskFault (Renew lock expiry) request none.2) (renewed_fine lock expiry all)

    lock_asked_is : Reads (lock_asked schema pairs said)
    unfolding lock_asked
    lock_asked_is request h =
        let lock = bind_ok (lock_of said) _ request h in
        let expiry = bind_ok (expiry_of said) _ request lock.2 in
        let take = bind_ok (take_of said) _ request expiry.2 in
        lock_is expiry.0 take.0 lock.0 (expiry_is said expiry.0 expiry.1) request take.2

    request_is : (operation : Operation) → Reads (request_of schema pairs said operation)
    unfolding request_of
    request_is Op.GetCapabilities request h = capabilities_is said request h
    request_is Op.DescribeFeatureType request h = types_is said request h
    request_is Op.GetPropertyValue request h = values_is request h
    request_is Op.GetFeature request h = features_is request h
    request_is Op.GetFeatureWithLock request h = locked_is request h
    request_is Op.LockFeature request h = lock_asked_is request h
    request_is Op.Transaction request h = absurd cc
    request_is Op.ListStoredQueries request h = nothing_asked request (inr (inl (sym (ok_is AskFault ListStored request h))))
    request_is Op.DescribeStoredQueries request h = described_is said request h
    request_is Op.CreateStoredQuery request h = absurd cc
    request_is Op.DropStoredQuery request h = drop_is said request h

    judged_is : Reads (judged schema pairs said)
    unfolding judged
    judged_is request h =
        let operation = bind_ok (base_of said) _ request h in
        request_is operation.0 request operation.2

  whole_is : (query : List ℕ) → Reads (asked_of query schema)
  unfolding asked_of
  whole_is query request h =
      let listed = bind_ok (listed_of (pairs_of query)) _ request h in
      judged_is (pairs_of query) (said_by listed.0) request listed.2

  -- what was read of a query is of the schema
  pub read_is : (query : List ℕ) (r : Result Request AskFault) → GivesBut OutOfMemory (λ x. x) r (asked_of query schema) → IfOk r (λ request. IsOfSchema schema request)
  read_is query (Ok request) h = whole_is query request h
  read_is query (Err fault) h = tt
