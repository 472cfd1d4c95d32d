-- Transactions that were read are of the schema.
use Rattle.std.proofs.Common.{◌≡◌, inl, inr, ℕ, false, ◌||◌, List, [], ◌∷◌, length, Option, Some, None, Result, Ok, Err, ap, subst}
use Rattle.std.specs.Prelude.{codes, ◌==◌, All, IfSome, slice_get}
use Rattle.std.specs.Option.{is_some, option_and_then}
use Rattle.std.proofs.lemmas.List.Elements.{All-nil, All-push}
use Rattle.wfs_ends.specs.Read.{each, unless}
use Rattle.wfs_ends.proofs.Turns.{bind_ok, chosen, ok_is}
use Rattle.doc_tree.specs.declared.tree.Element.{Element}
use Rattle.feature_values.specs.Ids.{type_named, property_named, without_prefix}
use Rattle.feature_values.specs.declared.schema.Schema.{Schema}
use Rattle.feature_values.specs.declared.schema.FeatureType.{FeatureType}
use Rattle.feature_values.specs.declared.schema.Property.{Property}
use Rattle.feature_values.specs.declared.schema.ValueKind.{ValueKind}
use Rattle.feature_values.specs.declared.value.Value.{Value}
use Rattle.feature_values.specs.declared.feature.Feature.{Feature}
use Rattle.fes_filter.specs.Check.{type_in, with_kind, property_in}
use Rattle.fes_filter.specs.declared.filter.Filter.{Filter}
use Rattle.fes_docs.specs.Filters.{filter_of}
use Rattle.fes_docs.specs.declared.fault.FilterDocFault.{FilterDocFault}
use Rattle.fes_docs.proofs.Judged.{filters_are_allowed}
use Rattle.fes_docs.proofs.Named.{and_then_some, map_some}
use Rattle.lock_table.specs.declared.id.LockId.{LockId}
use Rattle.lock_table.specs.declared.words.Release.{Release}
use Rattle.wfs_model.specs.declared.action.Action.{Action}
use Rattle.wfs_model.specs.declared.action.Action.TheVariants.{Insert, Update, Replace, Delete}
use Rattle.wfs_model.specs.declared.fault.AskFault.{AskFault}
use Rattle.wfs_model.specs.declared.request.Request.{Request}
use Rattle.wfs_model.specs.declared.request.Request.TheVariants.{Transact}
use Rattle.wfs_model.specs.Stored.{is_id_query}
use Rattle.wfs_model.specs.OfSchema.{IsType, property_at, IsFilterOf, IsQueryOf, IsStoredOf, IsNewOf, set_fits, IsSetOf, IsActionOf, IsOfSchema}
use Rattle.request_parameters.specs.Said.{required_of, kind_of}
use Rattle.request_parameters.specs.Base.{srs_of}
use Rattle.request_parameters.specs.Locking.{lock_of, release_of}
use Rattle.request_parameters.specs.Elements.{said_at, is_wfs, no_others, misplaced, no_children}
use Rattle.request_parameters.proofs.Named.{is_type}
use Rattle.wfs_requests.specs.Base.{children_of, base_of}
use Rattle.wfs_requests.specs.Changes.{type_of, sought, property_of, or_refusal, selected, only_filter}
use Rattle.wfs_requests.specs.Features.{feature_of}
use Rattle.wfs_requests.specs.Inserts.{income_of, income_others, next_feature, insert_of}
use Rattle.wfs_requests.specs.Updates.{reference_of, set_content, set_value, new_value, value_at, set_by, set_in, set_of, Changes, so_far, with_set, with_filter, next_change, update_others, update_of}
use Rattle.wfs_requests.specs.Actions.{replaced_by, replaced_in, replace_of, delete_others, delete_of, action_of}
use Rattle.wfs_requests.specs.Transactions.{next_action, transaction_others, transaction_of}
use Rattle.wfs_requests.specs.Values.{content_of, null_of}
use Rattle.wfs_requests.proofs.Readings.{or_fault_ok, kept, pushed}
use Rattle.wfs_requests.proofs.Fitting.{content_fits, null_fits, feature_is}
use Rattle.query_docs.proofs.Within.{filter_within}

-- ---- types, properties and filters

refusal_ok : (r : Result Filter FilterDocFault) (f : Filter) → or_refusal r ≡ Ok f → r ≡ Ok f
refusal_ok (Ok g) f h = ap Ok (ok_is AskFault g f h)
refusal_ok (Err fault) f h = absurd cc

found_at : (o : Option FeatureType) (name : List ℕ) (found : ℕ × ValueKind) → property_in o name ≡ Some found
    → (p : Property) × (option_and_then (λ t. slice_get t.properties found.0) o ≡ Some p)
found_at None name found h = absurd cc
found_at (Some t) name found h =
    let place = and_then_some (with_kind t) (property_named t (without_prefix name)) found h in
    let p = map_some (λ q. (place.0, q.kind)) (slice_get t.properties place.0) found place.2 in
    let same : place.0 ≡ found.0 = ap (λ (x : ℕ × ValueKind). x.0) p.2 in
    (p.0, subst (λ (i : ℕ). slice_get t.properties i ≡ Some p.0) same p.1)

sought_is : (name : List ℕ) (o : Option (ℕ × ValueKind)) (place : ℕ) → sought name o ≡ Ok place → (kind : ValueKind) × (o ≡ Some (place, kind))
sought_is name None place h = absurd cc
sought_is name (Some found) place h = (found.1, ap (λ (i : ℕ). Some (i, found.1)) (ok_is AskFault found.0 place h))

module _ (schema : Schema) where
  -- a property that was found is there
  pub property_is : (kind : Option ℕ) (name : List ℕ) (place : ℕ) → property_of schema kind name ≡ Ok place → (p : Property) × (property_at schema kind place ≡ Some p)
  unfolding property_of
  property_is kind name place h =
      let found = sought_is name (property_in (type_in schema kind) name) place h in
      found_at (type_in schema kind) name (place, found.0) found.1

  pub kind_known : (part name : List ℕ) (kind : ℕ) → kind_of schema part name ≡ Ok kind → IsType schema kind
  unfolding kind_of
  kind_known part name kind h = is_type schema (without_prefix name) kind (or_fault_ok (type_named schema (without_prefix name)) _ kind h)

  type_known : (e : Element) (kind : ℕ) → type_of schema e ≡ Ok kind → IsType schema kind
  unfolding type_of
  type_known e kind h =
      let name = bind_ok (required_of (codes "typeName") (said_at e)) _ kind h in
      kind_known (codes "typeName") name.0 kind name.2

  selected_is : (kind : ℕ) (e : Element) (f : Filter) → selected schema kind e ≡ Ok f → IsFilterOf schema (Some kind) 0 f
  unfolding selected
  selected_is kind e f h =
      let read : filter_of None schema (Some kind) e ≡ Ok f = refusal_ok (filter_of None schema (Some kind) e) f h in
      let within = filter_within None schema (Some kind) e f read in
      record { checked = filters_are_allowed None schema (Some kind) e f read; ids = within.ids; places = within.places }

  only_is : (kind : ℕ) (action : Element) (es : List Element) (f : Filter) → only_filter schema kind action es ≡ Ok f → IsFilterOf schema (Some kind) 0 f
  only_is kind action [] f h = absurd cc
  only_is kind action (e ∷ rest) f h =
      let filter = bind_ok (selected schema kind e) _ f h in
      let end = bind_ok (no_children rest) (λ _. Ok filter.0) f filter.2 in
      subst (IsFilterOf schema (Some kind) 0) (ok_is AskFault filter.0 f end.2) (selected_is kind e filter.0 filter.1)

  -- ---- Insert

  abbrev AreNew : List Feature → Type 0
  AreNew features = All (IsNewOf schema) features

  feature_more : (found more : List Feature) (e : Element) → AreNew found → next_feature schema found e ≡ Ok more → AreNew more
  unfolding next_feature
  feature_more found more e so_far h = pushed (feature_of schema e) (IsNewOf schema) found more (feature_is schema e) so_far h

  insert_is : (e : Element) (action : Action) → insert_of schema e ≡ Ok action → IsActionOf schema action
  unfolding insert_of
  insert_is e action h =
      let income = bind_ok (income_of schema.srs e) _ action h in
      let others = bind_ok (income_others e) _ action income.2 in
      let features = bind_ok (each (next_feature schema) [] (children_of e)) _ action others.2 in
      let some = bind_ok (unless (length (children_of e) == 0) (misplaced e)) (λ _. Ok (Insert (said_at e (codes "handle")) features.0)) action features.2 in
      subst (IsActionOf schema) (ok_is AskFault (Insert (said_at e (codes "handle")) features.0) action some.2)
      (kept (next_feature schema) AreNew feature_more (children_of e) [] features.0 (All-nil (IsNewOf schema)) features.1)

  -- ---- Update

  value_fits_it : (p : Property) (e : Element) (v : Value) → set_value schema.srs p e ≡ Ok v → set_fits (Some p) v ≡ Ok tt
  unfolding set_value set_content
  value_fits_it p e v h =
      let is = bind_ok (unless _ (misplaced e)) _ v h in
      let none = bind_ok (no_others [] e) _ v is.2 in
      elim (chosen _ (null_of p) (content_of schema.srs p e) (Ok v) none.2) [
        | inl g ↦ null_fits p v g.1
        | inr g ↦ content_fits schema.srs p e v g.1
      ]

  new_fits : (p : Property) (es : List Element) (v : Value) → new_value schema.srs p es ≡ Ok v → set_fits (Some p) v ≡ Ok tt
  new_fits p [] v h = null_fits p v h
  new_fits p (e ∷ rest) v h =
      let value = bind_ok (set_value schema.srs p e) _ v h in
      let end = bind_ok (no_children rest) (λ _. Ok value.0) v value.2 in
      subst (λ (x : Value). set_fits (Some p) x ≡ Ok tt) (ok_is AskFault value.0 v end.2) (value_fits_it p e value.0 value.1)

  at_fits : (name : List ℕ) (o : Option Property) (es : List Element) (v : Value) → value_at schema.srs name o es ≡ Ok v → set_fits o v ≡ Ok tt
  at_fits name None es v h = absurd cc
  at_fits name (Some p) es v h = new_fits p es v h

  abbrev SetIs : ℕ → ℕ × Value → Type 0
  SetIs kind set = IsSetOf schema kind set

  by_is : (kind : ℕ) (e : Element) (rest : List Element) (set : ℕ × Value) → set_by schema kind e rest ≡ Ok set → SetIs kind set
  unfolding set_by
  by_is kind e rest set h =
      let name = bind_ok (reference_of e) _ set h in
      let place = bind_ok (property_of schema (Some kind) name.0) _ set name.2 in
      let value = bind_ok (value_at schema.srs name.0 (property_at schema (Some kind) place.0) rest) (λ value. Ok (place.0, value)) set place.2 in
      subst (SetIs kind) (ok_is AskFault (place.0, value.0) set value.2) (at_fits name.0 (property_at schema (Some kind) place.0) rest value.0 value.1)

  in_is : (kind : ℕ) (whole : Element) (es : List Element) (set : ℕ × Value) → set_in schema kind whole es ≡ Ok set → SetIs kind set
  in_is kind whole [] set h = absurd cc
  in_is kind whole (e ∷ rest) set h = by_is kind e rest set h

  set_is : (kind : ℕ) (e : Element) (set : ℕ × Value) → set_of schema kind e ≡ Ok set → SetIs kind set
  unfolding set_of
  set_is kind e set h =
      let none = bind_ok (no_others [] e) _ set h in
      in_is kind e (children_of e) set none.2

  record AreChanges (kind : ℕ) (changes : Changes) : Type 0 where
    sets : All (SetIs kind) changes.sets
    filter : IfSome changes.filter (IsFilterOf schema (Some kind) 0)

  set_more : (kind : ℕ) (found more : Changes) (e : Element) → AreChanges kind found → with_set schema kind found e ≡ Ok more → AreChanges kind more
  unfolding with_set
  set_more kind found more e are h =
      let first = bind_ok (unless (is_some found.filter) (misplaced e)) _ more h in
      let set = bind_ok (set_of schema kind e) _ more first.2 in
      subst (AreChanges kind) (ok_is AskFault (so_far _ found.filter) more set.2)
      (record { sets = All-push (SetIs kind) found.sets set.0 are.sets (set_is kind e set.0 set.1); filter = are.filter })

  filter_more : (kind : ℕ) (found more : Changes) (e : Element) → AreChanges kind found → with_filter schema kind found e ≡ Ok more → AreChanges kind more
  unfolding with_filter
  filter_more kind found more e are h =
      let behind = bind_ok (unless (length found.sets == 0 || is_some found.filter) (misplaced e)) _ more h in
      let f = bind_ok (selected schema kind e) _ more behind.2 in
      subst (AreChanges kind) (ok_is AskFault (so_far found.sets (Some f.0)) more f.2) (record { sets = are.sets; filter = selected_is kind e f.0 f.1 })

  change_more : (kind : ℕ) (found more : Changes) (e : Element) → AreChanges kind found → next_change schema kind found e ≡ Ok more → AreChanges kind more
  unfolding next_change
  change_more kind found more e are h = elim (chosen (is_wfs (codes "Property") e) (with_set schema kind found e) (with_filter schema kind found e) (Ok more) h) [
    | inl g ↦ set_more kind found more e are g.1
    | inr g ↦ filter_more kind found more e are g.1
  ]

  update_is : (e : Element) (action : Action) → update_of schema e ≡ Ok action → IsActionOf schema action
  unfolding update_of
  update_is e action h =
      let kind = bind_ok (type_of schema e) _ action h in
      let income = bind_ok (income_of schema.srs e) _ action kind.2 in
      let others = bind_ok (update_others e) _ action income.2 in
      let found = bind_ok (each (next_change schema kind.0) (so_far [] None) (children_of e)) _ action others.2 in
      let some = bind_ok (unless (length (children_of e) == 0) (misplaced e)) (λ _. Ok (Update (said_at e (codes "handle")) kind.0 found.0.sets found.0.filter)) action found.2 in
      let none : AreChanges kind.0 (so_far [] None) = record { sets = All-nil (SetIs kind.0); filter = tt } in
      let are = kept (next_change schema kind.0) (AreChanges kind.0) (change_more kind.0) (children_of e) (so_far [] None) found.0 none found.1 in
      subst (IsActionOf schema) (ok_is AskFault (Update (said_at e (codes "handle")) kind.0 found.0.sets found.0.filter) action some.2)
      (type_known e kind.0 kind.1, are.sets, are.filter)

  -- ---- Replace and Delete

  replaced_is : (whole e : Element) (rest : List Element) (action : Action) → replaced_by schema whole e rest ≡ Ok action → IsActionOf schema action
  unfolding replaced_by
  replaced_is whole e rest action h =
      let feature = bind_ok (feature_of schema e) _ action h in
      let filter = bind_ok (only_filter schema feature.0.id.kind whole rest) (λ filter. Ok (Replace (said_at whole (codes "handle")) feature.0 filter)) action feature.2 in
      subst (IsActionOf schema) (ok_is AskFault (Replace (said_at whole (codes "handle")) feature.0 filter.0) action filter.2)
      (feature_is schema e feature.0 feature.1, only_is feature.0.id.kind whole rest filter.0 filter.1)

  replaced_in_is : (whole : Element) (es : List Element) (action : Action) → replaced_in schema whole es ≡ Ok action → IsActionOf schema action
  replaced_in_is whole [] action h = absurd cc
  replaced_in_is whole (e ∷ rest) action h = replaced_is whole e rest action h

  replace_is : (e : Element) (action : Action) → replace_of schema e ≡ Ok action → IsActionOf schema action
  unfolding replace_of
  replace_is e action h =
      let income = bind_ok (income_of schema.srs e) _ action h in
      let others = bind_ok (income_others e) _ action income.2 in
      replaced_in_is e (children_of e) action others.2

  delete_is : (e : Element) (action : Action) → delete_of schema e ≡ Ok action → IsActionOf schema action
  unfolding delete_of
  delete_is e action h =
      let kind = bind_ok (type_of schema e) _ action h in
      let others = bind_ok (delete_others e) _ action kind.2 in
      let filter = bind_ok (only_filter schema kind.0 e (children_of e)) (λ filter. Ok (Delete kind.0 filter)) action others.2 in
      subst (IsActionOf schema) (ok_is AskFault (Delete kind.0 filter.0) action filter.2)
      (type_known e kind.0 kind.1, only_is kind.0 e (children_of e) filter.0 filter.1)

  -- ---- actions and transactions

  action_is : (e : Element) (action : Action) → action_of schema e ≡ Ok action → IsActionOf schema action
  unfolding action_of
  action_is e action h = elim (chosen (is_wfs (codes "Insert") e) _ _ (Ok action) h) [
    | inl g ↦ insert_is e action g.1
    | inr g ↦ elim (chosen (is_wfs (codes "Update") e) _ _ (Ok action) g.1) [
      | inl u ↦ update_is e action u.1
      | inr u ↦ elim (chosen (is_wfs (codes "Replace") e) _ _ (Ok action) u.1) [
        | inl r ↦ replace_is e action r.1
        | inr r ↦ elim (chosen (is_wfs (codes "Delete") e) _ _ (Ok action) r.1) [
          | inl d ↦ delete_is e action d.1
          | inr d ↦ elim (chosen (is_wfs (codes "Native") e) _ _ (Ok action) d.1) [
            | inl n ↦ absurd (cc n.1)
            | inr n ↦ absurd (cc n.1)
          ]
        ]
      ]
    ]
  ]

  action_more : (found more : List Action) (e : Element) → All (IsActionOf schema) found → next_action schema found e ≡ Ok more → All (IsActionOf schema) more
  unfolding next_action
  action_more found more e so_far h = pushed (action_of schema e) (IsActionOf schema) found more (action_is e) so_far h

  transact_is : (lock : Option LockId) (release : Release) (actions : List Action) → All (IsActionOf schema) actions → IsOfSchema schema (Transact lock release actions)
  transact_is lock release actions are = record {
    types = All-nil (IsType schema);
    queries = All-nil (IsQueryOf schema 0);
    names = All-nil _;
    values = tt;
    actions = are;
    stored = All-nil (IsStoredOf schema);
    periods = All-nil _;
    kept = All-nil (λ (id : List ℕ). is_id_query id ≡ false);
  }

  pub transaction_is : (e : Element) (request : Request) → transaction_of schema e ≡ Ok request → IsOfSchema schema request
  unfolding transaction_of
  transaction_is e request h =
      let base = bind_ok (base_of e) _ request h in
      let lock = bind_ok (lock_of (said_at e)) _ request base.2 in
      let release = bind_ok (release_of (said_at e)) _ request lock.2 in
      let srs = bind_ok (srs_of schema.srs (said_at e)) _ request release.2 in
      let others = bind_ok (transaction_others e) _ request srs.2 in
      let actions = bind_ok (each (next_action schema) [] (children_of e)) (λ actions. Ok (Transact lock.0 release.0 actions)) request others.2 in
      subst (IsOfSchema schema) (ok_is AskFault (Transact lock.0 release.0 actions.0) request actions.2)
      (transact_is lock.0 release.0 actions.0 (kept (next_action schema) (All (IsActionOf schema)) action_more (children_of e) [] actions.0 (All-nil (IsActionOf schema)) actions.1))
