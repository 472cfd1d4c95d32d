-- What a query asks is of the schema.
use Rattle.std.proofs.Common.{◌≡◌, ℕ, zero, suc, ◌<◌, ◌≤◌, Bool, true, false, ◌⊎◌, inl, inr, List, [], ◌∷◌, ◌++◌, map, filter, Option, Some, None, Result, Ok, Err, refl, sym, ap, subst, ◌∙◌, arith}
use Rattle.std.specs.Prelude.{codes, ◌==◌, option_map, option_and_then, All, IfSome, slice_get, unwrap_or}
use Rattle.std.specs.List.{flat_map, list_any, before_first, after_first}
use Rattle.std.specs.Option.{option_to_list}
use Rattle.std.proofs.lemmas.List.Concat.{flat_map-cons}
use Rattle.std.proofs.lemmas.List.Elements.{All-nil, All-cons, All-push, All-append, All-head}
use Rattle.wfs_ends.specs.Read.{◌>>=◌, each, unless}
use Rattle.wfs_ends.proofs.Turns.{bind_ok, chosen, ok_is}
use Rattle.doc_read.specs.Document.{document}
use Rattle.geom_core.specs.Plane.{Bounds}
use Rattle.feature_values.specs.Ids.{is_dot, type_named, property_named, number_of, rid_of, without_prefix}
use Rattle.feature_values.specs.declared.feature.Rid.{Rid}
use Rattle.feature_values.specs.declared.schema.Property.{Property as SchemaProperty}
use Rattle.feature_values.specs.declared.schema.ValueKind.{ValueKind}
use Rattle.feature_values.specs.declared.schema.FeatureType.{FeatureType}
use Rattle.feature_values.specs.declared.schema.Schema.{Schema}
use Rattle.fes_filter.specs.Check.{type_in, with_kind, property_in, is_shape, Verdict, verdicts, verdicts_step, counted, most_operators, check_of}
use Rattle.fes_filter.specs.declared.ids.IdRef.{IdRef}
use Rattle.fes_filter.specs.declared.filter.Filter.{Filter}
use Rattle.fes_filter.specs.declared.filter.Filter.TheVariants.{Ids, InBox, rolls-Ids, rolls-InBox}
use Rattle.fes_filter.specs.declared.filter.Filter.TheOpen.{Filter-F}
use Rattle.fes_filter.specs.declared.filter.Filter.TheFolds.{fold-roll-Filter}
use Rattle.fes_filter.specs.declared.query.Query.{Query}
use Rattle.fes_filter.specs.declared.query.SortKey.{SortKey}
use Rattle.fes_docs.specs.declared.fault.FilterDocFault.{FilterDocFault}
use Rattle.fes_docs.specs.Filters.{filter_of}
use Rattle.fes_docs.proofs.Judged.{filters_are_allowed}
use Rattle.fes_docs.proofs.Named.{and_then_some, map_some, some_is}
use Rattle.wfs_model.specs.Terms.{refused, count_of}
use Rattle.wfs_model.specs.declared.fault.AskFault.{AskFault}
use Rattle.wfs_model.specs.OfSchema.{IsType, IsFilterOf, IsQueryOf, property_at, known_id, id_place, ids_step, places_step, places_in}
use Rattle.wfs_model.specs.OfSchema.{ids_in as features_in}
use Rattle.request_parameters.specs.Said.{Said, Ask, or_fault, read_if, kind_of}
use Rattle.request_parameters.specs.Base.{srs_of}
use Rattle.request_parameters.specs.Locking.{from_1_on, seconds_in, expiry_of, period_of}
use Rattle.request_parameters.proofs.Named.{is_type}
use Rattle.query_docs.specs.Elements.{or_refusal}
use Rattle.query_docs.specs.Sorting.{sortable}
use Rattle.query_docs.proofs.Within.{filter_within}
use Rattle.kvp_queries.specs.Pairs.{or_else}
use Rattle.kvp_queries.specs.Lists.{is_comma, items_in}
use Rattle.kvp_queries.specs.Selection.{type_names_of, one_type, type_if, type_of, known_or_nobody, id_of, ids_in, ids_filter, or_no_document, filter_in, filter_if, document_filter, box_in, box_if, box_filter, alone, only_one}
use Rattle.kvp_queries.specs.Selection.{chosen as chosen_by}
use Rattle.kvp_queries.specs.Sorting.{name_and_word, is_descending, key_of, next_key, keys_in, keys_if, keys_of}
use Rattle.kvp_queries.specs.Asking.{property_name_of, query_of, property_of}
use Rattle.kvp_queries.specs.Request.{next_type}

-- ---- readings that did not fail

pub or_fault_ok : {A : Type 0} (r : Option A) (fault : AskFault) (x : A) → or_fault r fault ≡ Ok x → r ≡ Some x
or_fault_ok None fault x h = absurd cc
or_fault_ok (Some y) fault x h = ap Some (ok_is AskFault y x h)

pub unless_ok : (b : Bool) (fault : AskFault) (u : Unit {0}) → unless b fault ≡ Ok u → b ≡ false
unfolding unless
unless_ok true fault u h = absurd cc
unless_ok false fault u h = refl

refusal_ok : (r : Result Filter FilterDocFault) (f : Filter) → or_refusal r ≡ Ok f → r ≡ Ok f
refusal_ok (Ok g) f h = ap Ok (ok_is AskFault g f h)
refusal_ok (Err fault) f h = absurd cc

-- ---- periods

from_is : (m n : ℕ) → from_1_on m ≡ Some n → 1 ≤ n
from_is zero n h = absurd cc
from_is (suc m) n h = by (chosen (suc m == 0) None (Some (suc m)) (Some n) h)
  where
    by : ((suc m == 0 ≡ true) × (None ≡ Some n)) ⊎ ((suc m == 0 ≡ false) × (Some (suc m) ≡ Some n)) → 1 ≤ n
    by (inl x) = absurd (cc x.1)
    by (inr x) = let e : suc m ≡ n = some_is (suc m) n x.1 in omega (arith, e)

seconds_is : (text : List ℕ) (n : ℕ) → seconds_in text ≡ Some n → 1 ≤ n
unfolding seconds_in
seconds_is text n h =
    let m = and_then_some from_1_on (count_of text) n h in
    from_is m.0 n m.2

abbrev pub FromOne : ℕ → Type 0
FromOne n = 1 ≤ n

expiry_if : (fault : AskFault) (t : Option (List ℕ)) (e : Option ℕ) → read_if seconds_in fault t ≡ Ok e → All FromOne (option_to_list e)
expiry_if fault None e h = subst (λ (e : Option ℕ). All FromOne (option_to_list e)) (ok_is AskFault None e h) (All-nil FromOne)
expiry_if fault (Some text) e h =
    let n = bind_ok (or_fault (seconds_in text) fault) (λ x. Ok (Some x)) e h in
    let one : FromOne n.0 = seconds_is text n.0 (or_fault_ok (seconds_in text) fault n.0 n.1) in
    subst (λ (e : Option ℕ). All FromOne (option_to_list e)) (ok_is AskFault (Some n.0) e n.2) (All-cons FromOne n.0 [] one (All-nil FromOne))

pub expiry_is : (said : Said) (e : Option ℕ) → expiry_of said ≡ Ok e → All FromOne (option_to_list e)
unfolding expiry_of
expiry_is said e h = expiry_if (refused 11 (codes "expiry")) (said (codes "expiry")) e h

period_by : (e : Option ℕ) (n : ℕ) → All FromOne (option_to_list e) → unwrap_or e 300 ≡ n → 1 ≤ n
period_by None n all h = let e : 300 ≡ n = h in omega (arith, e)
period_by (Some m) n all h =
    let one : FromOne m = All-head FromOne m [] all in
    let e : m ≡ n = h in
    omega (arith, one, e)

pub period_is : (said : Said) (n : ℕ) → period_of said ≡ Ok n → 1 ≤ n
unfolding period_of
period_is said n h =
    let e = bind_ok (expiry_of said) (λ expiry. Ok (unwrap_or expiry 300)) n h in
    period_by e.0 n (expiry_is said e.0 e.1) (ok_is AskFault (unwrap_or e.0 300) n e.2)

-- ---- sort keys and values

place_is : (t : FeatureType) (name : List ℕ) (q : ℕ × ValueKind) → property_in (Some t) name ≡ Some q
    → (p : SchemaProperty) × (slice_get t.properties q.0 ≡ Some p) × (p.kind ≡ q.1)
place_is t name q h =
    let a = and_then_some (with_kind t) (property_named t (without_prefix name)) q h in
    let b = map_some (λ p. (a.0, p.kind)) (slice_get t.properties a.0) q a.2 in
    let place : a.0 ≡ q.0 = ap (λ (x : ℕ × ValueKind). x.0) b.2 in
    let kind : b.0.kind ≡ q.1 = ap (λ (x : ℕ × ValueKind). x.1) b.2 in
    (b.0, ap (slice_get t.properties) (sym place) ∙ b.1, kind)

abbrev HasOrder : FeatureType → SortKey → Type 0
HasOrder t key = (p : SchemaProperty) × (slice_get t.properties key.property ≡ Some p) × (is_shape p.kind ≡ false)

sortable_is : (name : List ℕ) (r : Option (ℕ × ValueKind)) (p : ℕ) → sortable name r ≡ Ok p → (q : ℕ × ValueKind) × (r ≡ Some q) × (q.0 ≡ p) × (is_shape q.1 ≡ false)
sortable_is name None p h = absurd cc
sortable_is name (Some q) p h = by (chosen (is_shape q.1) (Err (refused 11 (codes "sortBy"))) (Ok q.0) (Ok p) h)
  where
    by : ((is_shape q.1 ≡ true) × (Err (refused 11 (codes "sortBy")) ≡ Ok p)) ⊎ ((is_shape q.1 ≡ false) × ((let r : Ask ℕ = Ok q.0 in r) ≡ Ok p)) → (q' : ℕ × ValueKind) × (Some q ≡ Some q') × (q'.0 ≡ p) × (is_shape q'.1 ≡ false)
    by (inl x) = absurd (cc x.1)
    by (inr x) = (q, refl, ok_is AskFault q.0 p x.1, x.0)

key_is : (t : FeatureType) (part : List ℕ) (key : SortKey) → key_of t part ≡ Ok key → HasOrder t key
unfolding key_of
key_is t part key h =
    let name = (name_and_word part).0 in
    let p = bind_ok (sortable (name_and_word part).0 (property_in (Some t) (name_and_word part).0)) _ key h in
    let d = bind_ok (is_descending (name_and_word part).1) _ key p.2 in
    let q = sortable_is (name_and_word part).0 (property_in (Some t) (name_and_word part).0) p.0 p.1 in
    let at = place_is t (name_and_word part).0 q.0 q.1 in
    subst (HasOrder t) (ok_is AskFault (record { property = p.0; descending = d.0 }) key d.2)
    (at.0, ap (slice_get t.properties) (sym q.2) ∙ at.1, ap is_shape at.2 ∙ q.3)

keys_all : (t : FeatureType) (parts : List (List ℕ)) (acc keys : List SortKey) → All (HasOrder t) acc → each (next_key t) acc parts ≡ Ok keys → All (HasOrder t) keys
unfolding each next_key
keys_all t [] acc keys so h = subst (All (HasOrder t)) (ok_is AskFault acc keys h) so
keys_all t (part ∷ parts) acc keys so h =
    let x = bind_ok (next_key t acc part) _ keys h in
    let k = bind_ok (key_of t part) (λ key. Ok (acc ++ key ∷ [])) x.0 x.1 in
    let more : All (HasOrder t) x.0 = subst (All (HasOrder t)) (ok_is AskFault (acc ++ k.0 ∷ []) x.0 k.2) (All-push (HasOrder t) acc k.0 so (key_is t part k.0 k.1)) in
    keys_all t parts x.0 keys more x.2

abbrev CanSort : Option FeatureType → SortKey → Type 0
CanSort of_type key = (p : SchemaProperty) × (option_and_then (λ t. slice_get t.properties key.property) of_type ≡ Some p) × (is_shape p.kind ≡ false)

keys_by : (of_type : Option FeatureType) (text : Option (List ℕ)) (keys : List SortKey) → keys_if of_type text ≡ Ok keys → All (CanSort of_type) keys
unfolding keys_in
keys_by of_type None keys h = subst (All (CanSort of_type)) (ok_is AskFault [] keys h) (All-nil (CanSort of_type))
keys_by None (Some text) keys h = absurd cc
keys_by (Some t) (Some text) keys h = keys_all t (items_in text) [] keys (All-nil (HasOrder t)) h

module _ (schema : Schema) where
  -- ---- types

  type_is : (part name : List ℕ) (kind : ℕ) → kind_of schema part name ≡ Ok kind → IsType schema kind
  unfolding kind_of
  type_is part name kind h = is_type schema (without_prefix name) kind (or_fault_ok (type_named schema (without_prefix name)) (refused 11 part) kind h)

  pub types_all : (names : List (List ℕ)) (acc kinds : List ℕ) → All (IsType schema) acc → each (next_type schema) acc names ≡ Ok kinds → All (IsType schema) kinds
  unfolding each next_type
  types_all [] acc kinds so h = subst (All (IsType schema)) (ok_is AskFault acc kinds h) so
  types_all (name ∷ names) acc kinds so h =
      let x = bind_ok (next_type schema acc name) _ kinds h in
      let k = bind_ok (kind_of schema (codes "typeNames") name) (λ kind. Ok (acc ++ kind ∷ [])) x.0 x.1 in
      let more : All (IsType schema) x.0 = subst (All (IsType schema)) (ok_is AskFault (acc ++ k.0 ∷ []) x.0 k.2) (All-push (IsType schema) acc k.0 so (type_is (codes "typeNames") name k.0 k.1)) in
      types_all names x.0 kinds more x.2

  kind_if : (t : Option (List ℕ)) (kind : Option ℕ) → type_if schema t ≡ Ok kind → All (IsType schema) (option_to_list kind)
  unfolding one_type
  kind_if None kind h = subst (λ (k : Option ℕ). All (IsType schema) (option_to_list k)) (ok_is AskFault None kind h) (All-nil (IsType schema))
  kind_if (Some text) kind h =
      let one = bind_ok (one_type schema text) (λ kind. Ok (Some kind)) kind h in
      let alone = bind_ok (unless (list_any is_comma text) (refused 12 (codes "typeNames"))) _ one.0 one.1 in
      subst (λ (k : Option ℕ). All (IsType schema) (option_to_list k)) (ok_is AskFault (Some one.0) kind one.2)
      (All-cons (IsType schema) one.0 [] (type_is (codes "typeNames") text one.0 alone.2) (All-nil (IsType schema)))

  kind_is : (said : Said) (kind : Option ℕ) → type_of schema said ≡ Ok kind → All (IsType schema) (option_to_list kind)
  unfolding type_of
  kind_is said kind h = kind_if (type_names_of said) kind h

  -- ---- filters

  abbrev OfType : Rid → Type 0
  OfType id = IsType schema id.kind

  abbrev IsListed : ℕ → Type 0
  IsListed place = place < 0

  rid_type : (text : List ℕ) (id : Rid) → rid_of schema text ≡ Some id → OfType id
  unfolding rid_of
  rid_type text id h =
      let number = and_then_some (λ n. option_map (λ k. record { kind = k; number = n }) (type_named schema (before_first is_dot text))) (number_of (after_first is_dot text)) id h in
      let kind = map_some (λ k. record { kind = k; number = number.0 }) (type_named schema (before_first is_dot text)) id number.2 in
      subst OfType kind.2 (is_type schema (before_first is_dot text) kind.0 kind.1)

  known_by : (text : List ℕ) (r : Option Rid) → rid_of schema text ≡ r → All OfType (known_id (known_or_nobody r))
  known_by text None is = All-nil OfType
  known_by text (Some id) is = All-cons OfType id [] (rid_type text id is) (All-nil OfType)

  place_by : (r : Option Rid) → All IsListed (id_place (known_or_nobody r))
  place_by None = All-nil IsListed
  place_by (Some id) = All-nil IsListed

  known_all : (texts : List (List ℕ)) → All OfType (flat_map known_id (map (id_of schema) texts))
  unfolding id_of
  known_all [] = All-nil OfType
  known_all (text ∷ texts) =
      subst (All OfType) (sym (flat_map-cons known_id (id_of schema text) (map (id_of schema) texts)))
      (All-append OfType (known_id (id_of schema text)) (flat_map known_id (map (id_of schema) texts)) (known_by text (rid_of schema text) refl) (known_all texts))

  places_all : (texts : List (List ℕ)) → All IsListed (flat_map id_place (map (id_of schema) texts))
  unfolding id_of
  places_all [] = All-nil IsListed
  places_all (text ∷ texts) =
      subst (All IsListed) (sym (flat_map-cons id_place (id_of schema text) (map (id_of schema) texts)))
      (All-append IsListed (id_place (id_of schema text)) (flat_map id_place (map (id_of schema) texts)) (place_by (rid_of schema text)) (places_all texts))

  module _ (kind : Option ℕ) where
    abbrev Fits : Option Filter → Type 0
    Fits filter = IfSome filter (IsFilterOf schema kind 0)

    one_fine : (f : Filter) → verdicts (type_in schema kind) f ≡ Ok tt ∷ [] → check_of schema kind f ≡ Ok tt
    unfolding check_of each counted
    one_fine f h = ap (λ (vs : List Verdict). each counted most_operators vs >>= λ _. Ok tt) h

    ids_fit : (text : List ℕ) → IsFilterOf schema kind 0 (Ids (ids_in schema text))
    unfolding ids_in
    ids_fit text =
        let refs : List IdRef = map (id_of schema) (items_in text) in
        let o : Filter-F Filter = Filter-F.Ids refs in
        let rolls = sym (rolls-Ids refs) in
        record {
          checked = one_fine (Ids refs) (ap (verdicts (type_in schema kind)) rolls ∙ fold-roll-Filter (List Verdict) (verdicts_step (type_in schema kind)) o);
          ids = subst (All OfType) (sym (ap features_in rolls ∙ fold-roll-Filter (List Rid) ids_step o)) (known_all (items_in text));
          places = subst (All IsListed) (sym (ap places_in rolls ∙ fold-roll-Filter (List ℕ) places_step o)) (places_all (items_in text));
        }

    box_fits : (area : Bounds) → IsFilterOf schema kind 0 (InBox None area)
    box_fits area =
        let o : Filter-F Filter = Filter-F.InBox None area in
        let rolls = sym (rolls-InBox None area) in
        record {
          checked = one_fine (InBox None area) (ap (verdicts (type_in schema kind)) rolls ∙ fold-roll-Filter (List Verdict) (verdicts_step (type_in schema kind)) o);
          ids = subst (All OfType) (sym (ap features_in rolls ∙ fold-roll-Filter (List Rid) ids_step o)) (All-nil OfType);
          places = subst (All IsListed) (sym (ap places_in rolls ∙ fold-roll-Filter (List ℕ) places_step o)) (All-nil IsListed);
        }

    ids_if : (t : Option (List ℕ)) → Fits (option_map (λ text. Ids (ids_in schema text)) t)
    ids_if None = tt
    ids_if (Some text) = ids_fit text

    document_fits : (text : List ℕ) (f : Filter) → filter_in schema kind text ≡ Ok f → IsFilterOf schema kind 0 f
    unfolding filter_in
    document_fits text f h =
        let root = bind_ok (or_no_document (document text)) _ f h in
        let read = refusal_ok (filter_of None schema kind root.0) f root.2 in
        let within = filter_within None schema kind root.0 f read in
        record { checked = filters_are_allowed None schema kind root.0 f read; ids = within.ids; places = within.places }

    document_if : (t : Option (List ℕ)) (r : Option Filter) → filter_if schema kind t ≡ Ok r → Fits r
    document_if None r h = subst Fits (ok_is AskFault None r h) tt
    document_if (Some text) r h =
        let f = bind_ok (filter_in schema kind text) (λ filter. Ok (Some filter)) r h in
        subst Fits (ok_is AskFault (Some f.0) r f.2) (document_fits text f.0 f.1)

    area_if : (t : Option (List ℕ)) (r : Option Filter) → box_if schema t ≡ Ok r → Fits r
    area_if None r h = subst Fits (ok_is AskFault None r h) tt
    area_if (Some text) r h =
        let area = bind_ok (or_fault (box_in schema text) (refused 11 (codes "bbox"))) (λ area. Ok (Some (InBox None area))) r h in
        subst Fits (ok_is AskFault (Some (InBox None area.0)) r area.2) (box_fits area.0)

    either_fits : (a b : Option Filter) → Fits a → Fits b → Fits (or_else a b)
    either_fits None b x y = y
    either_fits (Some f) b x y = x

    chosen_fits : (said : Said) (r : Option Filter) → chosen_by schema kind said ≡ Ok r → Fits r
    unfolding chosen_by document_filter box_filter ids_filter only_one
    chosen_fits said r h =
        let f = bind_ok (document_filter schema kind said) _ r h in
        let area = bind_ok (box_filter schema said) _ r f.2 in
        let one = bind_ok (alone _ _ _) _ r area.2 in
        subst Fits (ok_is AskFault (or_else (ids_filter schema said) (or_else f.0 area.0)) r one.2)
        (either_fits (ids_filter schema said) (or_else f.0 area.0) (ids_if (said (codes "resourceId")))
        (either_fits f.0 area.0 (document_if (said (codes "filter")) f.0 f.1) (area_if (said (codes "bbox")) area.0 area.1)))

  -- ---- queries

  pub query_is : (said : Said) (query : Query) → query_of schema said ≡ Ok query → IsQueryOf schema 0 query
  unfolding query_of keys_of
  query_is said query h =
      let kind = bind_ok (type_of schema said) _ query h in
      let srs = bind_ok (srs_of schema.srs said) _ query kind.2 in
      let f = bind_ok (chosen_by schema kind.0 said) _ query srs.2 in
      let keys = bind_ok (keys_of schema kind.0 said) _ query f.2 in
      let names = bind_ok (property_name_of said) _ query keys.2 in
      subst (IsQueryOf schema 0) (ok_is AskFault (record { kind = kind.0; filter = f.0; sort = keys.0 }) query names.2)
      (record {
        kind = kind_is said kind.0 kind.1;
        filter = chosen_fits kind.0 said f.0 f.1;
        sort = keys_by (type_in schema kind.0) (said (codes "sortBy")) keys.0 keys.1;
      })

  place_in : (of_type : Option FeatureType) (name : List ℕ) (q : ℕ × ValueKind) → property_in of_type name ≡ Some q
      → (p : SchemaProperty) × (option_and_then (λ t. slice_get t.properties q.0) of_type ≡ Some p)
  place_in None name q h = absurd cc
  place_in (Some t) name q h = let at = place_is t name q h in (at.0, at.1)

  pub property_is : (kind : Option ℕ) (name : List ℕ) (property : ℕ) → property_of schema kind name ≡ Ok property → (p : SchemaProperty) × (property_at schema kind property ≡ Some p)
  property_is None name property h = absurd cc
  property_is (Some k) name property h =
      let q = bind_ok (or_fault (property_in (type_in schema (Some k)) name) (refused 11 name)) (λ p. Ok p.0) property h in
      let at = place_in (type_in schema (Some k)) name q.0 (or_fault_ok (property_in (type_in schema (Some k)) name) (refused 11 name) q.0 q.1) in
      let same : q.0.0 ≡ property = ok_is AskFault q.0.0 property q.2 in
      (at.0, ap (property_at schema (Some k)) (sym same) ∙ at.1)
