-- What is read is of the schema.
use Rattle.std.proofs.Common.{◌≡◌, ℕ, ◌<◌, Bool, true, false, ◌||◌, ◌&&◌, not, List, [], ◌∷◌, ◌++◌, length, Option, Some, None, Result, Ok, Err, refl, sym, ap, subst, ◌∙◌, inl, inr, arith}
use Rattle.std.specs.Prelude.{codes, if◌then◌else◌, ◌==◌, All, IfSome, IfOk, slice_get, option_and_then}
use Rattle.std.specs.List.{AllPairs, list_any}
use Rattle.std.specs.Str.{bytes_eq}
use Rattle.std.specs.Option.{is_some}
use Rattle.std.proofs.lemmas.List.{append-nil}
use Rattle.std.proofs.Common.{append_assoc}
use Rattle.std.proofs.lemmas.List.Concat.{flat_map-cons}
use Rattle.std.proofs.lemmas.List.Elements.{All-nil, All-cons, All-push, All-map, All-get_or}
use Rattle.std.proofs.lemmas.List.Quantifiers.{all_pairs_push}
use Rattle.wfs_ends.specs.Read.{GivesBut, each, unless}
use Rattle.wfs_ends.proofs.Turns.{bind_ok, if_ok, chosen, ok_is}
use Rattle.doc_read.specs.Document.{document}
use Rattle.doc_tree.specs.declared.tree.Element.{Element, out-Element}
use Rattle.feature_values.specs.Ids.{type_named, property_named, without_prefix}
use Rattle.feature_values.specs.declared.schema.Property.{Property as SchemaProperty}
use Rattle.feature_values.specs.declared.schema.ValueKind.{ValueKind}
use Rattle.feature_values.specs.declared.schema.FeatureType.{FeatureType}
use Rattle.feature_values.specs.declared.schema.Schema.{Schema}
use Rattle.fes_filter.specs.Check.{type_in, with_kind, property_in, is_shape}
use Rattle.fes_filter.specs.declared.filter.Filter.{Filter}
use Rattle.fes_filter.specs.declared.query.Query.{Query}
use Rattle.fes_filter.specs.declared.query.SortKey.{SortKey}
use Rattle.fes_docs.specs.declared.fault.FilterDocFault.{FilterDocFault}
use Rattle.fes_docs.specs.Names.{is_fes}
use Rattle.fes_docs.specs.Filters.{filter_of}
use Rattle.fes_docs.proofs.Judged.{filters_are_allowed}
use Rattle.fes_docs.proofs.Named.{and_then_some, map_some, same_text}
use Rattle.wfs_model.specs.declared.asked.Asked.{Asked}
use Rattle.wfs_model.specs.declared.asked.Asked.TheVariants.{Plain, Stored}
use Rattle.wfs_model.specs.declared.fault.AskFault.{AskFault}
use Rattle.wfs_model.specs.declared.fault.AskFault.TheVariants.{OutOfMemory}
use Rattle.wfs_model.specs.declared.stored.StoredQuery.{StoredQuery}
use Rattle.wfs_model.specs.Expand.{is_same_name}
use Rattle.wfs_model.specs.OfSchema.{IsType, IsFilterOf, IsSortKeyOf, IsQueryOf, IsStoredOf}
use Rattle.request_parameters.specs.Said.{or_fault, required_of, kind_of}
use Rattle.request_parameters.specs.Base.{srs_of}
use Rattle.request_parameters.specs.Elements.{said_at, wfs_space, is_wfs, no_others, misplaced, no_children, text_in}
use Rattle.query_docs.specs.Elements.{children_of, text_alone, not_offered, or_refusal}
use Rattle.query_docs.specs.Sorting.{sortable, sorted_by, order_of, key_with, key_in, sort_key, next_key, keys_of}
use Rattle.query_docs.specs.Queries.{type_of, query_others, no_clauses, with_filter, with_sort, next_clause, or_no_keys, query_of, is_several}
use Rattle.query_docs.specs.Asked.{Given, name_of, is_given, next_given, use_others, use_of, plain_of, asked_of, IsAskedOf}
use Rattle.query_docs.specs.Definitions.{language_of, expression_others, next_query, queries_of, no_parts, with_title, is_declared, with_name, with_queries, next_part, declared_by, declared_in, stored_of, definition_others, definition_of}
use Rattle.query_docs.specs.Texts.{stored_text}
use Rattle.query_docs.specs.Reading.{rooted, or_bad, queries_in, text_queries}
use Rattle.query_docs.specs.declared.fault.StoredTextFault.{StoredTextFault}
use Rattle.query_docs.specs.declared.fault.StoredTextFault.TheVariants.{BadText, OutOfMemory as NoMemory}
use Rattle.query_docs.specs.declared.query.Clauses.{Clauses}
use Rattle.query_docs.specs.declared.definition.Parts.{Parts}
use Rattle.request_parameters.proofs.Named.{is_type}
use Rattle.query_docs.proofs.Within.{count_of, filter_within}

-- ---- readings that did not fail

pub or_fault_ok : {A : Type 0} (r : Option A) (fault : AskFault) (x : A) → or_fault r fault ≡ Ok x → r ≡ Some x
or_fault_ok None fault x h = absurd cc
or_fault_ok (Some y) fault x h = ap Some (ok_is AskFault y x h)

pub unless_ok : (b : Bool) (fault : AskFault) (u : Unit {0}) → unless b fault ≡ Ok u → b ≡ false
unfolding unless
unless_ok true fault u h = absurd cc
unless_ok false fault u h = refl

pub refusal_ok : (r : Result Filter FilterDocFault) (f : Filter) → or_refusal r ≡ Ok f → r ≡ Ok f
refusal_ok (Ok g) f h = ap Ok (ok_is AskFault g f h)
refusal_ok (Err fault) f h = absurd cc

-- ---- sort keys

sorted_is : (of_type : Option FeatureType) (name : List ℕ) (q : ℕ × ValueKind) → property_in of_type name ≡ Some q
    → (p : SchemaProperty) × (option_and_then (λ t. slice_get t.properties q.0) of_type ≡ Some p) × (p.kind ≡ q.1)
sorted_is None name q h = absurd cc
sorted_is (Some t) name q h =
    let a = and_then_some (with_kind t) (property_named t (without_prefix name)) q h in
    let b = map_some (λ p. (a.0, p.kind)) (slice_get t.properties a.0) q a.2 in
    let place : a.0 ≡ q.0 = ap (λ (x : ℕ × ValueKind). x.0) b.2 in
    let kind : b.0.kind ≡ q.1 = ap (λ (x : ℕ × ValueKind). x.1) b.2 in
    (b.0, ap (slice_get t.properties) (sym place) ∙ b.1, kind)

module _ (schema : Schema) (kind : Option ℕ) where
  abbrev of_type : Option FeatureType
  of_type = type_in schema kind

  abbrev CanSort : ℕ → Type 0
  CanSort property = (p : SchemaProperty) × (option_and_then (λ t. slice_get t.properties property) of_type ≡ Some p) × (is_shape p.kind ≡ false)

  flat_by : (name : List ℕ) (q : ℕ × ValueKind) (b : Bool) (fault : AskFault) (i : ℕ) → is_shape q.1 ≡ b → property_in of_type name ≡ Some q → (if b then Err fault else Ok q.0) ≡ Ok i → CanSort i
  flat_by name q true fault i is found h = absurd cc
  flat_by name q false fault i is found h =
      let p = sorted_is of_type name q found in
      subst CanSort (ok_is AskFault q.0 i h) (p.0, p.1, ap is_shape p.2 ∙ is)

  sortable_by : (name : List ℕ) (found : Option (ℕ × ValueKind)) (i : ℕ) → property_in of_type name ≡ found → sortable name found ≡ Ok i → CanSort i
  sortable_by name None i is h = absurd cc
  sortable_by name (Some q) i is h = flat_by name q (is_shape q.1) _ i refl is h

  sorted_can : (e : Element) (i : ℕ) → sorted_by of_type e ≡ Ok i → CanSort i
  unfolding sorted_by
  sorted_can e i h =
      let name = bind_ok (text_alone e) _ i h in
      sortable_by name.0 (property_in of_type name.0) i refl name.2

  with_can : (i : ℕ) (es : List Element) (key : SortKey) → CanSort i → key_with i es ≡ Ok key → IsSortKeyOf schema kind key
  unfolding key_with
  with_can i [] key can h = subst (IsSortKeyOf schema kind) (ok_is AskFault (record { property = i; descending = false }) key h) can
  with_can i (e ∷ es) key can h =
      let named = bind_ok (unless (not (is_fes (codes "SortOrder") e)) (misplaced e)) _ key h in
      let order = bind_ok (order_of e) _ key named.2 in
      let end = bind_ok (no_children es) _ key order.2 in
      subst (IsSortKeyOf schema kind) (ok_is AskFault (record { property = i; descending = order.0 }) key end.2) can

  key_can : (whole : Element) (es : List Element) (key : SortKey) → key_in of_type whole es ≡ Ok key → IsSortKeyOf schema kind key
  unfolding key_in
  key_can whole [] key h = absurd cc
  key_can whole (e ∷ es) key h =
      let named = bind_ok (unless (not (is_fes (codes "ValueReference") e)) (misplaced e)) _ key h in
      let i = bind_ok (sorted_by of_type e) _ key named.2 in
      with_can i.0 es key (sorted_can e i.0 i.1) i.2

  sort_key_can : (e : Element) (key : SortKey) → sort_key of_type e ≡ Ok key → IsSortKeyOf schema kind key
  unfolding sort_key
  sort_key_can e key h =
      let named = bind_ok (unless (not (is_fes (codes "SortProperty") e)) (misplaced e)) _ key h in
      let none = bind_ok (no_others [] e) _ key named.2 in
      key_can e (children_of e) key none.2

  all_can : (es : List Element) (acc all : List SortKey) → All (IsSortKeyOf schema kind) acc → each (next_key of_type) acc es ≡ Ok all → All (IsSortKeyOf schema kind) all
  unfolding each next_key
  all_can [] acc all so_far h = subst (All (IsSortKeyOf schema kind)) (ok_is AskFault acc all h) so_far
  all_can (e ∷ es) acc all so_far h =
      let x = bind_ok (next_key of_type acc e) (λ more. each (next_key of_type) more es) all h in
      let key = bind_ok (sort_key of_type e) (λ key. Ok (acc ++ key ∷ [])) x.0 x.1 in
      let more : All (IsSortKeyOf schema kind) x.0 = subst (All (IsSortKeyOf schema kind)) (ok_is AskFault (acc ++ key.0 ∷ []) x.0 key.2) (All-push (IsSortKeyOf schema kind) acc key.0 so_far (sort_key_can e key.0 key.1)) in
      all_can es x.0 all more x.2

  keys_can : (e : Element) (keys : List SortKey) → keys_of of_type e ≡ Ok keys → All (IsSortKeyOf schema kind) keys
  unfolding keys_of
  keys_can e keys h =
      let none = bind_ok (no_others [] e) _ keys h in
      let all = bind_ok (each (next_key of_type) [] (children_of e)) _ keys none.2 in
      let some = bind_ok (unless (length (children_of e) == 0) (misplaced e)) _ keys all.2 in
      subst (All (IsSortKeyOf schema kind)) (ok_is AskFault all.0 keys some.2) (all_can (children_of e) [] all.0 (All-nil (IsSortKeyOf schema kind)) all.1)

-- ---- queries

module _ (parameters : Option (List (List ℕ))) (schema : Schema) where
  record IsClauses (kind : Option ℕ) (c : Clauses) : Type 0 where
    filter : IfSome c.filter (IsFilterOf schema kind (count_of parameters))
    sort : All (IsSortKeyOf schema kind) (or_no_keys c.sort)

  module _ (kind : Option ℕ) where
    abbrev Good : Clauses → Type 0
    Good = IsClauses kind

    filter_good : (c d : Clauses) (e : Element) → Good c → with_filter parameters schema kind c e ≡ Ok d → Good d
    unfolding with_filter
    filter_good c d e good h =
        let first = bind_ok (unless (is_some c.filter || is_some c.sort) (misplaced e)) _ d h in
        let f = bind_ok (or_refusal (filter_of parameters schema kind e)) _ d first.2 in
        let read : filter_of parameters schema kind e ≡ Ok f.0 = refusal_ok (filter_of parameters schema kind e) f.0 f.1 in
        let within = filter_within parameters schema kind e f.0 read in
        let is : IsFilterOf schema kind (count_of parameters) f.0 = record { checked = filters_are_allowed parameters schema kind e f.0 read; ids = within.ids; places = within.places } in
        subst Good (ok_is AskFault (record { filter = Some f.0; sort = c.sort }) d f.2) (record { filter = is; sort = good.sort })

    sort_good : (c d : Clauses) (e : Element) → Good c → with_sort schema kind c e ≡ Ok d → Good d
    unfolding with_sort
    sort_good c d e good h =
        let first = bind_ok (unless (is_some c.sort) (misplaced e)) _ d h in
        let keys = bind_ok (keys_of (type_in schema kind) e) _ d first.2 in
        subst Good (ok_is AskFault (record { filter = c.filter; sort = Some keys.0 }) d keys.2) (record { filter = good.filter; sort = keys_can schema kind e keys.0 keys.1 })

    clause_good : (c d : Clauses) (e : Element) → Good c → next_clause parameters schema kind c e ≡ Ok d → Good d
    unfolding next_clause
    clause_good c d e good h = elim (chosen (is_wfs (codes "PropertyName") e) _ _ (Ok d) h) [
      | inl g ↦ absurd (cc g.1)
      | inr g ↦ elim (chosen (is_fes (codes "Filter") e) _ _ (Ok d) g.1) [
        | inl f ↦ filter_good c d e good f.1
        | inr f ↦ elim (chosen (is_fes (codes "SortBy") e) _ _ (Ok d) f.1) [
          | inl s ↦ sort_good c d e good s.1
          | inr s ↦ absurd (cc s.1)
        ]
      ]
    ]

    clauses_good : (es : List Element) (c d : Clauses) → Good c → each (next_clause parameters schema kind) c es ≡ Ok d → Good d
    unfolding each
    clauses_good [] c d good h = subst Good (ok_is AskFault c d h) good
    clauses_good (e ∷ es) c d good h =
        let x = bind_ok (next_clause parameters schema kind c e) (λ more. each (next_clause parameters schema kind) more es) d h in
        clauses_good es x.0 d (clause_good c x.0 e good x.1) x.2

  type_is : (e : Element) (kind : ℕ) → type_of schema e ≡ Ok kind → IsType schema kind
  unfolding type_of kind_of
  type_is e kind h =
      let names = bind_ok (required_of (codes "typeNames") (said_at e)) _ kind h in
      let one = bind_ok (unless (is_several names.0) _) _ kind names.2 in
      is_type schema (without_prefix names.0) kind (or_fault_ok (type_named schema (without_prefix names.0)) _ kind one.2)

  pub query_is : (e : Element) (query : Query) → query_of parameters schema e ≡ Ok query → IsQueryOf schema (count_of parameters) query
  unfolding query_of
  query_is e query h =
      let kind = bind_ok (type_of schema e) _ query h in
      let srs = bind_ok (srs_of schema.srs (said_at e)) _ query kind.2 in
      let aliases = bind_ok (not_offered (codes "aliases") (said_at e (codes "aliases"))) _ query srs.2 in
      let version = bind_ok (not_offered (codes "featureVersion") (said_at e (codes "featureVersion"))) _ query aliases.2 in
      let others = bind_ok (query_others e) _ query version.2 in
      let clauses = bind_ok (each (next_clause parameters schema (Some kind.0)) no_clauses (children_of e)) _ query others.2 in
      let none : IsClauses (Some kind.0) no_clauses = record { filter = tt; sort = All-nil (IsSortKeyOf schema (Some kind.0)) } in
      let good = clauses_good (Some kind.0) (children_of e) no_clauses clauses.0 none clauses.1 in
      subst (IsQueryOf schema (count_of parameters)) (ok_is AskFault (record { kind = Some kind.0; filter = clauses.0.filter; sort = or_no_keys clauses.0.sort }) query clauses.2) (record {
        kind = All-cons (IsType schema) kind.0 [] (type_is e kind.0 kind.1) (All-nil (IsType schema));
        filter = good.filter;
        sort = good.sort;
      })

-- ---- names of parameters

some_length : (name : List ℕ) → (length name == 0) ≡ false → 0 < length name
some_length [] h = absurd cc
some_length (c ∷ cs) h = omega arith

name_is : (e : Element) (name : List ℕ) → name_of e ≡ Ok name → 0 < length name
unfolding name_of
name_is e name h =
    let said = bind_ok (required_of (codes "name") (said_at e)) _ name h in
    let some = bind_ok (unless (length said.0 == 0) _) _ name said.2 in
    let is : said.0 ≡ name = ok_is AskFault said.0 name some.2 in
    some_length name (ap (λ (n : List ℕ). length n == 0) (sym is) ∙ unless_ok (length said.0 == 0) _ some.0 some.1)

abbrev IsNamed : List ℕ × List ℕ → Type 0
IsNamed g = 0 < length g.0

given_named : (es : List Element) (acc all : Given) → All IsNamed acc → each next_given acc es ≡ Ok all → All IsNamed all
unfolding each next_given
given_named [] acc all so_far h = subst (All IsNamed) (ok_is AskFault acc all h) so_far
given_named (e ∷ es) acc all so_far h =
    let x = bind_ok (next_given acc e) (λ more. each next_given more es) all h in
    let is = bind_ok (unless (not (is_wfs (codes "Parameter") e)) (misplaced e)) _ x.0 x.1 in
    let name = bind_ok (name_of e) _ x.0 is.2 in
    let none = bind_ok (no_others (codes "name" ∷ []) e) _ x.0 name.2 in
    let new = bind_ok (unless (is_given acc name.0) (misplaced e)) _ x.0 none.2 in
    let value = bind_ok (text_in e) (λ value. Ok (acc ++ (name.0, value) ∷ [])) x.0 new.2 in
    let more : All IsNamed x.0 = subst (All IsNamed) (ok_is AskFault (acc ++ (name.0, value.0) ∷ []) x.0 value.2) (All-push IsNamed acc (name.0, value.0) so_far (name_is e name.0 name.1)) in
    given_named es x.0 all more x.2

-- ---- what is asked

use_is : (schema : Schema) (e : Element) (asked : Asked) → use_of e ≡ Ok asked → IsAskedOf schema asked
unfolding use_of
use_is schema e asked h =
    let id = bind_ok (required_of (codes "id") (said_at e)) _ asked h in
    let none = bind_ok (use_others e) _ asked id.2 in
    let given = bind_ok (each next_given [] (children_of e)) _ asked none.2 in
    subst (IsAskedOf schema) (ok_is AskFault (Stored id.0 given.0) asked given.2) (record {
      queries = All-nil (IsQueryOf schema 0);
      names = All-map (λ (name : List ℕ). 0 < length name) (λ (g : List ℕ × List ℕ). g.0) given.0 (given_named (children_of e) [] given.0 (All-nil IsNamed) given.1);
    })

plain_is : (schema : Schema) (e : Element) (asked : Asked) → plain_of schema e ≡ Ok asked → IsAskedOf schema asked
unfolding plain_of
plain_is schema e asked h =
    let query = bind_ok (query_of None schema e) (λ query. Ok (Plain query)) asked h in
    subst (IsAskedOf schema) (ok_is AskFault (Plain query.0) asked query.2) (record {
      queries = All-cons (IsQueryOf schema 0) query.0 [] (query_is None schema e query.0 query.1) (All-nil (IsQueryOf schema 0));
      names = All-nil (λ (name : List ℕ). 0 < length name);
    })

read_asked_is : (schema : Schema) (e : Element) (asked : Asked) → asked_of schema e ≡ Ok asked → IsAskedOf schema asked
unfolding asked_of
read_asked_is schema e asked h = elim (chosen (is_wfs (codes "Query") e) _ _ (Ok asked) h) [
  | inl g ↦ plain_is schema e asked g.1
  | inr g ↦ elim (chosen (is_wfs (codes "StoredQuery") e) _ _ (Ok asked) g.1) [
    | inl s ↦ use_is schema e asked s.1
    | inr s ↦ absurd (cc s.1)
  ]
]

pub asked_is : (schema : Schema) (e : Element) (r : Result Asked AskFault) → GivesBut OutOfMemory (λ x. x) r (asked_of schema e) → IfOk r (λ asked. IsAskedOf schema asked)
asked_is schema e (Ok asked) h = read_asked_is schema e asked h
asked_is schema e (Err fault) h = tt

-- ---- definitions

any_by : {A : Type 0} (test : A → Bool) (x : A) (xs : List A) (b c : Bool) → test x ≡ b → list_any test xs ≡ c → (b || c) ≡ false
    → (list_any test xs ≡ false → All (λ x. test x ≡ false) xs) → All (λ x. test x ≡ false) (x ∷ xs)
any_by test x xs true c is rest h later = absurd cc
any_by test x xs false true is rest h later = absurd cc
any_by test x xs false false is rest h later = All-cons (λ x. test x ≡ false) x xs is (later rest)

any_false : {A : Type 0} (test : A → Bool) (xs : List A) → list_any test xs ≡ false → All (λ x. test x ≡ false) xs
any_false test [] h = All-nil (λ x. test x ≡ false)
any_false test (x ∷ xs) h = any_by test x xs (test x) (list_any test xs) refl refl h (any_false test xs)

abbrev Apart : List ℕ → List ℕ → Type 0
Apart a b = is_same_name a b ≡ false

none_apart : AllPairs Apart []
none_apart i j d lt within = absurd (omega (arith, within))

both_true : (a b : Bool) → (a && b) ≡ true → (a ≡ true) × (b ≡ true)
both_true true b h = (refl, h)
both_true false b h = absurd cc

and_false : (a : Bool) → (a && false) ≡ false
and_false true = refl
and_false false = refl

-- an element has one name
other_name : (a b : List ℕ) (e : Element) → is_wfs a e ≡ true → bytes_eq a b ≡ false → is_wfs b e ≡ false
unfolding is_wfs
other_name a b e is differ =
    let space : Bool = bytes_eq (out-Element e).name.space wfs_space in
    let k = both_true space (bytes_eq (out-Element e).name.local a) is in
    let same : (out-Element e).name.local ≡ a = same_text (out-Element e).name.local a k.1 in
    ap (λ l. space && bytes_eq l b) same ∙ ap (λ r. space && r) differ ∙ and_false space

module _ (names : List (List ℕ)) (schema : Schema) where
  abbrev IsQuery : Query → Type 0
  IsQuery = IsQueryOf schema (length names)

  queries_are : (es : List Element) (acc all : List Query) → All IsQuery acc → each (next_query names schema) acc es ≡ Ok all → All IsQuery all
  unfolding each next_query
  queries_are [] acc all so_far h = subst (All IsQuery) (ok_is AskFault acc all h) so_far
  queries_are (e ∷ es) acc all so_far h =
      let x = bind_ok (next_query names schema acc e) (λ more. each (next_query names schema) more es) all h in
      let is = bind_ok (unless (not (is_wfs (codes "Query") e)) (misplaced e)) _ x.0 x.1 in
      let query = bind_ok (query_of (Some names) schema e) (λ query. Ok (acc ++ query ∷ [])) x.0 is.2 in
      let more : All IsQuery x.0 = subst (All IsQuery) (ok_is AskFault (acc ++ query.0 ∷ []) x.0 query.2) (All-push IsQuery acc query.0 so_far (query_is (Some names) schema e query.0 query.1)) in
      queries_are es x.0 all more x.2

  expression_is : (e : Element) (queries : List Query) → queries_of names schema e ≡ Ok queries → All IsQuery queries
  unfolding queries_of
  expression_is e queries h =
      let language = bind_ok (language_of e) _ queries h in
      let none = bind_ok (expression_others e) _ queries language.2 in
      let all = bind_ok (each (next_query names schema) [] (children_of e)) _ queries none.2 in
      let some = bind_ok (unless (length (children_of e) == 0) (misplaced e)) _ queries all.2 in
      subst (All IsQuery) (ok_is AskFault all.0 queries some.2) (queries_are (children_of e) [] all.0 (All-nil IsQuery) all.1)

  -- parts so far, and the names that were declared in them
  record IsParts (declared : List (List ℕ)) (p : Parts) : Type 0 where
    are : p.names ≡ declared
    named : All (λ name. 0 < length name) p.names
    different : AllPairs Apart p.names
    queries : IfSome p.queries (All IsQuery)

  title_good : (declared : List (List ℕ)) (p q : Parts) (e : Element) → IsParts declared p → with_title p e ≡ Ok q → IsParts declared q
  unfolding with_title
  title_good declared p q e good h =
      let first = bind_ok (unless (is_some p.title) (misplaced e)) _ q h in
      let title = bind_ok (text_alone e) _ q first.2 in
      subst (IsParts declared) (ok_is AskFault (record { title = Some title.0; names = p.names; queries = p.queries }) q title.2)
      (record { are = good.are; named = good.named; different = good.different; queries = good.queries })

  queries_good : (declared : List (List ℕ)) (p q : Parts) (e : Element) → IsParts declared p → with_queries names schema p e ≡ Ok q → IsParts declared q
  unfolding with_queries
  queries_good declared p q e good h =
      let first = bind_ok (unless (is_some p.queries) (misplaced e)) _ q h in
      let queries = bind_ok (queries_of names schema e) _ q first.2 in
      subst (IsParts declared) (ok_is AskFault (record { title = p.title; names = p.names; queries = Some queries.0 }) q queries.2)
      (record { are = good.are; named = good.named; different = good.different; queries = expression_is e queries.0 queries.1 })

  name_said : (e : Element) (name : List ℕ) → name_of e ≡ Ok name → said_at e (codes "name") ≡ Some name
  unfolding name_of required_of
  name_said e name h =
      let said = bind_ok (required_of (codes "name") (said_at e)) _ name h in
      let some = bind_ok (unless (length said.0 == 0) _) _ name said.2 in
      or_fault_ok (said_at e (codes "name")) _ name (said.1 ∙ ap Ok (ok_is AskFault said.0 name some.2))

  name_good : (declared : List (List ℕ)) (p q : Parts) (e : Element) → is_wfs (codes "Parameter") e ≡ true → IsParts declared p → with_name p e ≡ Ok q → IsParts (declared ++ declared_by e) q
  unfolding with_name is_declared declared_by
  name_good declared p q e is good h =
      let name = bind_ok (name_of e) _ q h in
      let none = bind_ok (no_others (codes "name" ∷ codes "type" ∷ []) e) _ q name.2 in
      let new = bind_ok (unless (is_declared p.names name.0) _) _ q none.2 in
      let end = bind_ok (no_children (children_of e)) _ q new.2 in
      let apart : All (λ n. Apart n name.0) p.names = any_false (λ n. is_same_name n name.0) p.names (unless_ok (is_declared p.names name.0) _ new.0 new.1) in
      let declares : declared_by e ≡ name.0 ∷ [] = rw (is, name_said e name.0 name.1) refl in
      subst (IsParts (declared ++ declared_by e)) (ok_is AskFault (record { title = p.title; names = p.names ++ name.0 ∷ []; queries = p.queries }) q end.2) (record {
        are = ap (λ ns. ns ++ name.0 ∷ []) good.are ∙ ap (λ ns. declared ++ ns) (sym declares);
        named = All-push (λ name. 0 < length name) p.names name.0 good.named (name_is e name.0 name.1);
        different = all_pairs_push Apart p.names name.0 good.different (λ k d lt. All-get_or (λ n. Apart n name.0) p.names k d lt apart);
        queries = good.queries;
      })

  -- an element that declares nothing
  same_names : (declared : List (List ℕ)) (p : Parts) (e : Element) → is_wfs (codes "Parameter") e ≡ false → IsParts declared p → IsParts (declared ++ declared_by e) p
  unfolding declared_by
  same_names declared p e is good = subst (λ ns. IsParts ns p) (sym (append-nil declared) ∙ ap (λ ns. declared ++ ns) (sym (rw is refl))) good

  part_good : (declared : List (List ℕ)) (p q : Parts) (e : Element) → IsParts declared p → next_part names schema p e ≡ Ok q → IsParts (declared ++ declared_by e) q
  unfolding next_part
  part_good declared p q e good h = elim (chosen (is_wfs (codes "Title") e) _ _ (Ok q) h) [
    | inl g ↦ same_names declared q e (other_name (codes "Title") (codes "Parameter") e g.0 refl) (title_good declared p q e good g.1)
    | inr g ↦ elim (chosen (is_wfs (codes "Abstract") e) _ _ (Ok q) g.1) [
      | inl a ↦ same_names declared q e (other_name (codes "Abstract") (codes "Parameter") e a.0 refl) (subst (IsParts declared) (ok_is AskFault p q a.1) good)
      | inr a ↦ elim (chosen (is_wfs (codes "Parameter") e) _ _ (Ok q) a.1) [
        | inl n ↦ name_good declared p q e n.0 good n.1
        | inr n ↦ elim (chosen (is_wfs (codes "QueryExpressionText") e) _ _ (Ok q) n.1) [
          | inl t ↦ same_names declared q e n.0 (queries_good declared p q e good t.1)
          | inr t ↦ absurd (cc t.1)
        ]
      ]
    ]
  ]

  parts_good : (es : List Element) (declared : List (List ℕ)) (p q : Parts) → IsParts declared p → each (next_part names schema) p es ≡ Ok q → IsParts (declared ++ declared_in es) q
  unfolding each
  parts_good [] declared p q good h = subst (λ ns. IsParts ns q) (sym (append-nil declared)) (subst (IsParts declared) (ok_is AskFault p q h) good)
  parts_good (e ∷ es) declared p q good h =
      let x = bind_ok (next_part names schema p e) (λ more. each (next_part names schema) more es) q h in
      subst (λ ns. IsParts ns q) (append_assoc declared (declared_by e) (declared_in es) ∙ ap (λ ns. declared ++ ns) (sym (flat_map-cons declared_by e es)))
      (parts_good es (declared ++ declared_by e) x.0 q (part_good declared p x.0 e good x.1) x.2)

or_bad_ok : {A E : Type 0} (r : Result A E) (x : A) → or_bad r ≡ Ok x → r ≡ Ok x
or_bad_ok (Ok y) x h = ap Ok (ok_is StoredTextFault y x h)
or_bad_ok (Err fault) x h = absurd cc

read_text_is : (schema : Schema) (names : List (List ℕ)) (text : List ℕ) (queries : List Query) → text_queries schema names text ≡ Ok queries → All (IsQueryOf schema (length names)) queries
unfolding text_queries queries_in
read_text_is schema names text queries h =
    let found = bind_ok (queries_in schema names text) (λ found. if bytes_eq (stored_text schema names found) text then Ok found else Err BadText) queries h in
    let same = if_ok (bytes_eq (stored_text schema names found.0) text) (Ok found.0) BadText queries found.2 in
    let root = bind_ok (or_bad (document (rooted text))) _ found.0 found.1 in
    let all = or_bad_ok (each (next_query names schema) [] (children_of root.0)) found.0 root.2 in
    subst (All (IsQueryOf schema (length names))) (ok_is StoredTextFault found.0 queries same.1) (queries_are names schema (children_of root.0) [] found.0 (All-nil (IsQueryOf schema (length names))) all)

read_definition_is : (schema : Schema) (e : Element) (stored : StoredQuery) → definition_of schema e ≡ Ok stored → IsStoredOf schema stored
unfolding definition_of
read_definition_is schema e stored h =
    let is = bind_ok (unless (not (is_wfs (codes "StoredQueryDefinition") e)) (misplaced e)) _ stored h in
    let id = bind_ok (required_of (codes "id") (said_at e)) _ stored is.2 in
    let none = bind_ok (definition_others e) _ stored id.2 in
    let parts = bind_ok (each (next_part (declared_in (children_of e)) schema) no_parts (children_of e)) _ stored none.2 in
    let queries = bind_ok (or_fault parts.0.queries (misplaced e)) _ stored parts.2 in
    let names : List (List ℕ) = declared_in (children_of e) in
    let start : IsParts names schema [] no_parts = record { are = refl; named = All-nil (λ (name : List ℕ). 0 < length name); different = none_apart; queries = tt } in
    let good = parts_good names schema (children_of e) [] no_parts parts.0 start parts.1 in
    let found : parts.0.queries ≡ Some queries.0 = or_fault_ok parts.0.queries _ queries.0 queries.1 in
    let all : All (IsQueryOf schema (length names)) queries.0 = subst (λ (r : Option (List Query)). IfSome r (All (IsQueryOf schema (length names)))) found good.queries in
    subst (IsStoredOf schema) (ok_is AskFault (stored_of schema id.0 parts.0 queries.0) stored queries.2) (record {
      queries = subst (λ ns. All (IsQueryOf schema (length ns)) queries.0) (sym good.are) all;
      names = good.named;
      different = good.different;
    })

-- the names of its parameters are those that it declares
pub definition_names : (schema : Schema) (e : Element) (stored : StoredQuery) → definition_of schema e ≡ Ok stored → stored.parameters ≡ declared_in (children_of e)
unfolding definition_of
definition_names schema e stored h =
    let is = bind_ok (unless (not (is_wfs (codes "StoredQueryDefinition") e)) (misplaced e)) _ stored h in
    let id = bind_ok (required_of (codes "id") (said_at e)) _ stored is.2 in
    let none = bind_ok (definition_others e) _ stored id.2 in
    let parts = bind_ok (each (next_part (declared_in (children_of e)) schema) no_parts (children_of e)) _ stored none.2 in
    let queries = bind_ok (or_fault parts.0.queries (misplaced e)) _ stored parts.2 in
    let names : List (List ℕ) = declared_in (children_of e) in
    let start : IsParts names schema [] no_parts = record { are = refl; named = All-nil (λ (name : List ℕ). 0 < length name); different = none_apart; queries = tt } in
    let good = parts_good names schema (children_of e) [] no_parts parts.0 start parts.1 in
    ap (λ (s : StoredQuery). s.parameters) (sym (ok_is AskFault (stored_of schema id.0 parts.0 queries.0) stored queries.2)) ∙ good.are

-- the queries of a text that stands for some
pub text_is : (schema : Schema) (names : List (List ℕ)) (text : List ℕ) (r : Result (List Query) StoredTextFault) → GivesBut NoMemory (λ x. x) r (text_queries schema names text) → IfOk r (λ queries. All (IsQueryOf schema (length names)) queries)
text_is schema names text (Ok queries) h = read_text_is schema names text queries h
text_is schema names text (Err fault) h = tt

pub definition_is : (schema : Schema) (e : Element) (r : Result StoredQuery AskFault) → GivesBut OutOfMemory (λ x. x) r (definition_of schema e) → IfOk r (λ stored. IsStoredOf schema stored)
definition_is schema e (Ok stored) h = read_definition_is schema e stored h
definition_is schema e (Err fault) h = tt
