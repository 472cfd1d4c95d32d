-- A Query stands in a canonical text, no larger than what it was read from, and reads back.
use Rattle.std.proofs.Common.{◌≡◌, ℕ, suc, pred, ◌+◌, ◌<◌, ◌≤◌, Bool, true, false, not, ◌||◌, List, [], ◌∷◌, ◌++◌, map, Option, Some, None, Ok, refl, ap, subst, ◌∙◌, inl, inr, arith}
use Rattle.std.specs.Prelude.{codes, IfSome}
use Rattle.std.specs.List.{list_any, list_all, prefix_len}
use Rattle.std.specs.Option.{is_some}
use Rattle.std.specs.Str.{bytes_eq}
use Rattle.std.proofs.lemmas.Bool.Decides.{nat_tests}
use Rattle.std.proofs.lemmas.List.Folds.{list_all-append}
use Rattle.wfs_ends.specs.Ends.{joined}
use Rattle.wfs_ends.specs.Read.{each, unless}
use Rattle.wfs_ends.proofs.Turns.{bind_ok, chosen, ok_is}
use Rattle.doc_tree.specs.declared.tree.QName.{QName}
use Rattle.doc_tree.specs.declared.tree.Element.{Element, out-Element}
use Rattle.doc_tree.specs.declared.tree.Element.TheOpen.{Element-F}
use Rattle.doc_tree.specs.declared.tree.Element.TheViews.{out-roll-Element}
use Rattle.doc_tree.specs.declared.tree.Prefixes.{Prefixes}
use Rattle.doc_tree.specs.Tree.{prefixed}
use Rattle.doc_tree.specs.Attributes.{is_name}
use Rattle.doc_tree.specs.Others.{is_other}
use Rattle.doc_read.specs.declared.lex.Class.TheVariants.{NamePart}
use Rattle.doc_read.specs.Chars.{holds}
use Rattle.doc_read.specs.Scope.{has_twins}
use Rattle.doc_read.specs.Element.{tree}
use Rattle.doc_read.proofs.Fronts.{both}
use Rattle.doc_laws.proofs.Sizes.{no_text, Fits, FitAll, parts, split}
use Rattle.doc_laws.proofs.Canonical.{Canon, CanonContent}
use Rattle.doc_laws.proofs.Nodes.{IsTag, standing_node, content_more, nothing, beside, alone}
use Rattle.gml_docs.specs.Numbers.{is_space}
use Rattle.gml_docs.specs.Written.{plain_name}
use Rattle.feature_values.specs.Ids.{type_named, without_prefix}
use Rattle.feature_values.specs.declared.schema.FeatureType.{FeatureType}
use Rattle.feature_values.specs.declared.schema.Schema.{Schema}
use Rattle.feature_schema.specs.Rules.{IsType, KeepsRules}
use Rattle.fes_filter.specs.Check.{type_in}
use Rattle.fes_filter.specs.declared.filter.Filter.{Filter}
use Rattle.fes_filter.specs.declared.query.Query.{Query}
use Rattle.fes_filter.specs.declared.query.SortKey.{SortKey}
use Rattle.fes_docs.specs.Names.{is_fes}
use Rattle.fes_docs.specs.Filters.{filter_of}
use Rattle.fes_docs.specs.Written.{parent, attribute, type_name, filter_tree}
use Rattle.fes_docs.proofs.Built.{parent_name, parent_named}
use Rattle.fes_docs.proofs.Named.{first_named, prefix_dropped}
use Rattle.fes_docs.proofs.Whole.{filters_read_back}
use Rattle.filter_laws.proofs.Literals.{AreTexts}
use Rattle.filter_laws.proofs.Schemas.{prefix_name, type_is, type_named as type_meant, can_be_written}
use Rattle.filter_laws.proofs.Texts.{schema_name}
use Rattle.filter_laws.proofs.Operators.{filter_stands}
use Rattle.wfs_model.specs.declared.fault.AskFault.{AskFault}
use Rattle.request_parameters.specs.Said.{required_of, kind_of}
use Rattle.request_parameters.specs.Base.{srs_of}
use Rattle.request_parameters.specs.Elements.{said_at, wfs_space, is_wfs, no_others, misplaced}
use Rattle.query_docs.specs.Elements.{children_of, not_offered, or_refusal}
use Rattle.query_docs.specs.Sorting.{keys_of}
use Rattle.query_docs.specs.Queries.{is_inner, behind, is_several, type_of, query_others, no_clauses, with_filter, with_sort, next_clause, or_no_keys, query_of}
use Rattle.query_docs.specs.Texts.{key_tree, sort_trees, filter_trees, query_tree, query_prefixes}
use Rattle.query_docs.specs.declared.query.Clauses.{Clauses}
use Rattle.query_docs.proofs.Sound.{or_fault_ok, refusal_ok}
use Rattle.query_docs.proofs.Prefixes.{are_prefixes, wfs_covered, fes_covered, gml_covered}
use Rattle.query_docs.proofs.Keys.{SortAgain, sort_again}

-- ---- one word

all_dropped : (text : List ℕ) → list_all is_inner text ≡ true → behind is_inner text ≡ []
all_dropped [] h = refl
all_dropped (c ∷ cs) h =
    let k = both (is_inner c) (list_all is_inner cs) h in
    let next : 1 + prefix_len is_inner cs ≡ suc (prefix_len is_inner cs) = omega arith in
    rw (k.0, next) (all_dropped cs k.1)

no_space : (b : Bool) → not b ≡ true → b ≡ false
no_space true h = absurd cc
no_space false h = refl

starts_inner : (text : List ℕ) → list_all is_inner text ≡ true → behind is_space text ≡ text
starts_inner [] h = refl
starts_inner (c ∷ cs) h =
    let k = both (is_inner c) (list_all is_inner cs) h in
    rw (no_space (is_space c) k.0) refl

one_word : (text : List ℕ) → list_all is_inner text ≡ true → is_several text ≡ false
unfolding is_several
one_word text h = ap (λ t. list_any is_inner (behind is_inner t)) (starts_inner text h) ∙ ap (list_any is_inner) (all_dropped text h)

part_inner : (c : ℕ) → holds NamePart c ≡ true → is_inner c ≡ true
unfolding is_space
part_inner c h = grind (arith, nat_tests, h)

parts_inner : (cs : List ℕ) → list_all (holds NamePart) cs ≡ true → list_all is_inner cs ≡ true
parts_inner [] h = refl
parts_inner (c ∷ cs) h =
    let k = both (holds NamePart c) (list_all (holds NamePart) cs) h in
    rw (part_inner c k.0) (parts_inner cs k.1)

inner_then : (xs ys : List ℕ) → list_all is_inner xs ≡ true → list_all is_inner ys ≡ true → list_all is_inner (xs ++ ys) ≡ true
inner_then xs ys a b = list_all-append is_inner xs ys ∙ rw (a, b) refl

one_colon : list_all is_inner (codes ":") ≡ true
unfolding is_space
one_colon = refl

-- ---- elements of other names

-- an element of FES is none of WFS
no_wfs : (want local : List ℕ) (kids : List Element) → is_wfs want (parent local kids) ≡ false
unfolding is_wfs
no_wfs want local kids = ap (λ (n : QName). is_name wfs_space want n) (parent_name local kids)

module _ (schema : Schema) (keeps : KeepsRules schema) (listed : List (List ℕ)) (texts : AreTexts listed) where
  abbrev ps : Option (List (List ℕ))
  ps = Some listed

  abbrev prefixes_of : Prefixes
  prefixes_of = query_prefixes schema

  type_inner : (of_type : Option FeatureType) → IfSome of_type IsType → list_all is_inner (type_name of_type) ≡ true
  type_inner None is = refl
  type_inner (Some t) is = parts_inner t.name (schema_name t.name is.name).each

  -- the name of a type as it is written
  abbrev written : ℕ → List ℕ
  written kind = prefixed schema.prefix (type_name (type_in schema (Some kind)))

  written_inner : (kind : ℕ) → list_all is_inner (written kind) ≡ true
  unfolding prefixed joined
  written_inner kind =
      inner_then schema.prefix _ (parts_inner schema.prefix (prefix_name schema keeps).each)
      (inner_then (codes ":") _ one_colon (inner_then (type_name (type_in schema (Some kind))) [] (type_inner (type_in schema (Some kind)) (type_is schema keeps (Some kind))) refl))

  found_type : (name : List ℕ) (kind : ℕ) → type_named schema name ≡ Some kind → type_name (type_in schema (Some kind)) ≡ name
  unfolding type_named
  found_type name kind h =
      let one = first_named (λ t. t.name) name kind schema.types h in
      ap type_name one.1 ∙ one.2

  module _ (kind : ℕ) where
    abbrev sort_of : List SortKey → List Element
    sort_of keys = sort_trees schema (Some kind) keys

    -- ---- a filter, and an order, that were read

    abbrev FilterAgain : ℕ → ℕ → Option Filter → Type 0
    FilterAgain d n None = Unit {0}
    FilterAgain d n (Some f) = Canon prefixes_of false d (filter_tree ps schema (Some kind) f) n × (filter_of ps schema (Some kind) (filter_tree ps schema (Some kind) f) ≡ Ok f)

    abbrev OrderAgain : ℕ → ℕ → Option (List SortKey) → Type 0
    OrderAgain d n None = Unit {0}
    OrderAgain d n (Some keys) = SortAgain schema keeps listed texts (Some kind) d n keys

    record ClausesAgain (d n : ℕ) (c : Clauses) : Type 0 where
      here : ℕ
      there : ℕ
      total : here + there ≤ n
      filter : FilterAgain d here c.filter
      order : OrderAgain d there c.sort

    filter_again : (d n : ℕ) (e : Element) (f : Filter) → filter_of ps schema (Some kind) e ≡ Ok f → Fits d n e → FilterAgain d n (Some f)
    filter_again d n e f h fit =
        let w = filter_stands prefixes_of (are_prefixes schema keeps) (fes_covered schema) (gml_covered schema) listed texts schema keeps (Some kind) false d n e f h fit in
        (w.stands, filters_read_back ps schema (Some kind) e f (can_be_written schema keeps) w.is h)

    add_filter : (d k m : ℕ) (c b : Clauses) (e : Element) → ClausesAgain d k c → with_filter ps schema (Some kind) c e ≡ Ok b → Fits d m e → ClausesAgain d (k + m) b
    unfolding with_filter
    add_filter d k m c b e so_far h fit =
        let first = bind_ok (unless (is_some c.filter || is_some c.sort) (misplaced e)) _ b h in
        let f = bind_ok (or_refusal (filter_of ps schema (Some kind) e)) _ b first.2 in
        subst (ClausesAgain d (k + m)) (ok_is AskFault (record { filter = Some f.0; sort = c.sort }) b f.2) (record {
          here = m;
          there = so_far.there;
          total = omega (arith, so_far.total);
          filter = filter_again d m e f.0 (refusal_ok (filter_of ps schema (Some kind) e) f.0 f.1) fit;
          order = so_far.order;
        })

    add_sort : (d k m : ℕ) (c b : Clauses) (e : Element) → ClausesAgain d k c → with_sort schema (Some kind) c e ≡ Ok b → Fits d m e → ClausesAgain d (k + m) b
    unfolding with_sort
    add_sort d k m c b e so_far h fit =
        let first = bind_ok (unless (is_some c.sort) (misplaced e)) _ b h in
        let keys = bind_ok (keys_of (type_in schema (Some kind)) e) _ b first.2 in
        subst (ClausesAgain d (k + m)) (ok_is AskFault (record { filter = c.filter; sort = Some keys.0 }) b keys.2) (record {
          here = so_far.here;
          there = m;
          total = omega (arith, so_far.total);
          filter = so_far.filter;
          order = sort_again schema keeps listed texts (Some kind) d m e keys.0 keys.1 fit;
        })

    add_clause : (d k m : ℕ) (c b : Clauses) (e : Element) → ClausesAgain d k c → next_clause ps schema (Some kind) c e ≡ Ok b → Fits d m e → ClausesAgain d (k + m) b
    unfolding next_clause
    add_clause d k m c b e so_far h fit = elim (chosen (is_wfs (codes "PropertyName") e) _ _ (Ok b) h) [
      | inl g ↦ absurd (cc g.1)
      | inr g ↦ elim (chosen (is_fes (codes "Filter") e) _ _ (Ok b) g.1) [
        | inl f ↦ add_filter d k m c b e so_far f.1 fit
        | inr f ↦ elim (chosen (is_fes (codes "SortBy") e) _ _ (Ok b) f.1) [
          | inl s ↦ add_sort d k m c b e so_far s.1 fit
          | inr s ↦ absurd (cc s.1)
        ]
      ]
    ]

    clauses_within : (d k n : ℕ) (c : Clauses) → k ≤ n → ClausesAgain d k c → ClausesAgain d n c
    clauses_within d k n c le a = record { here = a.here; there = a.there; total = omega (arith, le, a.total); filter = a.filter; order = a.order }

    all_clauses : (d k n : ℕ) (es : List Element) (c b : Clauses) → ClausesAgain d k c → each (next_clause ps schema (Some kind)) c es ≡ Ok b → FitAll d n es → ClausesAgain d (k + n) b
    unfolding each
    all_clauses d k n [] c b so_far h fit = subst (ClausesAgain d (k + n)) (ok_is AskFault c b h) (record { here = so_far.here; there = so_far.there; total = omega (arith, so_far.total); filter = so_far.filter; order = so_far.order })
    all_clauses d k n (e ∷ es) c b so_far h fit =
        let x = bind_ok (next_clause ps schema (Some kind) c e) (λ more. each (next_clause ps schema (Some kind)) more es) b h in
        let s = split d n e es fit in
        let rest = all_clauses d (k + s.here) s.there es x.0 b (add_clause d k s.here c x.0 e so_far x.1 s.one) x.2 s.rest in
        record { here = rest.here; there = rest.there; total = omega (arith, rest.total, s.total); filter = rest.filter; order = rest.order }

    -- ---- the clauses as they are written

    abbrev trees : Clauses → List Element
    trees c = filter_trees listed schema (Some kind) c.filter ++ sort_of (or_no_keys c.sort)

    sort_stands : (d n : ℕ) (keys : List SortKey) → SortAgain schema keeps listed texts (Some kind) d n keys → CanonContent prefixes_of false d (sort_of keys) n
    sort_stands d n [] s = nothing prefixes_of false d n
    sort_stands d n (key ∷ keys) s = alone prefixes_of false d n _ s.stands

    order_stands : (d n : ℕ) (o : Option (List SortKey)) → OrderAgain d n o → CanonContent prefixes_of false d (sort_of (or_no_keys o)) n
    order_stands d n None s = nothing prefixes_of false d n
    order_stands d n (Some keys) s = sort_stands d n keys s

    filter_then : (d k m n : ℕ) (o : Option Filter) (es : List Element) → k + m ≤ n → FilterAgain d k o → CanonContent prefixes_of false d es m → CanonContent prefixes_of false d (filter_trees listed schema (Some kind) o ++ es) n
    filter_then d k m n None es total f rest = content_more prefixes_of false d d m n es (omega arith) (omega (arith, total)) rest
    filter_then d k m n (Some x) es total f rest = beside prefixes_of false d k m n _ es total f.0 rest

    trees_stand : (d n : ℕ) (c : Clauses) → ClausesAgain d n c → CanonContent prefixes_of false d (trees c) n
    trees_stand d n c a = filter_then d a.here a.there n c.filter _ a.total a.filter (order_stands d a.there c.sort a.order)

    -- ---- and read again

    filter_not_wfs : (want : List ℕ) (f : Filter) → is_wfs want (filter_tree ps schema (Some kind) f) ≡ false
    unfolding filter_tree
    filter_not_wfs want f = no_wfs want (codes "Filter") _

    filter_named : (f : Filter) → is_fes (codes "Filter") (filter_tree ps schema (Some kind) f) ≡ true
    unfolding filter_tree
    filter_named f = parent_named (codes "Filter") _ (codes "Filter")

    filter_next : (f : Filter) → filter_of ps schema (Some kind) (filter_tree ps schema (Some kind) f) ≡ Ok f → next_clause ps schema (Some kind) no_clauses (filter_tree ps schema (Some kind) f) ≡ Ok (record { filter = Some f; sort = None })
    unfolding next_clause with_filter unless
    filter_next f h = rw (filter_not_wfs (codes "PropertyName") f, filter_named f, h) refl

    abbrev sort_tree : List SortKey → Element
    sort_tree keys = parent (codes "SortBy") (map (key_tree schema (Some kind)) keys)

    sort_next : (filter : Option Filter) (keys : List SortKey) → keys_of (type_in schema (Some kind)) (sort_tree keys) ≡ Ok keys
        → next_clause ps schema (Some kind) (record { filter = filter; sort = None }) (sort_tree keys) ≡ Ok (record { filter = filter; sort = Some keys })
    unfolding next_clause with_sort unless
    sort_next filter keys h =
        let kids = map (key_tree schema (Some kind)) keys in
        let no_filter : is_fes (codes "Filter") (parent (codes "SortBy") kids) ≡ false = parent_named (codes "SortBy") kids (codes "Filter") in
        let order : is_fes (codes "SortBy") (parent (codes "SortBy") kids) ≡ true = parent_named (codes "SortBy") kids (codes "SortBy") in
        rw (no_wfs (codes "PropertyName") (codes "SortBy") kids, no_filter, order, h) refl

    sorts_next : (d n : ℕ) (filter : Option Filter) (keys : List SortKey) → SortAgain schema keeps listed texts (Some kind) d n keys
        → each (next_clause ps schema (Some kind)) (record { filter = filter; sort = None }) (sort_of keys) ≡ Ok (record { filter = filter; sort = Some keys })
    unfolding each
    sorts_next d n filter [] s = absurd (omega (arith, s.some))
    sorts_next d n filter (key ∷ keys) s = rw (sort_next filter (key ∷ keys) s.reads) refl

    order_next : (d n : ℕ) (filter : Option Filter) (o : Option (List SortKey)) → OrderAgain d n o → each (next_clause ps schema (Some kind)) (record { filter = filter; sort = None }) (sort_of (or_no_keys o)) ≡ Ok (record { filter = filter; sort = o })
    unfolding each
    order_next d n filter None s = refl
    order_next d n filter (Some keys) s = sorts_next d n filter keys s

    filter_first : (d n k m : ℕ) (o : Option Filter) (sort : Option (List SortKey)) → FilterAgain d k o → OrderAgain d m sort
        → each (next_clause ps schema (Some kind)) no_clauses (filter_trees listed schema (Some kind) o ++ sort_of (or_no_keys sort)) ≡ Ok (record { filter = o; sort = sort })
    unfolding each
    filter_first d n k m None sort f s = order_next d m None sort s
    filter_first d n k m (Some x) sort f s = rw (filter_next x f.1) (order_next d m (Some x) sort s)

    clauses_next : (d n : ℕ) (c : Clauses) → ClausesAgain d n c → each (next_clause ps schema (Some kind)) no_clauses (trees c) ≡ Ok c
    clauses_next d n c a = filter_first d n a.here a.there c.filter c.sort a.filter a.order

  -- ---- the whole

  -- a query of these clauses, and its element
  abbrev query_with : ℕ → Clauses → Query
  query_with kind c = record { kind = Some kind; filter = c.filter; sort = or_no_keys c.sort }

  module _ (kind : ℕ) (c : Clauses) where
    abbrev whole : Element
    whole = query_tree listed schema (query_with kind c)

    whole_name : (out-Element whole).name ≡ record { space = wfs_space; local = codes "Query" }
    unfolding query_tree
    whole_name = ap (λ (o : Element-F Element). o.name) (out-roll-Element _)

    whole_attributes : (out-Element whole).attributes ≡ attribute (codes "typeNames") (written kind) ∷ []
    unfolding query_tree
    whole_attributes = ap (λ (o : Element-F Element). o.attributes) (out-roll-Element _)

    whole_children : (out-Element whole).children ≡ trees kind c
    unfolding query_tree
    whole_children = ap (λ (o : Element-F Element). o.children) (out-roll-Element _)

    whole_is : is_wfs (codes "Query") whole ≡ true
    unfolding is_wfs
    whole_is = ap (λ (n : QName). is_name wfs_space (codes "Query") n) whole_name

    said_type : said_at whole (codes "typeNames") ≡ Some (written kind)
    unfolding attribute plain_name
    said_type = rw whole_attributes refl

    said_nothing : (want : List ℕ) → bytes_eq (codes "typeNames") want ≡ false → said_at whole want ≡ None
    unfolding attribute plain_name
    said_nothing want h = rw (whole_attributes, h) refl

    no_other : query_others whole ≡ Ok tt
    unfolding query_others no_others attribute plain_name is_other
    no_other = rw whole_attributes refl

    type_again : (name : List ℕ) → type_named schema name ≡ Some kind → type_of schema whole ≡ Ok kind
    unfolding type_of kind_of required_of unless
    type_again name h =
        let one : is_several (written kind) ≡ false = one_word (written kind) (written_inner kind) in
        let behind_prefix : without_prefix (written kind) ≡ name = prefix_dropped schema.prefix _ (can_be_written schema keeps).prefix ∙ found_type name kind h in
        rw (said_type, one, behind_prefix, h) refl

    srs_again : srs_of schema.srs (said_at whole) ≡ Ok tt
    unfolding srs_of
    srs_again = rw (said_nothing (codes "srsName") refl) refl

    reads_again : (d n : ℕ) (name : List ℕ) → type_named schema name ≡ Some kind → ClausesAgain kind d n c → query_of ps schema whole ≡ Ok (query_with kind c)
    unfolding query_of
    reads_again d n name h a =
        rw (
          type_again name h,
          srs_again,
          said_nothing (codes "aliases") refl,
          said_nothing (codes "featureVersion") refl,
          no_other,
          whole_children,
          clauses_next kind d n c a,
        ) refl

    query_tag : IsTag prefixes_of (record { space = wfs_space; local = codes "Query" }) (attribute (codes "typeNames") (written kind) ∷ [])
    unfolding attribute plain_name has_twins
    query_tag = record {
      covered = wfs_covered schema (codes "Query");
      local = record { first = refl; each = refl };
      attributes = refl;
      good = (record { local = record { first = refl; each = refl }; no_xmlns = λ e. refl; value = type_meant schema keeps (Some kind) }, tt);
      once = refl;
      few = omega arith;
    }

    whole_stands : (d n : ℕ) → 0 < d → 0 < n → ClausesAgain kind (pred d) (pred n) c → Canon prefixes_of true d whole n
    unfolding query_tree
    whole_stands d n deep some a = by (trees kind c) (trees_stand kind (pred d) (pred n) c a)
      where
        by : (kids : List Element) → CanonContent prefixes_of false (pred d) kids (pred n) → Canon prefixes_of true d (tree (record { space = wfs_space; local = codes "Query" }) (attribute (codes "typeNames") (written kind) ∷ []) kids []) n
        by [] all = standing_node prefixes_of true d n _ _ [] [] (are_prefixes schema keeps) query_tag no_text deep some all
        by (kid ∷ kids) all = standing_node prefixes_of true d n _ _ (kid ∷ kids) [] (are_prefixes schema keeps) query_tag no_text deep some all

  -- a query that was read: its element stands in a document of its own, and reads back
  pub record QueryAgain (d n : ℕ) (query : Query) : Type 0 where
    pub is : is_wfs (codes "Query") (query_tree listed schema query) ≡ true
    pub stands : Canon prefixes_of true d (query_tree listed schema query) n
    pub reads : query_of ps schema (query_tree listed schema query) ≡ Ok query

  pub query_again : (d n : ℕ) (e : Element) (query : Query) → query_of ps schema e ≡ Ok query → Fits d n e → QueryAgain d n query
  unfolding query_of type_of kind_of
  query_again d n e query h fit =
      let kind = bind_ok (type_of schema e) _ query h in
      let names = bind_ok (required_of (codes "typeNames") (said_at e)) _ kind.0 kind.1 in
      let one = bind_ok (unless (is_several names.0) _) _ kind.0 names.2 in
      let named = or_fault_ok (type_named schema (without_prefix names.0)) _ kind.0 one.2 in
      let srs = bind_ok (srs_of schema.srs (said_at e)) _ query kind.2 in
      let aliases = bind_ok (not_offered (codes "aliases") (said_at e (codes "aliases"))) _ query srs.2 in
      let version = bind_ok (not_offered (codes "featureVersion") (said_at e (codes "featureVersion"))) _ query aliases.2 in
      let others = bind_ok (query_others e) _ query version.2 in
      let clauses = bind_ok (each (next_clause ps schema (Some kind.0)) no_clauses (children_of e)) _ query others.2 in
      let p = parts d n e fit in
      let none : ClausesAgain kind.0 (pred d) 0 no_clauses = record { here = 0; there = 0; total = omega arith; filter = tt; order = tt } in
      let a = clauses_within kind.0 (pred d) (0 + pred n) (pred n) clauses.0 (omega arith) (all_clauses kind.0 (pred d) 0 (pred n) (children_of e) no_clauses clauses.0 none clauses.1 p.kids) in
      subst (QueryAgain d n) (ok_is AskFault (query_with kind.0 clauses.0) query clauses.2) (record {
        is = whole_is kind.0 clauses.0;
        stands = whole_stands kind.0 clauses.0 d n p.deep p.many a;
        reads = reads_again kind.0 clauses.0 (pred d) (pred n) (without_prefix names.0) named a;
      })
