-- The text that a definition keeps of its queries reads back as them.
use Rattle.std.proofs.Common.{◌≡◌, ℕ, pred, ◌+◌, ◌<◌, ◌≤◌, Bool, true, false, not, cond, List, [], ◌∷◌, ◌++◌, length, map, Option, Some, None, Result, Ok, Err, refl, sym, ap, subst, ◌∙◌, append_assoc, inl, inr, arith}
use Rattle.std.specs.Prelude.{codes, IfSome, IfOk, All, find, option_map, ◌==◌}
use Rattle.std.specs.List.{list_all}
use Rattle.std.specs.Option.{is_some, option_to_list}
use Rattle.std.proofs.lemmas.List.{append-nil}
use Rattle.std.proofs.lemmas.List.Concat.{flat_map-cons}
use Rattle.std.proofs.lemmas.List.Elements.{All-nil, All-cons, All-append}
use Rattle.wfs_ends.specs.Ends.{joined}
use Rattle.wfs_ends.specs.Read.{GivesBut, each, unless}
use Rattle.wfs_ends.proofs.Turns.{bind_ok, chosen, ok_is}
use Rattle.doc_tree.specs.declared.tree.Attribute.{Attribute}
use Rattle.doc_tree.specs.declared.tree.Element.{Element, out-Element}
use Rattle.doc_tree.specs.declared.tree.Element.TheOpen.{Element-F}
use Rattle.doc_tree.specs.declared.tree.Element.TheViews.{out-roll-Element}
use Rattle.doc_tree.specs.Attributes.{is_name}
use Rattle.doc_read.specs.Document.{document}
use Rattle.doc_read.specs.Element.{tree}
use Rattle.doc_read.proofs.Again.{same_bytes}
use Rattle.doc_read.proofs.Documents.{document_again}
use Rattle.doc_read.proofs.Fronts.{both}
use Rattle.doc_laws.specs.InDocument.{is_text, IsInDocument}
use Rattle.doc_laws.proofs.Sizes.{Fits, FitAll, parts, split}
use Rattle.doc_laws.proofs.Canonical.{CanonContent}
use Rattle.doc_laws.proofs.Nodes.{content_more, nothing, beside}
use Rattle.doc_laws.proofs.Around.{standing}
use Rattle.feature_values.specs.declared.schema.Schema.{Schema}
use Rattle.feature_schema.specs.Rules.{KeepsRules}
use Rattle.fes_filter.specs.declared.query.Query.{Query}
use Rattle.filter_laws.proofs.Literals.{AreTexts}
use Rattle.wfs_model.specs.declared.fault.AskFault.{AskFault}
use Rattle.wfs_model.specs.declared.fault.AskFault.TheVariants.{OutOfMemory}
use Rattle.wfs_model.specs.declared.stored.StoredQuery.{StoredQuery}
use Rattle.request_parameters.specs.Said.{or_fault, required_of}
use Rattle.request_parameters.specs.Elements.{said_at, is_wfs, no_others, misplaced, no_children}
use Rattle.query_docs.specs.Elements.{children_of, text_alone}
use Rattle.query_docs.specs.Queries.{query_of}
use Rattle.query_docs.specs.Asked.{name_of}
use Rattle.query_docs.specs.Definitions.{language_of, expression_others, next_query, queries_of, no_parts, with_title, is_declared, with_name, with_queries, next_part, declared_by, declared_in, stored_of, definition_others, definition_of}
use Rattle.query_docs.specs.Texts.{query_tree, query_prefixes, stored_text}
use Rattle.query_docs.specs.Reading.{rooted, queries_in, text_queries, IsKeptText}
use Rattle.query_docs.specs.declared.definition.Parts.{Parts}
use Rattle.query_docs.proofs.Queries.{query_again}
use Rattle.query_docs.proofs.Sound.{or_fault_ok, definition_names}

-- ---- names that are declared

abbrev IsTextName : List ℕ → Type 0
IsTextName name = is_text name ≡ true

value_text : (test : Attribute → Bool) (xs : List Attribute) → list_all (λ a. is_text a.value) xs ≡ true → IfSome (option_map (λ a. a.value) (find test xs)) IsTextName
value_text test [] h = tt
value_text test (a ∷ xs) h =
    let k = both (is_text a.value) (list_all (λ a. is_text a.value) xs) h in
    by (test a) k.0 (value_text test xs k.1)
  where
    by : (b : Bool) → is_text a.value ≡ true → IfSome (option_map (λ a. a.value) (find test xs)) IsTextName → IfSome (option_map (λ a. a.value) (cond b (Some a) (find test xs))) IsTextName
    by true here rest = here
    by false here rest = rest

listed_if : (o : Option (List ℕ)) → IfSome o IsTextName → All IsTextName (option_to_list o)
listed_if None is = All-nil IsTextName
listed_if (Some name) is = All-cons IsTextName name [] is (All-nil IsTextName)

name_text : (d n : ℕ) (e : Element) → Fits d n e → All IsTextName (declared_by e)
unfolding declared_by
name_text d n e fit = by (is_wfs (codes "Parameter") e)
  where
    by : (b : Bool) → All IsTextName (cond b (option_to_list (said_at e (codes "name"))) [])
    by true = listed_if (said_at e (codes "name")) (value_text (λ a. is_name [] (codes "name") a.name) (out-Element e).attributes (parts d n e fit).values)
    by false = All-nil IsTextName

names_texts : (d n : ℕ) (es : List Element) → FitAll d n es → AreTexts (declared_in es)
names_texts d n [] fit = All-nil IsTextName
names_texts d n (e ∷ es) fit =
    let s = split d n e es fit in
    subst (All IsTextName) (sym (flat_map-cons declared_by e es)) (All-append IsTextName (declared_by e) (declared_in es) (name_text d s.here e s.one) (names_texts d s.there es s.rest))

-- ---- queries, and their text

module _ (schema : Schema) (keeps : KeepsRules schema) (listed : List (List ℕ)) (texts : AreTexts listed) where
  abbrev trees : List Query → List Element
  trees queries = map (query_tree listed schema) queries

  abbrev StandAll : ℕ → ℕ → List Element → Type 0
  StandAll d n es = CanonContent (query_prefixes schema) true d es n

  -- queries of which each stands in a document of its own, and reads back
  record Back (d n : ℕ) (queries : List Query) : Type 0 where
    stand : StandAll d n (trees queries)
    reads : (start : List Query) → each (next_query listed schema) start (trees queries) ≡ Ok (start ++ queries)

  none_back : (d n : ℕ) → Back d n []
  unfolding each
  none_back d n = record { stand = nothing (query_prefixes schema) true d n; reads = λ start. ap Ok (sym (append-nil start)) }

  next_again : (start : List Query) (t : Element) (query : Query) → is_wfs (codes "Query") t ≡ true → query_of (Some listed) schema t ≡ Ok query → next_query listed schema start t ≡ Ok (start ++ query ∷ [])
  unfolding next_query unless
  next_again start t query is h = rw (is, h) refl

  one_back : (d k m n : ℕ) (e : Element) (query : Query) (queries : List Query) → k + m ≤ n → query_of (Some listed) schema e ≡ Ok query → Fits d k e → Back d m queries → Back d n (query ∷ queries)
  unfolding each
  one_back d k m n e query queries total h fit rest =
      let q = query_again schema keeps listed texts d k e query h fit in
      record {
        stand = beside (query_prefixes schema) true d k m n _ _ total q.stands rest.stand;
        reads = λ start. rw (next_again start (query_tree listed schema query) query q.is q.reads) (rest.reads (start ++ query ∷ []) ∙ ap Ok (append_assoc start (query ∷ []) queries));
      }

  record Read (d n : ℕ) (acc all : List Query) : Type 0 where
    more : List Query
    is : all ≡ acc ++ more
    back : Back d n more

  queries_back : (d n : ℕ) (es : List Element) (acc all : List Query) → each (next_query listed schema) acc es ≡ Ok all → FitAll d n es → Read d n acc all
  unfolding each next_query
  queries_back d n [] acc all h fit = record { more = []; is = sym (ok_is AskFault acc all h) ∙ sym (append-nil acc); back = none_back d n }
  queries_back d n (e ∷ es) acc all h fit =
      let x = bind_ok (next_query listed schema acc e) (λ more. each (next_query listed schema) more es) all h in
      let is = bind_ok (unless (not (is_wfs (codes "Query") e)) (misplaced e)) _ x.0 x.1 in
      let query = bind_ok (query_of (Some listed) schema e) (λ query. Ok (acc ++ query ∷ [])) x.0 is.2 in
      let s = split d n e es fit in
      let rest = queries_back d s.there es x.0 all x.2 s.rest in
      let x_is : acc ++ query.0 ∷ [] ≡ x.0 = ok_is AskFault (acc ++ query.0 ∷ []) x.0 query.2 in
      record {
        more = query.0 ∷ rest.more;
        is = rest.is ∙ ap (λ xs. xs ++ rest.more) (sym x_is) ∙ append_assoc acc (query.0 ∷ []) rest.more;
        back = one_back d s.here s.there n e query.0 rest.more s.total query.1 s.one rest.back;
      }

  -- the text of such queries stands for them
  abbrev IsText : List Query → Type 0
  IsText queries = text_queries schema listed (stored_text schema listed queries) ≡ Ok queries

  abbrev root_of : (es : List Element) → Element
  root_of es = tree (record { space = []; local = codes "queries" }) [] es []

  root_children : (es : List Element) → children_of (root_of es) ≡ es
  root_children es = ap (λ (o : Element-F Element). o.children) (out-roll-Element _)

  text_document : (queries : List Query) (n : ℕ) → StandAll 31 n (trees queries) → n < 100000 → document (rooted (stored_text schema listed queries)) ≡ Ok (root_of (trees queries))
  unfolding rooted stored_text joined
  text_document queries n stand few = document_again _ (root_of (trees queries)) (standing (query_prefixes schema) (codes "queries") (trees queries) n (record { first = refl; each = refl }) stand few)

  in_text : (queries : List Query) (n : ℕ) → Back 31 n queries → n < 100000 → queries_in schema listed (stored_text schema listed queries) ≡ Ok queries
  unfolding queries_in
  in_text queries n b few = rw (text_document queries n b.stand few, root_children (trees queries), b.reads []) refl

  is_text_of : (queries : List Query) (n : ℕ) → Back 31 n queries → n < 100000 → IsText queries
  unfolding text_queries
  is_text_of queries n b few = rw (in_text queries n b few, same_bytes (stored_text schema listed queries)) refl

  -- ---- a QueryExpressionText

  expression_kept : (d n : ℕ) (e : Element) (queries : List Query) → d ≤ 32 → n ≤ 100000 → queries_of listed schema e ≡ Ok queries → Fits d n e → IsText queries
  unfolding queries_of
  expression_kept d n e queries deep many h fit =
      let language = bind_ok (language_of e) _ queries h in
      let none = bind_ok (expression_others e) _ queries language.2 in
      let all = bind_ok (each (next_query listed schema) [] (children_of e)) _ queries none.2 in
      let some = bind_ok (unless (length (children_of e) == 0) (misplaced e)) _ queries all.2 in
      let same : all.0 ≡ queries = ok_is AskFault all.0 queries some.2 in
      let p = parts d n e fit in
      let r = queries_back (pred d) (pred n) (children_of e) [] all.0 all.1 p.kids in
      let b : Back 31 (pred n) r.more = record { stand = content_more (query_prefixes schema) true (pred d) 31 (pred n) (pred n) (trees r.more) (omega (arith, deep, p.deep)) (omega arith) r.back.stand; reads = r.back.reads } in
      subst IsText (sym r.is ∙ same) (is_text_of r.more (pred n) b (omega (arith, many, p.many)))

  -- ---- the parts of a definition

  abbrev Good : Parts → Type 0
  Good p = IfSome p.queries IsText

  title_good : (p q : Parts) (e : Element) → Good p → with_title p e ≡ Ok q → Good q
  unfolding with_title
  title_good p q e good h =
      let first = bind_ok (unless (is_some p.title) (misplaced e)) _ q h in
      let title = bind_ok (text_alone e) _ q first.2 in
      subst Good (ok_is AskFault (record { title = Some title.0; names = p.names; queries = p.queries }) q title.2) good

  name_good : (p q : Parts) (e : Element) → Good p → with_name p e ≡ Ok q → Good q
  unfolding with_name
  name_good p q e good h =
      let name = bind_ok (name_of e) _ q h in
      let none = bind_ok (no_others (codes "name" ∷ codes "type" ∷ []) e) _ q name.2 in
      let new = bind_ok (unless (is_declared p.names name.0) _) _ q none.2 in
      let end = bind_ok (no_children (children_of e)) _ q new.2 in
      subst Good (ok_is AskFault (record { title = p.title; names = p.names ++ name.0 ∷ []; queries = p.queries }) q end.2) good

  queries_good : (d n : ℕ) (p q : Parts) (e : Element) → d ≤ 32 → n ≤ 100000 → with_queries listed schema p e ≡ Ok q → Fits d n e → Good q
  unfolding with_queries
  queries_good d n p q e deep many h fit =
      let first = bind_ok (unless (is_some p.queries) (misplaced e)) _ q h in
      let queries = bind_ok (queries_of listed schema e) _ q first.2 in
      subst Good (ok_is AskFault (record { title = p.title; names = p.names; queries = Some queries.0 }) q queries.2) (expression_kept d n e queries.0 deep many queries.1 fit)

  part_good : (d n : ℕ) (p q : Parts) (e : Element) → d ≤ 32 → n ≤ 100000 → Good p → next_part listed schema p e ≡ Ok q → Fits d n e → Good q
  unfolding next_part
  part_good d n p q e deep many good h fit = elim (chosen (is_wfs (codes "Title") e) _ _ (Ok q) h) [
    | inl g ↦ title_good p q e good g.1
    | inr g ↦ elim (chosen (is_wfs (codes "Abstract") e) _ _ (Ok q) g.1) [
      | inl a ↦ subst Good (ok_is AskFault p q a.1) good
      | inr a ↦ elim (chosen (is_wfs (codes "Parameter") e) _ _ (Ok q) a.1) [
        | inl m ↦ name_good p q e good m.1
        | inr m ↦ elim (chosen (is_wfs (codes "QueryExpressionText") e) _ _ (Ok q) m.1) [
          | inl t ↦ queries_good d n p q e deep many t.1 fit
          | inr t ↦ absurd (cc t.1)
        ]
      ]
    ]
  ]

  parts_good : (d n : ℕ) (es : List Element) (p q : Parts) → d ≤ 32 → n ≤ 100000 → Good p → each (next_part listed schema) p es ≡ Ok q → FitAll d n es → Good q
  unfolding each
  parts_good d n [] p q deep many good h fit = subst Good (ok_is AskFault p q h) good
  parts_good d n (e ∷ es) p q deep many good h fit =
      let x = bind_ok (next_part listed schema p e) (λ more. each (next_part listed schema) more es) q h in
      let s = split d n e es fit in
      parts_good d s.there es x.0 q deep (omega (arith, many, s.total)) (part_good d s.here p x.0 e deep (omega (arith, many, s.total)) good x.1 s.one) x.2 s.rest

-- ---- a definition

pub definition_kept : (schema : Schema) (e : Element) (stored : StoredQuery) → KeepsRules schema → IsInDocument e → definition_of schema e ≡ Ok stored → IsKeptText schema stored
unfolding definition_of
definition_kept schema e stored keeps fit h =
    let is = bind_ok (unless (not (is_wfs (codes "StoredQueryDefinition") e)) (misplaced e)) _ stored h in
    let id = bind_ok (required_of (codes "id") (said_at e)) _ stored is.2 in
    let none = bind_ok (definition_others e) _ stored id.2 in
    let names : List (List ℕ) = declared_in (children_of e) in
    let read = bind_ok (each (next_part names schema) no_parts (children_of e)) _ stored none.2 in
    let queries = bind_ok (or_fault read.0.queries (misplaced e)) _ stored read.2 in
    let found : read.0.queries ≡ Some queries.0 = or_fault_ok read.0.queries _ queries.0 queries.1 in
    let inside = parts 32 100000 e (record { texts = fit.texts; deep = fit.deep; many = fit.many }) in
    let texts : AreTexts names = names_texts (pred 32) (pred 100000) (children_of e) inside.kids in
    let good = parts_good schema keeps names texts (pred 32) (pred 100000) (children_of e) no_parts read.0 (omega arith) (omega arith) tt read.1 inside.kids in
    let kept : text_queries schema names (stored_text schema names queries.0) ≡ Ok queries.0 = subst (λ (r : Option (List Query)). IfSome r (λ qs. text_queries schema names (stored_text schema names qs) ≡ Ok qs)) found good in
    let same : stored_of schema id.0 read.0 queries.0 ≡ stored = ok_is AskFault (stored_of schema id.0 read.0 queries.0) stored queries.2 in
    let named : read.0.names ≡ names = ap (λ (s : StoredQuery). s.parameters) same ∙ definition_names schema e stored h in
    subst (IsKeptText schema) same (subst (λ ns. text_queries schema ns (stored_text schema ns queries.0) ≡ Ok queries.0) (sym named) kept)

pub definition_keeps : (schema : Schema) (e : Element) (r : Result StoredQuery AskFault) → KeepsRules schema → IsInDocument e → GivesBut OutOfMemory (λ x. x) r (definition_of schema e) → IfOk r (IsKeptText schema)
definition_keeps schema e (Ok stored) keeps fit h = definition_kept schema e stored keeps fit h
definition_keeps schema e (Err fault) keeps fit h = tt
